use Rattle.dtm_builder.proofs.Beginning.{flaw_begun, steps_begun, through_begun}
use Rattle.dtm_builder.proofs.laws.flawless_lines_begin_a_source.Goals as goal

pub returns-clause-flaw : goal.returns-clause-flaw
returns-clause-flaw c = flaw_begun

pub returns-clause-steps : goal.returns-clause-steps
returns-clause-steps c = steps_begun

pub returns-clause-through : goal.returns-clause-through
returns-clause-through c = through_begun
