use Rattle.std.proofs.Common.{sym}
use Rattle.line_feeder.proofs.Answers.{refuses_grows}
use Rattle.line_feeder.proofs.answering.build_line.Goals as goal

pub returns-in-Ok-clause-grows : goal.returns-in-Ok-clause-grows
returns-in-Ok-clause-grows g c = (_, sym (c.in-Ok.ensures.steps c.requires.stands.0 c.requires.stands.1))

pub returns-in-Err-clause-grows : goal.returns-in-Err-clause-grows
returns-in-Err-clause-grows g c = refuses_grows _ _ _ c.in-Err.error (c.in-Err.ensures.ended c.requires.stands.0 c.requires.stands.1)
