use Rattle.engine_laws.proofs.Trials.{chosen_first, none_chosen}
use Rattle.engine_laws.proofs.rules.choices_stand_over_other_matching_rules.Goals as goal

pub returns-clause-rule : goal.returns-clause-rule
returns-clause-rule c = λ R rules mode n place e. chosen_first R rules mode n place e

pub returns-clause-none : goal.returns-clause-none
returns-clause-none c = λ R rules mode n e. none_chosen R rules mode n e
