use Rattle.strip_rules.proofs.Deciding.{best_decides, none_fits}
use Rattle.strip_rules.proofs.laws.highest_and_last_rule_decides.Goals as goal

pub returns-clause-rule : goal.returns-clause-rule
returns-clause-rule c = λ rules row rule h. best_decides rules row rule h

pub returns-clause-none : goal.returns-clause-none
returns-clause-none c = λ rules row h j other a. none_fits rules row h j other a
