use Rattle.driver.proofs.StatusLemmas.{told_answer}
use Rattle.driver.proofs.laws.told_source_is_answered.Goals as goal

pub returns : goal.returns
returns c = told_answer
