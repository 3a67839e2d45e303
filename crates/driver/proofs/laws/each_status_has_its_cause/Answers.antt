use Rattle.driver.proofs.StatusLemmas.{two_tells, words_first, low_tells, five_tells, seven_tells}
use Rattle.driver.proofs.laws.each_status_has_its_cause.Goals as goal

pub returns : goal.returns
returns c = record { no_plan = two_tells; judged_first = words_first; read_whole = low_tells; read_failed = five_tells; memory = seven_tells }
