use Rattle.pyx_events.proofs.Least.{least}
use Rattle.pyx_events.proofs.laws.first_flaw_is_judged_at_the_least_line.Goals as goal

pub returns : goal.returns
returns c = least
