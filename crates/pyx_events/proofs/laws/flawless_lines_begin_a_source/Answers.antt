use Rattle.pyx_events.proofs.Beginning.{flaw_begun}
use Rattle.pyx_events.proofs.laws.flawless_lines_begin_a_source.Goals as goal

pub returns : goal.returns
returns c = flaw_begun
