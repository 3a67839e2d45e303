use Rattle.pyx_events.proofs.Beginning.{whole}
use Rattle.pyx_events.proofs.laws.a_source_without_a_flaw_has_flawless_lines.Goals as goal

pub returns : goal.returns
returns c = whole
