use Rattle.pyx_events.proofs.Among.{completed_numbered, line_keeps}
use Rattle.pyx_events.proofs.laws.numbers_stand_for_uris.Goals as goal

pub returns-clause-node : goal.returns-clause-node
returns-clause-node c = completed_numbered

pub returns-clause-kept : goal.returns-clause-kept
returns-clause-kept c = line_keeps
