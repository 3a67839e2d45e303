use Rattle.std.proofs.Common.{Some}
use Rattle.result_events.proofs.Indexing.{found_after}
use Rattle.result_events.proofs.index.note.Goals as goal

pub returns-clause-ok : goal.returns-clause-ok
returns-clause-ok c = found_after c.args.name.now c.in_ok-key.key c.in_ok-key.ensures.local c.in_ok-key.ensures.uri c.args.index.now c.insert.new.self (Some c.args.at) c.in_ok-insert.ensures.updates
