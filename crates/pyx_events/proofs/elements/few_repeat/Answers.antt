use Rattle.std.proofs.Common.{◌+◌, ◌-◌, length}
use Rattle.pyx_events.proofs.Numbered.{as_many, numbered_from, numbered_part}
use Rattle.pyx_events.proofs.elements.few_repeat.Goals as goal

pub has_expanded-requires-clause-rows : goal.has_expanded-requires-clause-rows
has_expanded-requires-clause-rows c =
    rw (as_many c.args.scopes.now.uris c.args.rows.now c.args.numbers.now c.requires)
    (numbered_part c.args.scopes.now.uris _ _ (length c.args.rows.now - (c.loop-i.i + 1)) (numbered_from c.args.scopes.now.uris c.args.rows.now c.args.numbers.now (c.loop-i.i + 1) c.requires))
