use Rattle.std.proofs.Common.{sym}
use Rattle.engine_frames.proofs.Moving.{items_over, items_on}
use Rattle.engine_frames.proofs.selects.items.Goals as goal

pub returns-in_default : goal.returns-in_default
returns-in_default g c = λ lookups rules steps s. items_over _ _ _ c.args.nodes c.args.next c.args.work c.args.context s (sym c.in_default.ensures.value)

pub returns : goal.returns
returns g c = λ lookups rules steps s.
    rw (c.in_ok-push-2.ensures.ok, c.in_ok-push.ensures.ok, c.in_ok-first.ensures, c.item_of-item.ensures, c.len-2.ensures, c.len.ensures)
    (items_on _ _ _ c.args.nodes c.args.next c.args.work c.args.context c.in-Some.node.now s (sym c.in-Some.ensures.value))
