use Rattle.std.proofs.Common.{◌∙◌}
use Rattle.result_events.proofs.Standing.{place_from-position}
use Rattle.result_events.proofs.attributes.Attributes.place_of.Goals as goal

pub returns-else-len-gt-FEW : goal.returns-else-len-gt-FEW
returns-else-len-gt-FEW c =
    let searched = rw c.as_slice.ensures.value at c.position_of.ensures in
    rw c.self.view_is at (searched ∙ place_from-position c.args.name.now c.self.inside.list.items)
