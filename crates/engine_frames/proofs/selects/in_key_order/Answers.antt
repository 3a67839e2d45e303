use Rattle.std.proofs.Common.{◌≡◌, ap, ◌∙◌, subst, map}
use Rattle.std.specs.Prelude.{IfOk}
use Rattle.engine_meaning.specs.Sorts.{node_in}
use Rattle.engine_frames.proofs.Ordering.{ordered_so}
use Rattle.engine_frames.proofs.selects.in_key_order.Goals as goal

pub returns : goal.returns
returns c =
    subst (λ l. IfOk c.nodes_in.result (λ found. found ≡ l))
    (ap (map (node_in c.args.nodes.now)) c.as_slice-2.ensures
    ∙ ordered_so c.args.sorts.now c.args.nodes.now c.args.rows.now c.as_slice.result.now c.in_ok-places.places (c.as_slice.ensures ∙ c.in_ok-hows.ensures) c.in_ok-places.ensures.places
    c.in_ok-places.ensures.sorted) c.nodes_in.ensures
