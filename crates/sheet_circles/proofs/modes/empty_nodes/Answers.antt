use Rattle.std.proofs.Common.{◌≡◌, sym, ap, ◌∙◌, ℕ, false, List, [], ◌∷◌, ◌++◌}
use Rattle.sheet_circles.specs.Modes.{empty_node}
use Rattle.sheet_circles.proofs.ModeNodes.{one_empty}
use Rattle.sheet_circles.proofs.modes.empty_nodes.Goals as goal

pub loop-preserved : goal.loop-preserved
loop-preserved c =
    c.in_ok-push.ensures.ok ∙ ap (λ (names : List ℕ). c.loop.nodes ++ record { is_global = false; names = names } ∷ []) c.new.ensures
    ∙ ap (λ ns. ns ++ empty_node 0 ∷ []) c.loop.invariant ∙ sym (one_empty c.loop.counter)
