use Rattle.std.proofs.Common.{◌≡◌, [], map, sym, ◌∙◌, ap, append-nil}
use Rattle.std.specs.Vec.Iter.{into_iter_items}
use Rattle.sessions.specs.declared.follower.Follower.{Follower}
use Rattle.sessions.specs.Running.{builtin_outcome}
use Rattle.sessions.proofs.Readers.{nothing_left, outcomes_told}
use Rattle.sessions.proofs.follower.finish_followers.Goals as goal

pub returns : goal.returns
returns c =
    let at = c.loop-follower in
    let outcome = builtin_outcome c.args.table.now.cells.steps in
    let none = c.in-None.ensures.steps in
    let empty : into_iter_items at.follower-iterator ≡ [] = nothing_left _ (sym at.invariant.3 ∙ none.0) in
    let all = sym (append-nil at.yielded) ∙ rw empty at at.invariant.0 ∙ c.into_iter-follower-iterator.ensures.into_iter_gives.0 in
    at.invariant.2 ∙ ap (map (λ (_ : Follower). outcome)) all ∙ outcomes_told c.args.followers.items outcome
