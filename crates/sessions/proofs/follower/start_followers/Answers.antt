use Rattle.std.proofs.Common.{◌≡◌, ℕ, suc, ◌+◌, List, [], ◌∷◌, ◌++◌, replicate, sym, ◌∙◌, ap, subst, arith}
use Rattle.std.proofs.lemmas.List.{map-append}
use Rattle.sessions.specs.Running.{AreBehind}
use Rattle.sessions.proofs.Readers.{behind_join, made_by, one_more_zero}
use Rattle.sessions.proofs.follower.start_followers.Goals as goal

pub loop-preserved : goal.loop-preserved
loop-preserved c =
    let items = c.in_ok-push.ensures.items in
    let old = c.loop.followers.items in
    let next = c.start.result in
    let counts = map-append made_by old (next ∷ []) ∙ ap (λ (counts : List ℕ). counts ++ next.walker.made ∷ []) c.loop.invariant.0
    ∙ ap (λ (made : ℕ). replicate {A = ℕ} c.loop.counter 0 ++ made ∷ []) c.start.ensures.made ∙ sym (one_more_zero c.loop.counter) in
    let count : c.loop.counter + 1 ≡ suc c.loop.counter = omega arith in
    (rw (items, count) counts, subst (AreBehind []) (sym items) (behind_join [] old (next ∷ []) c.loop.invariant.1 (c.start.ensures.behind, tt)))
