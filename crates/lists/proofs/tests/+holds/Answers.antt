use Rattle.std.proofs.Common.{◌≡◌, ℕ, Bool, List, [], ◌∷◌, ◌||◌, ◌∙◌, ap, sym, refl, map, take}
use Rattle.std.proofs.lemmas.List.{take_all}
use Rattle.std.specs.List.{list_any}
use Rattle.lists.specs.declared.tests.Tree.{Tree}
use Rattle.lists.specs.declared.tests.Tree.TheVariants as tree
use Rattle.lists.specs.declared.tests.Tree.TheFolds.{fold_out-Tree, map-Tree}
use Rattle.lists.proofs.tests.+holds.Invariants.{layer_holds, holds_of}
use Rattle.lists.proofs.tests.+holds.Goals as goal

any_of : {X : Type 0} (p : X → Bool) (xs : List X) → list_any (λ b. b) (map p xs) ≡ list_any p xs
any_of p [] = refl
any_of p (x ∷ xs) = ap (λ b. p x || b) (any_of p xs)

holds_any : (byte : ℕ) (parts : List Tree) → holds_of byte (tree.Any parts) ≡ list_any (holds_of byte) parts
holds_any byte parts = fold_out-Tree Bool (layer_holds byte) (tree.Any parts)
    ∙ ap (λ layer. layer_holds byte (map-Tree Tree Bool (holds_of byte) layer)) (tree.outs-Any parts) ∙ any_of (holds_of byte) parts

pub returns-after-loop-part : goal.returns-after-loop-part
returns-after-loop-part t c =
    let whole : take c.loop-part.part-index c.in-Any.parts ≡ c.in-Any.parts = rw (← c.as_slice-part-items.ensures) (take_all c.loop-part.part-index c.as_slice-part-items.result.now c.loop-part-test.false) in
    let any : c.loop-part.any ≡ list_any (holds_of c.args.byte) c.in-Any.parts = cc (c.loop-part.invariant, c.as_slice-part-items.ensures, whole) in
    rw c.in-Any.is (any ∙ sym (holds_any c.args.byte c.in-Any.parts))
