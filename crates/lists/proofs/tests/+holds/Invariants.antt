use Rattle.std.proofs.Common.{◌≡◌, Bool, eqb, not, ℕ, take}
use Rattle.std.specs.List.{list_any}
use Rattle.lists.specs.declared.tests.Tree.{Tree}
use Rattle.lists.specs.declared.tests.Tree.TheOpen.{Tree-F}
use Rattle.lists.specs.declared.tests.Tree.TheFolds.{fold-Tree}
use Rattle.lists.proofs.tests.+holds.Given as goal

abbrev pub layer_holds : ℕ → Tree-F Bool → Bool
layer_holds byte layer = elim layer [ Tree-F.Leaf x ↦ eqb x byte | Tree-F.Not inner ↦ not inner | Tree-F.Any parts ↦ list_any (λ part. part) parts ]

abbrev pub holds_of : ℕ → Tree → Bool
holds_of byte = fold-Tree Bool (layer_holds byte)

abbrev pub invariant-loop-part : goal.invariant-loop-part
invariant-loop-part l = l.any ≡ list_any (holds_of l.byte) (take l.part-index l.part-items)
