-- One node more is made: what is made so far goes on with what the rest makes.
use Rattle.std.proofs.Common.{◌≡◌, sym, ap, ◌∙◌, ℕ, ◌+◌, ◌<◌, ◌≤◌, List, ◌∷◌, length, get_or, drop}
use Rattle.std.proofs.lemmas.List.{at_drop_more, at_drop_all}
use Rattle.sheet_names.specs.Judging.{behind}
use Rattle.sheet_names.specs.Names.{Name}
use Rattle.sheet_reading.specs.declared.tree.Item.{Item}
use Rattle.sheet_reading.specs.declared.tree.Judged.{Judged}
use Rattle.sheet_making.specs.declared.content.Content.{Content}
use Rattle.sheet_making.specs.declared.made.Made.{Made}
use Rattle.sheet_making.specs.declared.scope.Making.{Making}
use Rattle.sheet_making.specs.Contents.{content_from, with_made}
use Rattle.sheet_making.specs.Instructions.{each_makes, item_makes}
use Rattle.sheet_making.specs.Scopes.{Scope, scope}

pub goes_on : (f : Scope → Judged → Made) (M : Making) (before between after : List Name) (items : List Item) (i : ℕ) (x : Item) (m : Made) (c d whole : Content)
    → i < length items → x ≡ get_or items i x → whole ≡ content_from c (each_makes f (scope M before) (drop i items)) → m ≡ item_makes f (scope M before) x → d ≡ with_made c m
    → between ≡ before → after ≡ behind between x → whole ≡ content_from d (each_makes f (scope M after) (drop (i + 1) items))
goes_on f M before between after items i x m c d whole within is left made added kept entered =
    left
    ∙ ap (content_from c) (at_drop_more (each_makes f (scope M before)) items i x within ∙ ap (λ (y : Item). each_makes f (scope M before) (y ∷ drop (i + 1) items)) (sym is))
    ∙ ap (λ (n : Made). content_from (with_made c n) (each_makes f (scope M (behind before x)) (drop (i + 1) items))) (sym made)
    ∙ ap (λ (e : Content). content_from e (each_makes f (scope M (behind before x)) (drop (i + 1) items))) (sym added)
    ∙ ap (λ (locals : List Name). content_from d (each_makes f (scope M locals) (drop (i + 1) items))) (sym (entered ∙ ap (λ (locals : List Name). behind locals x) kept))

pub ends : (f : Scope → Judged → Made) (S : Scope) (items : List Item) (i : ℕ) (c whole : Content) → length items ≤ i → whole ≡ content_from c (each_makes f S (drop i items)) → c ≡ whole
ends f S items i c whole past left = sym (left ∙ ap (content_from c) (at_drop_all (each_makes f S) items i past))
