-- Levels of elements.
use Rattle.std.proofs.Common.{◌≡◌, refl, ap, ◌∙◌, subst, ℕ, zero, suc, ◌-◌, arith, List, Result}
use Rattle.std.specs.Prelude.{IfOk}
use Rattle.sheet_names.specs.Names.{Name}
use Rattle.sheet_reading.specs.declared.tree.Item.{Item}
use Rattle.sheet_reading.specs.declared.tree.Judged.{Judged}
use Rattle.sheet_making.specs.declared.content.Content.{Content}
use Rattle.sheet_making.specs.declared.made.Made.{Made}
use Rattle.sheet_making.specs.declared.made.Made.TheVariants.{Nothing}
use Rattle.sheet_making.specs.declared.scope.Making.{Making}
use Rattle.sheet_making.specs.Instructions.{all_make, layer, make, makes}
use Rattle.sheet_making.specs.Scopes.{Scope, scope}

pub no_level : (levels : ℕ) (S : Scope) (e : Judged) → levels ≡ 0 → Nothing ≡ makes levels S e
unfolding makes
no_level zero S e h = refl
no_level (suc n) S e h = absurd (omega arith)

pub one_level : (levels : ℕ) (S : Scope) (e : Judged) → (levels ≡ 0 → ⊥) → layer (makes (levels - 1)) S e ≡ makes levels S e
unfolding makes
one_level zero S e h = absurd (h refl)
one_level (suc n) S e h = let i : suc n - 1 ≡ n = omega arith in ap (λ (k : ℕ). layer (makes k) S e) i

pub one_level_made : {E : Type 0} (levels : ℕ) (S : Scope) (e : Judged) (r : Result Made E) → (levels ≡ 0 → ⊥) → IfOk r (λ (made : Made). made ≡ layer (makes (levels - 1)) S e)
    → IfOk r (λ (made : Made). made ≡ makes levels S e)
one_level_made levels S e r h is = subst (λ (m : Made). IfOk r (λ (made : Made). made ≡ m)) (one_level levels S e h) is

-- an element, by what the nodes in it make
pub layered : {E : Type 0} (f : Scope → Judged → Made) (M : Making) (before after : List Name) (e : Judged) (items : List Item) (content : Content) (r : Result Made E)
    → content ≡ all_make f (scope M before) items → items ≡ e.children → after ≡ before → IfOk r (λ (made : Made). made ≡ make e.tag (scope M after) e content)
    → IfOk r (λ (made : Made). made ≡ layer f (scope M before) e)
layered f M before after e items content r is same kept h =
    subst (λ (m : Made). IfOk r (λ (made : Made). made ≡ m))
    (ap (λ (locals : List Name). make e.tag (scope M locals) e content) kept ∙ ap (make e.tag (scope M before) e) (is ∙ ap (all_make f (scope M before)) same)) h
