-- The rule's part on seats, after the view of one of them changed or a pass came.
use Rattle.std.proofs.Common.{◌≡◌, ◌≢◌, ℕ, zero, suc, List, [], ◌∷◌, ◌++◌, set, Bool, true, false, true≢false}
use Rattle.std.proofs.Common.{refl, sym, ap, ◌∙◌, subst, ⊎_elim}
use mathlib.Core.Option.{some, some-ne-none, some-injective}
use mathlib.Core.Logic.{dite}
use mathlib.Core.List.{IsPrefix}
use native.Mathlib.Decide.{ℕ_discrete}
use lib.ListN.{get_elem?}
use Rattle.atomic_table.proofs.Lists.{at_set, at_snoc, at_longer, set_else}
use Rattle.link_cells.specs.declared.entry.Entry.{Entry}
use Rattle.link_cells.specs.declared.layout.Layout.{Layout}
use Rattle.link_cells.specs.declared.view.View.{View}
use Rattle.link_cells.specs.Views.{IsWriter}
use Rattle.link_cells.specs.Rule.{Fits, Seated}

-- the view of a seat that has one, after it changed
pub set_at : {A : Type 0} (l : List A) (i : ℕ) (a b : A) → get_elem? l i ≡ some a → get_elem? (set l i b) i ≡ some b
set_at [] i a b e = absurd (some-ne-none a (sym e))
set_at (x ∷ xs) zero a b e = refl
set_at (x ∷ xs) (suc i) a b e = set_at xs i a b e

-- no bit is off and on
pub off : {b : Bool} → b ≡ false → b ≡ true → ⊥
off {b} isnt is = true≢false (sym is ∙ isnt)

module _ (layout : Layout) (writer : ℕ) where
  -- a seat that doesn't write fits where its lists are beginnings of the log
  pub fits_pass : (log : List Entry) (id : ℕ) (w : View) → w.writes ≡ false
      → IsPrefix w.seen log → IsPrefix w.met log → w.layout ≡ layout → Fits log layout writer id w
  fits_pass log id w reads seen met laid =
      record {
        seen = seen;
        met = met;
        laid = laid;
        one = λ pen. absurd (off reads pen);
        whole = λ pen. absurd (off reads pen);
      }

  -- the view of one seat changed, and the log with it
  pub seated_set : (log now : List Entry) (id : ℕ) (views : List View) (v w : View)
      → Seated log layout writer views → get_elem? views id ≡ some v
      → ((j : ℕ) (u : View) → j ≢ id → get_elem? views j ≡ some u → u.live ≡ true → Fits now layout writer j u)
      → (w.live ≡ true → Fits now layout writer id w)
      → (IsWriter v → IsWriter w)
      → Seated now layout writer (set views id w)
  seated_set log now id views v w seats at others mine stays =
      record {
        each = λ j u e.
            ⊎_elim
            (λ (x : (j ≡ id) × (w ≡ u)).
            subst (λ (y : ℕ × View). y.1.live ≡ true → Fits now layout writer y.0 y.1) (λ i. (sym x.0 i, x.1 i)) mine)
            (λ (x : (j ≢ id) × (get_elem? views j ≡ some u)). others j u x.0 x.1)
            (at_set views id j w u e);
        pen = dite (ℕ_discrete writer id)
            (λ here. let p = seats.pen in
            let same : p.0 ≡ v = some-injective p.0 v (sym p.1 ∙ (ap (get_elem? views) here ∙ at)) in
            (w, ap (get_elem? (set views id w)) here ∙ set_at views id v w at, stays (subst IsWriter same p.2)))
            (λ apart. let p = seats.pen in (p.0, set_else views id writer w apart ∙ p.1, p.2));
      }

  -- the same, with the log as it was
  pub seated_turn : (log : List Entry) (id : ℕ) (views : List View) (v w : View)
      → Seated log layout writer views → get_elem? views id ≡ some v
      → (w.live ≡ true → Fits log layout writer id w) → (IsWriter v → IsWriter w)
      → Seated log layout writer (set views id w)
  seated_turn log id views v w seats at mine stays =
      seated_set log log id views v w seats at (λ j u apart e live. seats.each j u e live) mine stays

  -- a pass came
  pub seated_push : (log : List Entry) (views : List View) (w : View)
      → Seated log layout writer views → w.writes ≡ false
      → IsPrefix w.seen log → IsPrefix w.met log → w.layout ≡ layout
      → Seated log layout writer (views ++ w ∷ [])
  seated_push log views w seats reads seen met laid =
      record {
        each = λ j u e live.
            ⊎_elim
            (λ (was : get_elem? views j ≡ some u). seats.each j u was live)
            (λ (same : w ≡ u). subst (λ x. Fits log layout writer j x) same
            (fits_pass log j w reads seen met laid))
            (at_snoc views w u j e);
        pen = let p = seats.pen in (p.0, at_longer views (w ∷ []) writer p.0 p.1, p.2);
      }
