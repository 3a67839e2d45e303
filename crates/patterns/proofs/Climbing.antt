-- The ancestors of a row are its parent and the ancestors of that, in this order.
use Rattle.std.proofs.Common.{◌≡◌, sym, ap, ◌∙◌, ℕ, suc, ◌+◌, ◌<◌, ◌≤◌, List, [], ◌∷◌, ◌++◌, length, reverse, filter, Bool, true, false, ◌&&◌, Some, None, arith}
use Rattle.std.proofs.lemmas.Bool.{and_from, and_right}
use Rattle.std.proofs.lemmas.List.{reverse-append}
use Rattle.doc_model.specs.declared.node_test.Test.TheVariants as test
use Rattle.doc_model.specs.declared.row.Axis.TheVariants as axis
use Rattle.doc_model.specs.declared.row.Row.{Row}
use Rattle.doc_model.specs.declared.step.Step.{Step}
use Rattle.doc_model.specs.declared.strip_rule.StripRule.{StripRule}
use Rattle.doc_model.specs.Axes.{is_below, is_selected, axis_rows}
use Rattle.doc_model.specs.Lawful.{IsLawful, IsJoined}
use Rattle.doc_model.specs.Relations.{numbers, parent_of}
use Rattle.doc_model.specs.Rows.{rows_of}
use Rattle.doc_model.specs.Strip.{is_visible}
use Rattle.doc_laws.proofs.Links.{parent_before}
use Rattle.doc_laws.proofs.Numbers.{filter_same, filter_nothing}
use Rattle.doc_laws.proofs.Rooted.{IsRooted, lawful_rooted}
use Rattle.doc_laws.proofs.Sound.{TreeHolds, lawful_tree}
use Rattle.doc_laws.proofs.Ancestors.{is_around, ancestors_by_parent}
use Rattle.axis_walkers.specs.Offered.{only_if}
use Rattle.axis_walkers.proofs.Facts.{around_between, around_itself, around_under, below_low, parent_visible}
use Rattle.axis_walkers.proofs.Walking.{filter_skip, filter_on}

abbrev selected : List StripRule → List Row → ℕ → ℕ → Bool
selected rules rows n k = is_selected rules rows n axis.Ancestor test.Any k

-- a row that is not around another is none of its ancestors
not_above : (rules : List StripRule) (rows : List Row) (n k : ℕ) → is_below rows k n ≡ false → selected rules rows n k ≡ false
not_above rules rows n k e = and_right (is_visible rules rows k) (is_below rows k n) e

module _ (rules : List StripRule) (rows : List Row) (tree : TreeHolds rows) (rooted : IsRooted rows) (n : ℕ) (within : n < length rows) where
  none_above : parent_of rows n ≡ None → axis_rows rules rows n axis.Ancestor test.Any ≡ []
  none_above p = ap reverse (filter_nothing (selected rules rows n) 0 (length rows) (λ k a b. not_above rules rows n k (ancestors_by_parent rows tree rooted n k None within p)))

  module _ (m : ℕ) (p : parent_of rows n ≡ Some m) where
    before : (m < n) × (m < length rows)
    before = parent_before rows n m p

    around : (k : ℕ) → is_below rows k n ≡ is_around rows (Some m) k
    around k = ancestors_by_parent rows tree rooted n k (Some m) within p

    nearer : (k : ℕ) → suc m ≤ k → k < length rows → selected rules rows n k ≡ false
    nearer k a b = not_above rules rows n k (around k ∙ around_between rows m k (omega arith))

    here : selected rules rows n m ≡ true
    here = and_from (is_visible rules rows m) (is_below rows m n) (parent_visible rules rows n m tree within p) (around m ∙ around_itself rows m)

    farther : (k : ℕ) → 0 ≤ k → k < 0 + m → selected rules rows n k ≡ selected rules rows m k
    farther k a b = ap (λ below. is_visible rules rows k && below) (around k ∙ around_under rows m k (omega arith))

    over : (k : ℕ) → m ≤ k → k < length rows → selected rules rows m k ≡ false
    over k a b = not_above rules rows m k (below_low rows k m a)

    some_above : axis_rows rules rows n axis.Ancestor test.Any ≡ m ∷ axis_rows rules rows m axis.Ancestor test.Any
    some_above =
        ap reverse (filter_skip (selected rules rows n) (suc m) (length rows) (let b = before.1 in omega (arith, b)) nearer
        ∙ filter_on (selected rules rows n) m ∙ ap (λ b. filter (selected rules rows n) (numbers 0 m) ++ only_if b m) here
        ∙ ap (λ ks. ks ++ m ∷ []) (filter_same (selected rules rows n) (selected rules rows m) 0 m farther
        ∙ sym (filter_skip (selected rules rows m) m (length rows) (let b = before.1 in omega (arith, b)) over)))
        ∙ reverse-append (filter (selected rules rows m) (numbers 0 (length rows))) (m ∷ [])

pub root_alone : (rules : List StripRule) (steps : List Step) (n : ℕ) → IsLawful steps → IsJoined steps n → parent_of (rows_of steps) n ≡ None
    → axis_rows rules (rows_of steps) n axis.Ancestor test.Any ≡ []
root_alone rules steps n l j p = none_above rules (rows_of steps) (lawful_tree steps l.each) (lawful_rooted steps l.each) n j p

pub parent_first : (rules : List StripRule) (steps : List Step) (n m : ℕ) → IsLawful steps → IsJoined steps n → parent_of (rows_of steps) n ≡ Some m
    → axis_rows rules (rows_of steps) n axis.Ancestor test.Any ≡ m ∷ axis_rows rules (rows_of steps) m axis.Ancestor test.Any
parent_first rules steps n m l j p = some_above rules (rows_of steps) (lawful_tree steps l.each) (lawful_rooted steps l.each) n j m p
