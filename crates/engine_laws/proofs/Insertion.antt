-- Lists that are sorted by insertion.
use Rattle.std.proofs.Common.{◌≡◌, refl, sym, ap, ◌∙◌, Bool, true, false, cond, List, [], ◌∷◌}
use Rattle.std.specs.Prelude.{⊤}
use Rattle.std.specs.Cmp.{IsTotalOrder}
use Rattle.std.specs.Ordering.{is_lt, ordering_reverse}
use Rattle.std.specs.declared.cmp.Ordering.{Ordering}
use Rattle.std.specs.declared.cmp.Ordering.TheVariants.{Less, Equal, Greater}
use Rattle.rule_choice.specs.Sorting.{placed, sorted_by}
use Rattle.xpath_laws.specs.Sound.{Each}

module _ {A : Type 0} (cmp : A → A → Ordering) where
  abbrev pub NotBefore : A → A → Type 0
  NotBefore z x = cmp z x ≡ Less → ⊥

  -- none of these comes before x
  abbrev pub NoneBefore : A → List A → Type 0
  NoneBefore x xs = Each (λ z. NotBefore z x) xs

  abbrev pub Ascends : List A → Type 0
  Ascends [] = ⊤
  Ascends (x ∷ xs) = NoneBefore x xs × Ascends xs

  -- what all have, all of the list with x have, and the other way round
  pub each_placed : (P : A → Type 0) (x : A) (ys : List A) → P x → Each P ys → Each P (placed cmp x ys)
  each_placed P x [] p a = (p, tt)
  each_placed P x (y ∷ ys) p a = by_test (is_lt (cmp y x)) (each_placed P x ys p a.1)
    where
      by_test : (b : Bool) → Each P (placed cmp x ys) → Each P (cond b (y ∷ placed cmp x ys) (x ∷ y ∷ ys))
      by_test true r = (a.0, r)
      by_test false r = (p, a)

  pub of_placed : (P : A → Type 0) (x : A) (ys : List A) → Each P (placed cmp x ys) → P x × Each P ys
  of_placed P x [] a = (a.0, tt)
  of_placed P x (y ∷ ys) a = by_test (is_lt (cmp y x)) a (of_placed P x ys)
    where
      by_test : (b : Bool) → Each P (cond b (y ∷ placed cmp x ys) (x ∷ y ∷ ys)) → (Each P (placed cmp x ys) → P x × Each P ys) → P x × Each P (y ∷ ys)
      by_test true h f = let r = f h.1 in (r.0, (h.0, r.1))
      by_test false h f = (h.0, h.1)

  pub each_sorted : (P : A → Type 0) (xs : List A) → Each P xs → Each P (sorted_by cmp xs)
  each_sorted P [] a = tt
  each_sorted P (x ∷ xs) a = each_placed P x (sorted_by cmp xs) a.0 (each_sorted P xs a.1)

  pub of_sorted : (P : A → Type 0) (xs : List A) → Each P (sorted_by cmp xs) → Each P xs
  of_sorted P [] a = tt
  of_sorted P (x ∷ xs) a = let r = of_placed P x (sorted_by cmp xs) a in (r.0, of_sorted P xs r.1)

  module _ (total : IsTotalOrder cmp) where
    turned : (x y : A) → cmp y x ≡ Less → NotBefore x y
    turned x y l m = cc (sym (total.antisymm x y) ∙ m, ap ordering_reverse l)

    pub not_before_itself : (x : A) → NotBefore x x
    not_before_itself x l = turned x x l l

    through : (x y z : A) → NotBefore y x → NotBefore z y → NotBefore z x
    through x y z f g l = by_order (cmp z y) refl
      where
        by_order : (o : Ordering) → cmp z y ≡ o → ⊥
        by_order Less e = g e
        by_order Equal e = f (sym (total.congr z y x e) ∙ l)
        by_order Greater e = f (total.trans y z x (total.antisymm y z ∙ ap ordering_reverse e) l)

    by_false : (x y : A) → is_lt (cmp y x) ≡ false → NotBefore y x
    by_false x y e l = cc (e, ap is_lt l)

    pub all_through : (x y : A) (ys : List A) → NotBefore y x → NoneBefore y ys → NoneBefore x ys
    all_through x y [] f a = tt
    all_through x y (z ∷ zs) f a = (through x y z f a.0, all_through x y zs f a.1)

    is_less : (o : Ordering) → is_lt o ≡ true → o ≡ Less
    is_less Less e = refl
    is_less Equal e = cc
    is_less Greater e = cc

    placed_ascends : (x : A) (ys : List A) → Ascends ys → Ascends (placed cmp x ys)
    placed_ascends x [] a = (tt, tt)
    placed_ascends x (y ∷ ys) a = by_test (is_lt (cmp y x)) refl (placed_ascends x ys a.1)
      where
        by_test : (b : Bool) → is_lt (cmp y x) ≡ b → Ascends (placed cmp x ys) → Ascends (cond b (y ∷ placed cmp x ys) (x ∷ y ∷ ys))
        by_test true e r = (each_placed (λ z. NotBefore z y) x ys (turned x y (is_less (cmp y x) e)) a.0, r)
        by_test false e r = ((by_false x y e, all_through x y ys (by_false x y e) a.0), a)

    pub sorted_ascends : (xs : List A) → Ascends (sorted_by cmp xs)
    sorted_ascends [] = tt
    sorted_ascends (x ∷ xs) = placed_ascends x (sorted_by cmp xs) (sorted_ascends xs)
