-- Numbering one more item.
use Rattle.std.proofs.Common.{◌≡◌, ◌≢◌, ◌⊎◌, inl, inr, ℕ, zero, suc, List, [], ◌∷◌, ◌++◌, length, Option, Some, refl, sym, ap, subst, ◌∙◌, ⊎_elim}
use Rattle.std.specs.Prelude.{slice_get}
use Rattle.std.proofs.lemmas.Option.{same_Some, none-some}
use Rattle.shared_texts.specs.Numbers.{Numbers, IsNew, Keeps}

module _ {X : Type 0} where
  pub keeps_push : (xs : List X) (y : X) → Keeps xs (xs ++ y ∷ [])
  keeps_push [] y x k e = absurd (none-some x e)
  keeps_push (z ∷ zs) y x zero e = e
  keeps_push (z ∷ zs) y x (suc k) e = keeps_push zs y x k e

  pub at_end : (xs : List X) (y : X) → slice_get (xs ++ y ∷ []) (length xs) ≡ Some y
  at_end [] y = refl
  at_end (z ∷ zs) y = at_end zs y

  pub pushed : (xs : List X) (y x : X) (k : ℕ) → slice_get (xs ++ y ∷ []) k ≡ Some x → (slice_get xs k ≡ Some x) ⊎ ((k ≡ length xs) × (x ≡ y))
  pushed [] y x zero e = inr (refl, sym (same_Some y x e))
  pushed [] y x (suc k) e = absurd (none-some x e)
  pushed (z ∷ zs) y x zero e = inl e
  pushed (z ∷ zs) y x (suc k) e = ⊎_elim inl (λ p. inr (ap suc p.0, p.1)) (pushed zs y x k e)

  -- what a look-up answers once an item was put at this number
  abbrev pub Puts : (X → Option ℕ) → (X → Option ℕ) → X → ℕ → Type 0
  Puts look next y n = (x : X) → ((x ≡ y) × (next x ≡ Some n)) ⊎ ((x ≢ y) × (next x ≡ look x))

  module _ (look next : X → Option ℕ) (xs : List X) (y : X) (h : Numbers look xs) (new : IsNew xs y) (puts : Puts look next y (length xs)) where
    pub numbers_push : Numbers next (xs ++ y ∷ [])
    numbers_push x k =
        ⊎_elim
        (λ p. (
          (λ e. let n = same_Some (length xs) k (sym p.1 ∙ e) in subst (λ j. slice_get (xs ++ y ∷ []) j ≡ Some x) n (at_end xs y ∙ ap Some (sym p.0))),
          λ e. ⊎_elim (λ old. absurd (new k (old ∙ ap Some p.0))) (λ end. p.1 ∙ ap Some (sym end.0)) (pushed xs y x k e),
        ))
        (λ p. (
          (λ e. keeps_push xs y x k ((h x k).0 (sym p.1 ∙ e))),
          λ e. ⊎_elim (λ old. p.1 ∙ (h x k).1 old) (λ end. absurd (p.0 end.1)) (pushed xs y x k e),
        ))
        (puts x)
