-- Lists that are gone through from the left: what the rest makes of what is there, the whole makes.
use Rattle.std.proofs.Common.{◌≡◌, sym, ap, ◌∙◌, ℕ, ◌+◌, ◌<◌, ◌≤◌, List, [], ◌∷◌, length, get_or, drop}
use Rattle.std.proofs.lemmas.List.{at_drop_more, at_drop_all}

pub folds_on : {A B : Type 0} (go : B → List A → B) (step : B → A → B) → ((b : B) (x : A) (xs : List A) → go b (x ∷ xs) ≡ go (step b x) xs) → (items : List A) (i : ℕ) (x : A) (b next whole : B)
    → i < length items → x ≡ get_or items i x → whole ≡ go b (drop i items) → next ≡ step b x → whole ≡ go next (drop (i + 1) items)
folds_on {A} {B} go step turn items i x b next whole within is so_far stepped =
    so_far ∙ at_drop_more (go b) items i x within ∙ ap (λ (y : A). go b (y ∷ drop (i + 1) items)) (sym is) ∙ turn b x (drop (i + 1) items)
    ∙ ap (λ (c : B). go c (drop (i + 1) items)) (sym stepped)

pub folds_end : {A B : Type 0} (go : B → List A → B) (items : List A) (i : ℕ) (b whole : B) → go b [] ≡ b → length items ≤ i → whole ≡ go b (drop i items) → b ≡ whole
folds_end go items i b whole done past so_far = sym (so_far ∙ at_drop_all (go b) items i past ∙ done)
