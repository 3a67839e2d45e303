-- One turn of each loop, and its end; and meanings that stay.
use Rattle.std.proofs.Common.{◌≡◌, refl, sym, ap, ◌∙◌, ℕ, ◌+◌, ◌<◌, ◌≤◌, List, [], ◌∷◌, ◌++◌, length, get_or, drop, append_assoc, append-nil, add-one, drop-cons}
use Rattle.std.proofs.lemmas.List.{drop_all}
use Rattle.doc_model.specs.Answers.{Known, Fault, Open}
use Rattle.xpath_meaning.specs.Outcome.{Outcome, ◌>>=◌, each_of}
use Rattle.xpath_meaning.specs.Steps.{joined}

rest_of : {A : Type 0} (xs : List A) (i : ℕ) (x : A) → i < length xs → x ≡ get_or xs i x → drop i xs ≡ x ∷ drop (i + 1) xs
rest_of xs i x h is = drop-cons xs i x h ∙ ap (λ k. get_or xs i x ∷ drop k xs) (sym (add-one i)) ∙ ap (λ y. y ∷ drop (i + 1) xs) (sym is)

-- ---- what each item gives

starts : {A : Type 0} (o : Outcome (List A)) (none : List A) → none ≡ [] → o ≡ (o >>= λ more. Known (none ++ more))
starts (Known xs) none e = ap (λ n. Known (n ++ xs)) (sym e)
starts (Fault f) none e = refl
starts (Open m) none e = refl

collects : {A : Type 0} (a : Outcome A) (b : Outcome (List A)) (so_far : List A)
    → ((a >>= λ y. b >>= λ ys. Known (y ∷ ys)) >>= λ more. Known (so_far ++ more)) ≡ (a >>= λ y. b >>= λ more. Known ((so_far ++ y ∷ []) ++ more))
collects (Known y) (Known ys) so_far = ap Known (sym (append_assoc so_far (y ∷ []) ys))
collects (Known y) (Fault f) so_far = refl
collects (Known y) (Open m) so_far = refl
collects (Fault f) b so_far = refl
collects (Open m) b so_far = refl

-- what is left of giving all
abbrev pub giving : {A B : Type 0} → (A → Outcome B) → List A → List B → Outcome (List B)
giving f left so_far = each_of f left >>= λ more. Known (so_far ++ more)

pub each_starts : {A B : Type 0} (f : A → Outcome B) (xs : List A) (none : List B) → none ≡ [] → each_of f xs ≡ giving f (drop 0 xs) none
each_starts f xs none e = starts (each_of f xs) none e

pub each_turns : {A B : Type 0} (f : A → Outcome B) (xs : List A) (i : ℕ) (x : A) (so_far : List B) → i < length xs → x ≡ get_or xs i x
    → giving f (drop i xs) so_far ≡ (f x >>= λ y. giving f (drop (i + 1) xs) (so_far ++ y ∷ []))
each_turns f xs i x so_far h is = ap (λ left. giving f left so_far) (rest_of xs i x h is) ∙ collects (f x) (each_of f (drop (i + 1) xs)) so_far

pub each_ends : {A B : Type 0} (f : A → Outcome B) (xs : List A) (i : ℕ) (so_far : List B) → length xs ≤ i → giving f (drop i xs) so_far ≡ Known so_far
each_ends f xs i so_far h = ap (λ left. giving f left so_far) (drop_all i xs h) ∙ ap Known (append-nil so_far)

-- ---- the texts that the items give, joined

joins : (a : Outcome (List ℕ)) (b : Outcome (List (List ℕ))) (so_far : List ℕ)
    → ((a >>= λ y. b >>= λ ys. Known (y ∷ ys)) >>= λ texts. Known (so_far ++ joined texts)) ≡ ((a >>= λ y. Known (so_far ++ y)) >>= λ text. b >>= λ texts. Known (text ++ joined texts))
joins (Known y) (Known ys) so_far = ap Known (sym (append_assoc so_far y (joined ys)))
joins (Known y) (Fault f) so_far = refl
joins (Known y) (Open m) so_far = refl
joins (Fault f) b so_far = refl
joins (Open m) b so_far = refl

-- what is left of joining all
abbrev pub joining : {A : Type 0} → (A → Outcome (List ℕ)) → List A → List ℕ → Outcome (List ℕ)
joining f left so_far = each_of f left >>= λ texts. Known (so_far ++ joined texts)

pub texts_start : {A : Type 0} (f : A → Outcome (List ℕ)) (xs : List A) (none : List ℕ) → none ≡ [] → (each_of f xs >>= λ texts. Known (joined texts)) ≡ joining f (drop 0 xs) none
texts_start f xs none e = ap (λ n. each_of f xs >>= λ texts. Known (n ++ joined texts)) (sym e)

pub texts_turn : {A : Type 0} (f : A → Outcome (List ℕ)) (xs : List A) (i : ℕ) (x : A) (so_far : List ℕ) → i < length xs → x ≡ get_or xs i x
    → joining f (drop i xs) so_far ≡ ((f x >>= λ y. Known (so_far ++ y)) >>= joining f (drop (i + 1) xs))
texts_turn f xs i x so_far h is = ap (λ left. joining f left so_far) (rest_of xs i x h is) ∙ joins (f x) (each_of f (drop (i + 1) xs)) so_far

pub texts_end : {A : Type 0} (f : A → Outcome (List ℕ)) (xs : List A) (i : ℕ) (so_far : List ℕ) → length xs ≤ i → joining f (drop i xs) so_far ≡ Known so_far
texts_end f xs i so_far h = ap (λ left. joining f left so_far) (drop_all i xs h) ∙ ap Known (append-nil so_far)
