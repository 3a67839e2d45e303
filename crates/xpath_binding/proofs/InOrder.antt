-- Lists that are bound item by item.
use Rattle.std.proofs.Common.{◌≡◌, refl, sym, ap, ◌∙◌, ℕ, zero, suc, ◌+◌, ◌<◌, List, [], ◌∷◌, ◌++◌, map, take, drop, get_or, length, Result, Ok, Err, arith, add-one}
use Rattle.xpath_binding.specs.declared.error.BindError.{BindError}
use Rattle.xpath_binding.specs.Names.{◌>>=◌, Answers}
use Rattle.xpath_binding.specs.Binding.{in_order}
use Rattle.xpath_binding.proofs.Answered.{stops, also}

all_of : {A : Type 0} (m : Result (List A) BindError) → m ≡ (m >>= λ zs. Ok zs)
all_of (Ok zs) = refl
all_of (Err e) = refl

swap : {A : Type 0} (m n : Result (List A) BindError) (a : A)
    → ((m >>= λ ys. n >>= λ zs. Ok (ys ++ zs)) >>= λ zs. Ok (a ∷ zs)) ≡ ((m >>= λ ys. Ok (a ∷ ys)) >>= λ ys. n >>= λ zs. Ok (ys ++ zs))
swap (Ok ys) (Ok zs) a = refl
swap (Ok ys) (Err e) a = refl
swap (Err e) n a = refl

append : {A : Type 0} (rs ss : List (Result A BindError)) → in_order (rs ++ ss) ≡ (in_order rs >>= λ ys. in_order ss >>= λ zs. Ok (ys ++ zs))
append [] ss = all_of (in_order ss)
append (Err e ∷ rs) ss = refl
append (Ok a ∷ rs) ss = ap (λ m. m >>= λ zs. Ok (a ∷ zs)) (append rs ss) ∙ swap (in_order rs) (in_order ss) a

split_at : {A B : Type 0} (f : A → B) (xs : List A) (i : ℕ) (x : A) → i < length xs → x ≡ get_or xs i x
    → map f xs ≡ map f (take i xs) ++ f x ∷ map f (drop (suc i) xs)
split_at f [] i x within at = absurd (omega (arith, within))
split_at f (a ∷ xs) zero x within at = ap (λ z. f z ∷ map f xs) (sym at)
split_at f (a ∷ xs) (suc i) x within at = ap (λ ys. f a ∷ ys) (split_at f xs i x (omega (arith, within)) at)

front_at : {A B : Type 0} (f : A → B) (xs : List A) (i : ℕ) (x : A) → i < length xs → x ≡ get_or xs i x
    → map f (take (suc i) xs) ≡ map f (take i xs) ++ f x ∷ []
front_at f [] i x within at = absurd (omega (arith, within))
front_at f (a ∷ xs) zero x within at = ap (λ z. f z ∷ []) (sym at)
front_at f (a ∷ xs) (suc i) x within at = ap (λ ys. f a ∷ ys) (front_at f xs i x (omega (arith, within)) at)

-- an item more
pub one_more : {A B : Type 0} (f : A → Result B BindError) (xs : List A) (i : ℕ) (x : A) (ys : List B) (y : B)
    → i < length xs → x ≡ get_or xs i x → in_order (map f (take i xs)) ≡ Ok ys → f x ≡ Ok y → in_order (map f (take (i + 1) xs)) ≡ Ok (ys ++ y ∷ [])
one_more f xs i x ys y within at front last = rw add-one (ap in_order (front_at f xs i x within at)
    ∙ (append (map f (take i xs)) (f x ∷ [])
    ∙ (ap (λ m. m >>= λ zs. in_order (f x ∷ []) >>= λ ws. Ok (zs ++ ws)) front
    ∙ ap (λ m. in_order (m ∷ []) >>= λ ws. Ok (ys ++ ws)) last)))

-- the first that is refused
pub stops_at : {A B : Type 0} (f : A → Result B BindError) (xs : List A) (i : ℕ) (x : A) (ys : List B) (e : BindError)
    → i < length xs → x ≡ get_or xs i x → in_order (map f (take i xs)) ≡ Ok ys → Answers (f x) (Err e) → Answers (in_order (map f xs)) (Err e)
stops_at f xs i x ys e within at front h =
    also (in_order (map f xs)) (in_order (f x ∷ map f (drop (suc i) xs)) >>= λ ws. Ok (ys ++ ws)) (Err e) (ap in_order (split_at f xs i x within at)
    ∙ (append (map f (take i xs)) (f x ∷ map f (drop (suc i) xs))
    ∙ ap (λ m. m >>= λ zs. in_order (f x ∷ map f (drop (suc i) xs)) >>= λ ws. Ok (zs ++ ws)) front))
    (stops (in_order (f x ∷ map f (drop (suc i) xs))) (λ ws. Ok (ys ++ ws)) e
    (stops (f x) (λ z. in_order (map f (drop (suc i) xs)) >>= λ zs. Ok (z ∷ zs)) e h))
