-- Characters, cut from the front.
use Rattle.std.proofs.Common.{◌≡◌, ℕ, suc, ◌+◌, List, [], ◌∷◌, Bool, true, false, not, cond, length, take, drop, refl, sym, ap, ◌∙◌, subst, zero-add, arith}
use Rattle.std.proofs.lemmas.List.Sums.{sum_by-cons}
use Rattle.xpath_funcs.specs.Characters.{continues, led, characters, continuing, beginning}

cut_by : (byte next : ℕ) (bytes : List ℕ) (is : Bool) → continues next ≡ is
    → characters (next ∷ bytes) ≡ (next ∷ take (continuing bytes) bytes) ∷ characters (drop (continuing bytes) bytes)
    → led byte (characters (next ∷ bytes)) ≡ (byte ∷ take (continuing (next ∷ bytes)) (next ∷ bytes)) ∷ characters (drop (continuing (next ∷ bytes)) (next ∷ bytes))
cut_by byte next bytes true is later =
    let one : 1 + continuing bytes ≡ suc (continuing bytes) = omega arith in
    rw later (rw (is, one) refl)
cut_by byte next bytes false is later = rw is (ap (led byte) later ∙ rw is (ap (λ (all : List (List ℕ)). (byte ∷ []) ∷ all) (sym later)))

-- a text is cut behind the bytes that go on with its first
pub cut : (byte : ℕ) (bytes : List ℕ) → characters (byte ∷ bytes) ≡ (byte ∷ take (continuing bytes) bytes) ∷ characters (drop (continuing bytes) bytes)
cut byte [] = refl
cut byte (next ∷ bytes) = cut_by byte next bytes (continues next) refl (cut next bytes)

pub led_in : (byte next : ℕ) (bytes : List ℕ) (later : List (List ℕ)) → continues next ≡ true → led byte ((next ∷ bytes) ∷ later) ≡ (byte ∷ next ∷ bytes) ∷ later
led_in byte next bytes later is = rw is refl

pub led_out : (byte next : ℕ) (bytes : List ℕ) (later : List (List ℕ)) → continues next ≡ false → led byte ((next ∷ bytes) ∷ later) ≡ (byte ∷ []) ∷ (next ∷ bytes) ∷ later
led_out byte next bytes later is = rw is refl

cut_here : (byte : ℕ) (rest : List ℕ) (n : ℕ) → n ≡ suc (continuing rest) → characters (byte ∷ rest) ≡ take n (byte ∷ rest) ∷ characters (drop n (byte ∷ rest))
cut_here byte rest n is = rw is (cut byte rest)

-- the same of a text whose first byte is taken off
pub cut_at : (bytes : List ℕ) (byte : ℕ) (rest : List ℕ) (n : ℕ) → bytes ≡ byte ∷ rest → n ≡ continuing rest → characters bytes ≡ take (1 + n) bytes ∷ characters (drop (1 + n) bytes)
cut_at bytes byte rest n whole is =
    let one : 1 + n ≡ suc (continuing rest) = omega (arith, is) in
    subst (λ (all : List ℕ). characters all ≡ take (1 + n) all ∷ characters (drop (1 + n) all)) (sym whole) (cut_here byte rest (1 + n) one)

count_more : (next : ℕ) (bytes : List ℕ) → beginning (next ∷ bytes) ≡ cond (not (continues next)) 1 0 + beginning bytes
count_more next bytes = sum_by-cons (λ (byte : ℕ). cond (not (continues byte)) 1 0) next bytes

length_cons : (first : List ℕ) (later : List (List ℕ)) → length (first ∷ later) ≡ 1 + length later
length_cons first later = omega arith

length_by : (byte next : ℕ) (bytes : List ℕ) (is : Bool) → continues next ≡ is → length (characters (next ∷ bytes)) ≡ 1 + beginning bytes
    → length (led byte (characters (next ∷ bytes))) ≡ 1 + beginning (next ∷ bytes)
length_by byte next bytes true is later =
    let first = cut next bytes in
    let t = take (continuing bytes) bytes in
    let rest = characters (drop (continuing bytes) bytes) in
    let joined : length (led byte (characters (next ∷ bytes))) ≡ length ((next ∷ t) ∷ rest) =
    ap (λ (all : List (List ℕ)). length (led byte all)) first ∙ ap (λ (all : List (List ℕ)). length all) (led_in byte next t rest is) in
    let more : beginning (next ∷ bytes) ≡ 0 + beginning bytes = count_more next bytes ∙ ap (λ (c : Bool). cond (not c) 1 0 + beginning bytes) is in
    joined ∙ sym (ap (λ (all : List (List ℕ)). length all) first) ∙ later ∙ ap (λ (n : ℕ). 1 + n) (sym (zero-add (beginning bytes))) ∙ sym (ap (λ (n : ℕ). 1 + n) more)
length_by byte next bytes false is later =
    let first = cut next bytes in
    let t = take (continuing bytes) bytes in
    let rest = characters (drop (continuing bytes) bytes) in
    let joined : length (led byte (characters (next ∷ bytes))) ≡ length ((byte ∷ []) ∷ (next ∷ t) ∷ rest) =
    ap (λ (all : List (List ℕ)). length (led byte all)) first ∙ ap (λ (all : List (List ℕ)). length all) (led_out byte next t rest is) in
    let one : length ((byte ∷ []) ∷ (next ∷ t) ∷ rest) ≡ 1 + length ((next ∷ t) ∷ rest) = length_cons (byte ∷ []) ((next ∷ t) ∷ rest) in
    let more : beginning (next ∷ bytes) ≡ 1 + beginning bytes = count_more next bytes ∙ ap (λ (c : Bool). cond (not c) 1 0 + beginning bytes) is in
    joined ∙ one ∙ ap (λ (n : ℕ). 1 + n) (sym (ap (λ (all : List (List ℕ)). length all) first) ∙ later) ∙ sym (ap (λ (n : ℕ). 1 + n) more)

-- the characters of a text are as many as bytes begin one, but for the first
pub length-characters : (byte : ℕ) (bytes : List ℕ) → length (characters (byte ∷ bytes)) ≡ 1 + beginning bytes
length-characters byte [] = refl
length-characters byte (next ∷ bytes) = length_by byte next bytes (continues next) refl (length-characters next bytes)

pub length_at : (bytes : List ℕ) (byte : ℕ) (rest : List ℕ) (n : ℕ) → bytes ≡ byte ∷ rest → n ≡ beginning rest → 1 + n ≡ length (characters bytes)
length_at bytes byte rest n whole is = ap (λ (m : ℕ). 1 + m) is ∙ sym (length-characters byte rest) ∙ ap (λ (all : List ℕ). length (characters all)) (sym whole)
