-- The bytes of the characters at some positions, byte by byte.
use Rattle.std.proofs.Common.{◌≡◌, ℕ, suc, ◌+◌, ◌||◌, not, nat_eq, List, [], ◌∷◌, ◌++◌, Bool, true, false, cond, take, drop, refl, sym, ap, ◌∙◌, subst, arith}
use Rattle.std.proofs.lemmas.Bool.Decides.{nat_tests}
use Rattle.xpath_funcs.specs.Characters.{continues, led, characters, continuing}
use Rattle.xpath_funcs.specs.Substrings.{kept_from, kept_byte, kept_behind, position_of}
use Rattle.xpath_funcs.proofs.Cutting.{cut, led_in, led_out}

onto : (is : Bool) (byte next : ℕ) (bytes later rest : List ℕ) → cond is (next ∷ bytes) [] ++ later ≡ kept_byte is next ++ rest
    → cond is (byte ∷ next ∷ bytes) [] ++ later ≡ kept_byte is byte ++ (kept_byte is next ++ rest)
onto true byte next bytes later rest same = ap (λ (all : List ℕ). byte ∷ all) same
onto false byte next bytes later rest same = same

alone : (is : Bool) (byte : ℕ) (later rest : List ℕ) → later ≡ rest → cond is (byte ∷ []) [] ++ later ≡ kept_byte is byte ++ rest
alone true byte later rest same = ap (λ (all : List ℕ). byte ∷ all) same
alone false byte later rest same = same

zero_test : (n : ℕ) → nat_eq (suc n) 0 ≡ false
zero_test n = grind (arith, nat_tests)

stays : (z c : Bool) (a b : ℕ) → z ≡ false → c ≡ true → cond (z || not c) a b ≡ b
stays true c a b zero_is one_is = absurd (cc)
stays false true a b zero_is one_is = refl
stays false false a b zero_is one_is = absurd (cc)

goes : (z c : Bool) (a b : ℕ) → c ≡ false → cond (z || not c) a b ≡ a
goes true c a b one_is = refl
goes false true a b one_is = absurd (cc)
goes false false a b one_is = refl

behind_by : (passes : ℕ → Bool) (n byte next : ℕ) (bytes : List ℕ) (is : Bool) → continues next ≡ is
    → ((m : ℕ) → kept_from passes (suc m) (characters (next ∷ bytes)) ≡ kept_byte (passes (suc m)) next ++ kept_behind passes (suc m) bytes)
    → kept_from passes (suc n) (characters (byte ∷ next ∷ bytes)) ≡ kept_byte (passes (suc n)) byte ++ kept_behind passes (suc n) (next ∷ bytes)
behind_by passes n byte next bytes true is later =
    let first = cut next bytes in
    let t = take (continuing bytes) bytes in
    let rest = characters (drop (continuing bytes) bytes) in
    let place : position_of (suc n) next ≡ suc n = stays (nat_eq (suc n) 0) (continues next) (suc n + 1) (suc n) (zero_test n) is in
    let one = sym (ap (λ (all : List (List ℕ)). kept_from passes (suc n) all) first) ∙ later n in
    ap (λ (all : List (List ℕ)). kept_from passes (suc n) (led byte all)) first
    ∙ ap (λ (all : List (List ℕ)). kept_from passes (suc n) all) (led_in byte next t rest is)
    ∙ onto (passes (suc n)) byte next t (kept_from passes (suc n + 1) rest) (kept_behind passes (suc n) bytes) one
    ∙ sym (ap (λ (m : ℕ). kept_byte (passes (suc n)) byte ++ (kept_byte (passes m) next ++ kept_behind passes m bytes)) place)
behind_by passes n byte next bytes false is later =
    let first = cut next bytes in
    let t = take (continuing bytes) bytes in
    let rest = characters (drop (continuing bytes) bytes) in
    let place : position_of (suc n) next ≡ suc n + 1 = goes (nat_eq (suc n) 0) (continues next) (suc n + 1) (suc n) is in
    let more : suc (suc n) ≡ suc n + 1 = omega arith in
    let one = sym (ap (λ (all : List (List ℕ)). kept_from passes (suc (suc n)) all) first) ∙ later (suc n) in
    let one = subst (λ (m : ℕ). kept_from passes m ((next ∷ t) ∷ rest) ≡ kept_byte (passes m) next ++ kept_behind passes m bytes) more one in
    ap (λ (all : List (List ℕ)). kept_from passes (suc n) (led byte all)) first
    ∙ ap (λ (all : List (List ℕ)). kept_from passes (suc n) all) (led_out byte next t rest is)
    ∙ alone (passes (suc n)) byte (kept_from passes (suc n + 1) ((next ∷ t) ∷ rest)) (kept_byte (passes (suc n + 1)) next ++ kept_behind passes (suc n + 1) bytes) one
    ∙ sym (ap (λ (m : ℕ). kept_byte (passes (suc n)) byte ++ (kept_byte (passes m) next ++ kept_behind passes m bytes)) place)

pub kept_from-behind : (passes : ℕ → Bool) (n byte : ℕ) (bytes : List ℕ) → kept_from passes (suc n) (characters (byte ∷ bytes)) ≡ kept_byte (passes (suc n)) byte ++ kept_behind passes (suc n) bytes
kept_from-behind passes n byte [] = alone (passes (suc n)) byte [] [] refl
kept_from-behind passes n byte (next ∷ bytes) = behind_by passes n byte next bytes (continues next) refl (λ m. kept_from-behind passes m next bytes)

-- the characters at the positions that pass, byte by byte
pub kept_bytes : (passes : ℕ → Bool) (text : List ℕ) → kept_behind passes 0 text ≡ kept_from passes 1 (characters text)
kept_bytes passes [] = refl
kept_bytes passes (byte ∷ bytes) = sym (kept_from-behind passes 0 byte bytes)
