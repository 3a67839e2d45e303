-- What is unescaped up to a backslash, and that what is escaped reads back.
use Rattle.std.proofs.Common.{◌≡◌, ℕ, zero, suc, ◌+◌, ◌<◌, ◌≤◌, ◌==◌, List, [], ◌∷◌, ◌++◌, true, false, length, get_or, take, drop, drop-cons, refl, arith, append_assoc}
use Rattle.std.proofs.lemmas.Grind.{common_steps}
use Rattle.std.proofs.lemmas.Bool.Decides.{nat_tests}
use Rattle.std.specs.Prelude.{Some, None}
use Rattle.memchr.specs.Find.{IsFirstByte, is_byte}
use Rattle.pyx_lines.specs.Escapes.{escaped, unescape}

-- a byte other than the backslash stands for itself
pub unescape-other : (b : ℕ) (bytes : List ℕ) → (b == 92) ≡ false → unescape (b ∷ bytes) ≡ b ∷ unescape bytes
unescape-other b [] other = refl
unescape-other b (next ∷ bytes) other = rw other refl

-- bytes before the first backslash stand for themselves
plain_front : (bytes : List ℕ) (k : ℕ) → ((j : ℕ) → j < k → (get_or bytes j 0 == 92) ≡ true → ⊥) → k ≤ length bytes → unescape bytes ≡ take k bytes ++ unescape (drop k bytes)
plain_front bytes zero plain within = refl
plain_front [] (suc k) plain within = absurd (omega arith)
plain_front (b ∷ bytes) (suc k) plain within =
    let other : (b == 92) ≡ false = grind (arith, nat_tests, plain 0 (omega arith)) in
    let rest : unescape bytes ≡ take k bytes ++ unescape (drop k bytes) = plain_front bytes k (λ j below. plain (suc j) (omega arith)) (omega arith) in
    rw (unescape-other b bytes other, rest) refl

-- up to the first backslash
up_to : (bytes : List ℕ) (at : ℕ) → IsFirstByte (is_byte 92) bytes (Some at) → unescape bytes ≡ take at bytes ++ unescape (92 ∷ drop (suc at) bytes)
up_to bytes at first =
    let within : at < length bytes = first.0.high in
    let is : get_or bytes at 0 ≡ 92 = grind (arith, nat_tests, first.1) in
    let front = plain_front bytes at (λ j below. first.0.before j (omega arith) below) (omega arith) in
    rw (drop-cons bytes at 0, is) at front

-- a backslash with a byte after it
pub unescape-pair : (bytes : List ℕ) (at : ℕ) → IsFirstByte (is_byte 92) bytes (Some at) → at + 1 < length bytes →
    unescape bytes ≡ (take at bytes ++ escaped (get_or bytes (at + 1) 0)) ++ unescape (drop (at + 2) bytes)
unescape-pair bytes at first more =
    let within : suc at < length bytes = omega arith in
    let front = rw (drop-cons bytes (suc at) 0) at (up_to bytes at first) in
    let one : at + 1 ≡ suc at = omega arith in
    let two : at + 2 ≡ suc (suc at) = omega arith in
    rw (one, two, append_assoc (take at bytes) (escaped (get_or bytes (suc at) 0)) (unescape (drop (suc (suc at)) bytes))) front

-- a backslash at the end
pub unescape-last : (bytes : List ℕ) (at : ℕ) → IsFirstByte (is_byte 92) bytes (Some at) → length bytes ≤ at + 1 → unescape bytes ≡ take at bytes ++ 92 ∷ []
unescape-last bytes at first last =
    let nothing : drop (suc at) bytes ≡ [] = grind (arith, common_steps) in
    rw nothing at (up_to bytes at first)

-- no backslash
pub unescape-plain : (bytes : List ℕ) → IsFirstByte (is_byte 92) bytes None → unescape bytes ≡ bytes
unescape-plain bytes none =
    let front = plain_front bytes (length bytes) (λ j below. none j (omega arith) below) (omega arith) in
    let whole : take (length bytes) bytes ≡ bytes = grind (arith, common_steps) in
    let nothing : drop (length bytes) bytes ≡ [] = grind (arith, common_steps) in
    grind (arith, common_steps, front, whole, nothing)
