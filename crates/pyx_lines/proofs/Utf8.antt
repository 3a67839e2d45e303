-- UTF-8 stays UTF-8 when it is cut at an ASCII byte, escaped or unescaped.
use Rattle.std.proofs.Common.{◌≡◌, ℕ, suc, ◌+◌, ◌<◌, ◌≤◌, ◌==◌, nat_lt, nat_le, List, [], ◌∷◌, ◌++◌, Bool, true, false, length, get_or, take, drop, IsUtf8, inl, inr, refl, sym, subst, ap, ◌∙◌, arith, append-nil}
use Rattle.std.specs.List.{list_all}
use Rattle.std.proofs.Math.Utf8.{scalar, scalars, encode, encodes, low_scalar}
use Rattle.std.proofs.Math.Seq.{take-append_seam, drop-append-add}
use Rattle.std.proofs.lemmas.Bool.{and_parts, cases_lt, cases_eq}
use Rattle.std.proofs.lemmas.Bool.Decides.{nat_tests}
use Rattle.std.proofs.lemmas.Grind.{common_steps, flat_map-append}
use Rattle.std.proofs.lemmas.Str.{IsUtf8-append, IsUtf8-nil, IsUtf8-encode, IsUtf8-take, IsUtf8-drop, IsCharBoundary-before_ascii, IsCharBoundary-after_ascii, encode_ascii, inside_one, length-encode, len_utf8_bounds}
use Rattle.pyx_lines.specs.Escapes.{escape, escape_byte, escaped, unescape}
use Rattle.pyx_lines.proofs.Escaping.{unescape-other}

abbrev is_ascii : ℕ → Bool
is_ascii b = nat_lt b 128

-- a byte of a character outside ASCII
abbrev is_beyond : ℕ → Bool
is_beyond b = nat_le 128 b

pub ascii_then : (b : ℕ) (bytes : List ℕ) → b < 128 → IsUtf8 bytes → IsUtf8 (b ∷ bytes)
ascii_then b bytes small is = IsUtf8-append (b ∷ []) bytes (subst IsUtf8 (encode_ascii b small) (IsUtf8-encode b (low_scalar b (omega arith)))) is

all_ascii : (bytes : List ℕ) → list_all is_ascii bytes ≡ true → IsUtf8 bytes
all_ascii [] is = IsUtf8-nil
all_ascii (b ∷ bytes) is = ascii_then b bytes (grind (arith, nat_tests, is)) (all_ascii bytes (grind (arith, nat_tests, is)))

-- both sides of an ASCII byte
pub cut_at_ascii : (front : List ℕ) (b : ℕ) (back : List ℕ) → b < 128 → IsUtf8 (front ++ b ∷ back) → IsUtf8 front × IsUtf8 back
cut_at_ascii front b back small is =
    let bytes = front ++ b ∷ back in
    let within : length front < length bytes = grind (arith, common_steps) in
    let here : get_or bytes (length front) 0 ≡ b = grind (arith, common_steps) in
    let low : get_or bytes (length front) 0 < 128 = omega (arith, here) in
    let before : IsUtf8 (take (length front) bytes) = IsUtf8-take bytes (length front) is (IsCharBoundary-before_ascii bytes (length front) within low) in
    let after : IsUtf8 (drop (length front + 1) bytes) = IsUtf8-drop bytes (length front + 1) is (IsCharBoundary-after_ascii bytes (length front) is within low) in
    let first : IsUtf8 front = rw (take-append_seam front (b ∷ back)) at before in
    let second : IsUtf8 back = rw (drop-append-add front (b ∷ back) 1) at after in
    (first, second)

beyond : (c : ℕ) → 128 ≤ c → (k : ℕ) → k < length (encode c) → 128 ≤ get_or (encode c) k 0
beyond c big k below = elim (cases_lt (get_or (encode c) k 0) 128) [
  | inl low ↦ absurd (omega (arith, inside_one c [] (encode c) k (sym (append-nil _)) below low))
  | inr high ↦ high
]

all_from_each : (bytes : List ℕ) → ((k : ℕ) → k < length bytes → 128 ≤ get_or bytes k 0) → list_all is_beyond bytes ≡ true
all_from_each [] each = refl
all_from_each (b ∷ bytes) each =
    let first : is_beyond b ≡ true = grind (arith, nat_tests, each 0 (omega arith)) in
    let more : list_all is_beyond bytes ≡ true = all_from_each bytes (λ k below. each (suc k) (omega arith)) in
    rw (first, more) refl

encode_beyond : (c : ℕ) → 128 ≤ c → list_all is_beyond (encode c) ≡ true
encode_beyond c big = all_from_each (encode c) (beyond c big)

escape_beyond : (bytes : List ℕ) → list_all is_beyond bytes ≡ true → escape bytes ≡ bytes
escape_beyond [] is = refl
escape_beyond (b ∷ bytes) is = grind (arith, common_steps, nat_tests, escape_beyond bytes)

escape_ascii : (b : ℕ) → b < 128 → list_all is_ascii (escape_byte b) ≡ true
escape_ascii b small = grind (arith, common_steps, nat_tests)

escape_char : (c : ℕ) → scalar c ≡ true → IsUtf8 (escape (encode c))
escape_char c is = elim (cases_lt c 128) [
  | inl small ↦ rw (encode_ascii c small, append-nil) (all_ascii (escape_byte c) (escape_ascii c small))
  | inr big ↦ rw (escape_beyond (encode c) (encode_beyond c big)) (IsUtf8-encode c is)
]

escape_chars : (chars : List ℕ) → scalars chars ≡ true → IsUtf8 (escape (encodes chars))
escape_chars [] is = IsUtf8-nil
escape_chars (c ∷ chars) is =
    let parts = and_parts _ _ is in
    subst IsUtf8 (sym (flat_map-append escape_byte (encode c) (encodes chars))) (IsUtf8-append _ _ (escape_char c parts.0) (escape_chars chars parts.1))

-- what is escaped
pub IsUtf8-escape : (value : List ℕ) → IsUtf8 value → IsUtf8 (escape value)
IsUtf8-escape value is = subst (λ (bytes : List ℕ). IsUtf8 (escape bytes)) is.1.1 (escape_chars is.0 is.1.0)

-- bytes of characters outside ASCII stand for themselves
beyond_front : (bytes more : List ℕ) → list_all is_beyond bytes ≡ true → unescape (bytes ++ more) ≡ bytes ++ unescape more
beyond_front [] more is = refl
beyond_front (b ∷ bytes) more is =
    let other : (b == 92) ≡ false = grind (arith, nat_tests, is) in
    let rest : unescape (bytes ++ more) ≡ bytes ++ unescape more = beyond_front bytes more (grind (arith, nat_tests, is)) in
    rw (unescape-other b (bytes ++ more) other, rest) refl

beyond_pair : (bytes more : List ℕ) → 0 < length bytes → list_all is_beyond bytes ≡ true → unescape (92 ∷ bytes ++ more) ≡ 92 ∷ bytes ++ unescape more
beyond_pair [] more some is = absurd (omega arith)
beyond_pair (b ∷ bytes) more some is =
    let n : (b == 110) ≡ false = grind (arith, nat_tests, is) in
    let t : (b == 116) ≡ false = grind (arith, nat_tests, is) in
    let other : (b == 92) ≡ false = grind (arith, nat_tests, is) in
    let rest : unescape (bytes ++ more) ≡ bytes ++ unescape more = beyond_front bytes more (grind (arith, nat_tests, is)) in
    rw (n, t, other, rest) refl

escaped_ascii : (b : ℕ) → b < 128 → list_all is_ascii (escaped b) ≡ true
escaped_ascii b small = grind (arith, common_steps, nat_tests)

after_backslash : (d : ℕ) (more : List ℕ) → scalar d ≡ true → IsUtf8 (unescape more) → IsUtf8 (unescape (92 ∷ encode d ++ more))
after_backslash d more is rest = elim (cases_lt d 128) [
  | inl small ↦ rw (encode_ascii d small) (IsUtf8-append (escaped d) (unescape more) (all_ascii (escaped d) (escaped_ascii d small)) rest)
  | inr big ↦
      let some : 0 < length (encode d) = omega (arith, length-encode d, (len_utf8_bounds d).0) in
      rw (beyond_pair (encode d) more some (encode_beyond d big)) (ascii_then 92 _ (omega arith) (IsUtf8-append _ _ (IsUtf8-encode d is) rest))
]

other_char : (c : ℕ) (more : List ℕ) → scalar c ≡ true → (c == 92) ≡ false → IsUtf8 (unescape more) → IsUtf8 (unescape (encode c ++ more))
other_char c more is other rest = elim (cases_lt c 128) [
  | inl small ↦ rw (encode_ascii c small, unescape-other c more other) (ascii_then c _ small rest)
  | inr big ↦ rw (beyond_front (encode c) more (encode_beyond c big)) (IsUtf8-append _ _ (IsUtf8-encode c is) rest)
]

backslash_is : (c : ℕ) → c ≡ 92 → encode c ≡ 92 ∷ []
backslash_is c is = encode_ascii c (omega arith) ∙ ap (λ (b : ℕ). b ∷ []) is

unescape_chars : (chars : List ℕ) → scalars chars ≡ true → IsUtf8 (unescape (encodes chars))
unescape_chars [] is = IsUtf8-nil
unescape_chars (c ∷ []) is =
    let parts = and_parts _ _ is in
    elim (cases_eq c 92) [
      | inl slash ↦ rw (backslash_is c slash) (ascii_then 92 [] (omega arith) IsUtf8-nil)
      | inr other ↦ other_char c [] parts.0 (grind (arith, nat_tests, other)) IsUtf8-nil
    ]
unescape_chars (c ∷ d ∷ chars) is =
    let parts = and_parts _ _ is in
    let later = and_parts _ _ parts.1 in
    elim (cases_eq c 92) [
      | inl slash ↦ rw (backslash_is c slash) (after_backslash d (encodes chars) later.0 (unescape_chars chars later.1))
      | inr other ↦ other_char c (encodes (d ∷ chars)) parts.0 (grind (arith, nat_tests, other)) (unescape_chars (d ∷ chars) parts.1)
    ]

-- what is unescaped
pub IsUtf8-unescape : (bytes : List ℕ) → IsUtf8 bytes → IsUtf8 (unescape bytes)
IsUtf8-unescape bytes is = subst (λ (text : List ℕ). IsUtf8 (unescape text)) is.1.1 (unescape_chars is.0 is.1.0)
