-- The test of each first byte refuses what the notation refuses, in its order.
use Rattle.std.proofs.Common.{◌≡◌, ◌≢◌, ℕ, ◌==◌, List, [], ◌∷◌, IfOk, IfErr, Bool, true, false, IsTrue, IsFalse, Option, Some, None, Result, Ok, Err, refl, sym, subst, inl, inr, arith}
use Rattle.std.specs.Str.{is_utf8}
use Rattle.std.proofs.lemmas.Bool.{cases_eq}
use Rattle.std.proofs.lemmas.Bool.Decides.{nat_tests}
use Rattle.pyx_lines.specs.Spelling.{Answers, Spells, IsUnknown, LacksSpace, IsRefused, is_known, is_passed, space_in, named, spelled, line_of}
use Rattle.pyx_lines.specs.declared.line.Line.{Line}
use Rattle.pyx_lines.specs.declared.line_error.LineError.{LineError}
use Rattle.pyx_lines.specs.declared.line_error.LineError.TheVariants.{NotUtf8, UnknownLine, NoSpace, BadName, Memory}
use Rattle.pyx_lines.proofs.Bytes.{no_space, spaceless}
use Rattle.pyx_lines.proofs.Spelled.{taken, takes}

-- a name is refused only as a bad one
named_error : (is : Bool) (line : Line) (error : LineError) → named is line ≡ Err error → BadName ≡ error
named_error true line error e = absurd (cc)
named_error false line error e = cc

bad : (b : ℕ) (rest : List ℕ) (error : LineError) → IsTrue (is_utf8 (b ∷ rest)) → IsTrue (is_known b) → ¬ LacksSpace (b ∷ rest) →
    BadName ≡ error → spelled b rest ≡ Err error → IsRefused error (b ∷ rest)
bad b rest error text known spaced same e =
    let unspelled : (line : Line) → ¬ Spells (b ∷ rest) line = λ line spells.
    let ok : spelled b rest ≡ Ok line = rw text at (takes (b ∷ rest) line text spells) in cc in
    let unknown : ¬ IsUnknown (b ∷ rest) = λ (isnt : IsFalse (is_known b)). cc in
    subst (λ (refusal : LineError). IsRefused refusal (b ∷ rest)) same (text, unknown, spaced, unspelled)

attribute_by : (rest : List ℕ) (error : LineError) (space : Option ℕ) → space_in rest ≡ space → IsTrue (is_utf8 (65 ∷ rest)) →
    spelled 65 rest ≡ Err error → IsRefused error (65 ∷ rest)
attribute_by rest error None at text e =
    let same : NoSpace ≡ error = grind (arith, at, e) in
    subst (λ (refusal : LineError). IsRefused refusal (65 ∷ rest)) same (text, (refl, spaceless rest at))
attribute_by rest error (Some k) at text e =
    let spaced : ¬ LacksSpace (65 ∷ rest) = λ (lacks : LacksSpace (65 ∷ rest)). let none = no_space rest lacks.1 in cc in
    bad 65 rest error text refl spaced (named_error _ _ error (rw at at e)) e

instruction_by : (rest : List ℕ) (error : LineError) (space : Option ℕ) → space_in rest ≡ space → spelled 63 rest ≡ Err error → BadName ≡ error
instruction_by rest error None at e = named_error _ _ error (rw at at e)
instruction_by rest error (Some k) at e = named_error _ _ error (rw at at e)

other_spaced : (b : ℕ) (rest : List ℕ) → (b == 65) ≡ false → ¬ LacksSpace (b ∷ rest)
other_spaced b rest other = λ (lacks : LacksSpace (b ∷ rest)). grind (arith, nat_tests, other, lacks.0)

passed_by : (b : ℕ) (rest : List ℕ) (error : LineError) (is : Bool) → is_passed b ≡ is → IsTrue (is_utf8 (b ∷ rest)) → spelled b rest ≡ Err error →
    (b == 40) ≡ false → (b == 41) ≡ false → (b == 65) ≡ false → (b == 45) ≡ false → (b == 63) ≡ false → (b == 67) ≡ false → IsRefused error (b ∷ rest)
passed_by b rest error true is text e n1 n2 n3 n4 n5 n6 = absurd (grind (arith, is, e))
passed_by b rest error false is text e n1 n2 n3 n4 n5 n6 =
    let same : UnknownLine ≡ error = grind (arith, is, e) in
    let unknown : IsUnknown (b ∷ rest) = rw (n1, n2, n3, n4, n5, n6, is) refl in
    subst (λ (refusal : LineError). IsRefused refusal (b ∷ rest)) same (text, unknown)

byte_refused : (b : ℕ) (rest : List ℕ) (error : LineError) → IsTrue (is_utf8 (b ∷ rest)) → spelled b rest ≡ Err error → IsRefused error (b ∷ rest)
byte_refused b rest error text e =
    let Claim : ℕ → Type 0 = λ n. IsTrue (is_utf8 (n ∷ rest)) → spelled n rest ≡ Err error → IsRefused error (n ∷ rest) in
    elim (cases_eq b 40) [
      | inl is ↦ subst Claim (sym is) (λ text e. bad 40 rest error text refl (other_spaced 40 rest refl) (named_error _ _ error e) e) text e
      | inr n1 ↦ elim (cases_eq b 41) [
        | inl is ↦ subst Claim (sym is) (λ text e. bad 41 rest error text refl (other_spaced 41 rest refl) (named_error _ _ error e) e) text e
        | inr n2 ↦ elim (cases_eq b 65) [
          | inl is ↦ subst Claim (sym is) (attribute_by rest error (space_in rest) refl) text e
          | inr n3 ↦ elim (cases_eq b 45) [
            | inl is ↦ subst Claim (sym is) (λ text e. absurd (cc)) text e
            | inr n4 ↦ elim (cases_eq b 63) [
              | inl is ↦ subst Claim (sym is) (λ text e. bad 63 rest error text refl (other_spaced 63 rest refl) (instruction_by rest error (space_in rest) refl e) e) text e
              | inr n5 ↦ elim (cases_eq b 67) [
                | inl is ↦ subst Claim (sym is) (λ text e. absurd (cc)) text e
                | inr n6 ↦
                    passed_by b rest error (is_passed b) refl text e (grind (arith, nat_tests, n1)) (grind (arith, nat_tests, n2)) (grind (arith, nat_tests, n3)) (grind (arith, nat_tests, n4))
                    (grind (arith, nat_tests, n5)) (grind (arith, nat_tests, n6))
              ]
            ]
          ]
        ]
      ]
    ]

refused_by : (bytes : List ℕ) (error : LineError) (is : Bool) → is_utf8 bytes ≡ is → line_of bytes ≡ Err error → IsRefused error bytes
refused_by bytes error false is e =
    let same : NotUtf8 ≡ error = grind (arith, is, e) in
    subst (λ (refusal : LineError). IsRefused refusal bytes) same is
refused_by [] error true is e = absurd (grind (arith, is, e))
refused_by (b ∷ rest) error true is e = byte_refused b rest error is (rw is at e)

-- what the test refuses is refused
pub refused : (bytes : List ℕ) (error : LineError) → line_of bytes ≡ Err error → IsRefused error bytes
refused bytes error e = refused_by bytes error (is_utf8 bytes) refl e

unknown_refused : (bytes : List ℕ) → IsTrue (is_utf8 bytes) → IsUnknown bytes → line_of bytes ≡ Err UnknownLine
unknown_refused [] text unknown = absurd unknown
unknown_refused (b ∷ rest) text unknown = rw text (grind (arith, nat_tests, unknown))

lacking_refused : (bytes : List ℕ) → IsTrue (is_utf8 bytes) → LacksSpace bytes → line_of bytes ≡ Err NoSpace
lacking_refused [] text lacks = absurd lacks
lacking_refused (b ∷ rest) text lacks =
    let none : space_in rest ≡ None = no_space rest lacks.1 in
    rw (text, lacks.0, none) refl

misnamed_by : (bytes : List ℕ) (answer : Result Line LineError) → line_of bytes ≡ answer → IsRefused BadName bytes → answer ≡ Err BadName
misnamed_by bytes (Ok line) is bad = absurd (bad.3 line (taken bytes line is).1)
misnamed_by bytes (Err NotUtf8) is bad = let no_text : is_utf8 bytes ≡ false = refused bytes NotUtf8 is in let text = bad.0 in absurd (cc)
misnamed_by bytes (Err UnknownLine) is bad = absurd (bad.1 (refused bytes UnknownLine is).1)
misnamed_by bytes (Err NoSpace) is bad = absurd (bad.2 (refused bytes NoSpace is).1)
misnamed_by bytes (Err BadName) is bad = refl
misnamed_by bytes (Err Memory) is bad = absurd (refused bytes Memory is)

-- the test refuses what is refused
pub refuses : (bytes : List ℕ) (error : LineError) → IsRefused error bytes → line_of bytes ≡ Err error
refuses bytes NotUtf8 is = rw is refl
refuses bytes UnknownLine is = unknown_refused bytes is.0 is.1
refuses bytes NoSpace is = lacking_refused bytes is.0 is.1
refuses bytes BadName is = misnamed_by bytes (line_of bytes) refl is
refuses bytes Memory is = absurd is

-- an answer by the test is one by the notation
pub answers_line : (bytes : List ℕ) (result : Result Line LineError) → Answers (line_of bytes) result → IfOk result (λ line. IsTrue (is_utf8 bytes) × Spells bytes line)
answers_line bytes (Ok line) (inl is) = taken bytes line (sym is)
answers_line bytes (Ok line) (inr is) = absurd (cc)
answers_line bytes (Err error) is = tt

pub answers_refused : (bytes : List ℕ) (result : Result Line LineError) → Answers (line_of bytes) result → IfErr result (λ error. error ≢ Memory → IsRefused error bytes)
answers_refused bytes (Ok line) is = tt
answers_refused bytes (Err error) (inl is) = λ _. refused bytes error (sym is)
answers_refused bytes (Err error) (inr is) = λ other. absurd (other (cc))
