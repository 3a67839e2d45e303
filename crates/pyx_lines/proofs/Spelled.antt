-- The test of each first byte takes what the notation spells, and refuses the rest in its order.
use Rattle.std.proofs.Common.{◌≡◌, ℕ, suc, ◌+◌, ◌==◌, List, [], ◌∷◌, ◌++◌, Bool, true, false, IsTrue, get_or, take, drop, Option, Some, None, Ok, refl, sym, subst, inl, inr, arith}
use Rattle.std.specs.Str.{is_utf8}
use Rattle.std.proofs.lemmas.Bool.{cases_eq}
use Rattle.std.proofs.lemmas.Bool.Decides.{nat_tests}
use Rattle.std.proofs.lemmas.List.Quantifiers.{position-Some}
use Rattle.std.proofs.Math.Seq.{split_at, take-append_seam, drop-append-add}
use Rattle.name_grammar.specs.Names.{is_name, is_ncname}
use Rattle.pyx_lines.specs.Escapes.{unescape}
use Rattle.pyx_lines.specs.Spelling.{Spells, spells_start, spells_end, spells_attribute, spells_text, spells_target, spells_instruction, spells_comment, passes_over, passes_empty, is_passed, space_in, named, attribute_of, instruction_of, spelled, line_of}
use Rattle.pyx_lines.specs.declared.line.Line.{Line}
use Rattle.pyx_lines.specs.declared.line.Line.TheVariants.{Start, End, Attr, Text, Instruction, Comment, Passed}
use Rattle.pyx_lines.proofs.Bytes.{name_high, ncname_high, first_space, high_no_space}

named_true : (is : Bool) (line line' : Line) → named is line ≡ Ok line' → is ≡ true
named_true true line line' e = refl
named_true false line line' e = absurd (cc)

named_line : (is : Bool) (line line' : Line) → named is line ≡ Ok line' → line ≡ line'
named_line true line line' e = cc
named_line false line line' e = absurd (cc)

-- the rest of a line around its first space
around : (rest : List ℕ) (k : ℕ) → space_in rest ≡ Some k → take k rest ++ 32 ∷ drop (k + 1) rest ≡ rest
around rest k at =
    let found = position-Some (λ b. b == 32) rest k 0 at in
    let space : get_or rest k 0 ≡ 32 = grind (arith, nat_tests, found.1) in
    let more : k + 1 ≡ suc k = omega arith in
    rw more (rw space at (sym (split_at rest k 0 found.0)))

start_spelled : (name : List ℕ) (line : Line) → spelled 40 name ≡ Ok line → Spells (40 ∷ name) line
start_spelled name line e = subst (Spells (40 ∷ name)) (named_line (is_name name) (Start name) line e) (spells_start name (named_true (is_name name) (Start name) line e))

end_spelled : (name : List ℕ) (line : Line) → spelled 41 name ≡ Ok line → Spells (41 ∷ name) line
end_spelled name line e = subst (Spells (41 ∷ name)) (named_line (is_name name) (End name) line e) (spells_end name (named_true (is_name name) (End name) line e))

text_spelled : (text : List ℕ) (line : Line) → spelled 45 text ≡ Ok line → Spells (45 ∷ text) line
text_spelled text line e = let same : Text (unescape text) ≡ line = cc in subst (Spells (45 ∷ text)) same (spells_text text)

comment_spelled : (text : List ℕ) (line : Line) → spelled 67 text ≡ Ok line → Spells (67 ∷ text) line
comment_spelled text line e = let same : Comment (unescape text) ≡ line = cc in subst (Spells (67 ∷ text)) same (spells_comment text)

attribute_by : (rest : List ℕ) (line : Line) (space : Option ℕ) → space_in rest ≡ space → attribute_of space rest ≡ Ok line → Spells (65 ∷ rest) line
attribute_by rest line None at e = absurd (cc)
attribute_by rest line (Some k) at e =
    let name = take k rest in
    let value = drop (k + 1) rest in
    let is = named_true (is_name name) (Attr name (unescape value)) line e in
    subst (λ (bytes : List ℕ). Spells (65 ∷ bytes) line) (around rest k at)
    (subst (Spells (65 ∷ name ++ 32 ∷ value)) (named_line (is_name name) (Attr name (unescape value)) line e) (spells_attribute name value is))

instruction_by : (rest : List ℕ) (line : Line) (space : Option ℕ) → space_in rest ≡ space → instruction_of space rest ≡ Ok line → Spells (63 ∷ rest) line
instruction_by rest line None at e =
    subst (Spells (63 ∷ rest)) (named_line (is_ncname rest) (Instruction rest []) line e) (spells_target rest (named_true (is_ncname rest) (Instruction rest []) line e))
instruction_by rest line (Some k) at e =
    let target = take k rest in
    let value = drop (k + 1) rest in
    let is = named_true (is_ncname target) (Instruction target (unescape value)) line e in
    subst (λ (bytes : List ℕ). Spells (63 ∷ bytes) line) (around rest k at)
    (subst (Spells (63 ∷ target ++ 32 ∷ value)) (named_line (is_ncname target) (Instruction target (unescape value)) line e) (spells_instruction target value is))

passed_by : (b : ℕ) (rest : List ℕ) (line : Line) (is : Bool) → is_passed b ≡ is → spelled b rest ≡ Ok line →
    (b == 40) ≡ false → (b == 41) ≡ false → (b == 65) ≡ false → (b == 45) ≡ false → (b == 63) ≡ false → (b == 67) ≡ false → Spells (b ∷ rest) line
passed_by b rest line true is e n1 n2 n3 n4 n5 n6 =
    let same : Passed ≡ line = grind (arith, is, e) in
    subst (Spells (b ∷ rest)) same (passes_over b rest is)
passed_by b rest line false is e n1 n2 n3 n4 n5 n6 = absurd (grind (arith, is, e))

byte_spelled : (b : ℕ) (rest : List ℕ) (line : Line) → spelled b rest ≡ Ok line → Spells (b ∷ rest) line
byte_spelled b rest line e =
    let Claim : ℕ → Type 0 = λ n. spelled n rest ≡ Ok line → Spells (n ∷ rest) line in
    elim (cases_eq b 40) [
      | inl is ↦ subst Claim (sym is) (start_spelled rest line) e
      | inr n1 ↦ elim (cases_eq b 41) [
        | inl is ↦ subst Claim (sym is) (end_spelled rest line) e
        | inr n2 ↦ elim (cases_eq b 65) [
          | inl is ↦ subst Claim (sym is) (attribute_by rest line (space_in rest) refl) e
          | inr n3 ↦ elim (cases_eq b 45) [
            | inl is ↦ subst Claim (sym is) (text_spelled rest line) e
            | inr n4 ↦ elim (cases_eq b 63) [
              | inl is ↦ subst Claim (sym is) (instruction_by rest line (space_in rest) refl) e
              | inr n5 ↦ elim (cases_eq b 67) [
                | inl is ↦ subst Claim (sym is) (comment_spelled rest line) e
                | inr n6 ↦
                    passed_by b rest line (is_passed b) refl e (grind (arith, nat_tests, n1)) (grind (arith, nat_tests, n2)) (grind (arith, nat_tests, n3)) (grind (arith, nat_tests, n4))
                    (grind (arith, nat_tests, n5)) (grind (arith, nat_tests, n6))
              ]
            ]
          ]
        ]
      ]
    ]

taken_by : (bytes : List ℕ) (line : Line) (is : Bool) → is_utf8 bytes ≡ is → line_of bytes ≡ Ok line → IsTrue (is_utf8 bytes) × Spells bytes line
taken_by bytes line false is e = absurd (grind (arith, is, e))
taken_by [] line true is e = let same : Passed ≡ line = grind (arith, is, e) in (is, subst (Spells []) same passes_empty)
taken_by (b ∷ rest) line true is e = (is, byte_spelled b rest line (rw is at e))

-- what the test takes is spelled
pub taken : (bytes : List ℕ) (line : Line) → line_of bytes ≡ Ok line → IsTrue (is_utf8 bytes) × Spells bytes line
taken bytes line e = taken_by bytes line (is_utf8 bytes) refl e

-- the test takes what is spelled
pub takes : (bytes : List ℕ) (line : Line) → IsTrue (is_utf8 bytes) → Spells bytes line → line_of bytes ≡ Ok line
takes _ _ text (spells_start name is) = rw (text, is) refl
takes _ _ text (spells_end name is) = rw (text, is) refl
takes _ _ text (spells_attribute name value is) =
    rw (text, first_space name value (name_high name is), take-append_seam name (32 ∷ value), drop-append-add name (32 ∷ value) 1, is) refl
takes _ _ text (spells_text value) = rw text refl
takes _ _ text (spells_target target is) = rw (text, high_no_space target (ncname_high target is), is) refl
takes _ _ text (spells_instruction target value is) =
    rw (text, first_space target value (ncname_high target is), take-append_seam target (32 ∷ value), drop-append-add target (32 ∷ value) 1, is) refl
takes _ _ text (spells_comment value) = rw text refl
takes _ _ text (passes_over b rest is) = rw text (grind (arith, nat_tests, is))
takes _ _ text passes_empty = rw text refl
