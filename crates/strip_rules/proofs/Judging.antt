-- What is judged of a row.
use Rattle.std.proofs.Common.{◌≡◌, ℕ, Bool, true, false, not, ◌&&◌, List, Some, None, refl, ap, ◌∙◌}
use Rattle.std.proofs.lemmas.Bool.{and_right}
use Rattle.doc_model.specs.declared.row.Row.{Row}
use Rattle.doc_model.specs.declared.strip_rule.StripRule.{StripRule}
use Rattle.doc_model.specs.Relations.{parent_of}
use Rattle.doc_model.specs.Rows.{root_row, row_at}
use Rattle.doc_model.specs.Strip.{is_visible, is_blank, row_or_root, says_strip, best_from, strips, is_element, keeps_space}

pub other_is_visible : (rules : List StripRule) (rows : List Row) (n : ℕ) → is_blank (row_at rows n) ≡ false → is_visible rules rows n ≡ true
other_is_visible rules rows n h =
    ap not (and_right (strips rules (row_or_root rows (parent_of rows n))) (is_blank (row_at rows n) && not (keeps_space rows n)) (ap (λ b. b && not (keeps_space rows n)) h))

-- the root is no element
pub top_is_visible : (rules : List StripRule) (rows : List Row) (n : ℕ) → parent_of rows n ≡ None → is_visible rules rows n ≡ true
top_is_visible rules rows n e =
    ap (λ o. not (strips rules (row_or_root rows o) && (is_blank (row_at rows n) && not (keeps_space rows n)))) e
    ∙ ap (λ b. not (b && (is_blank (row_at rows n) && not (keeps_space rows n)))) (and_right (says_strip (best_from None rules root_row)) false refl)

pub unstripped_is_visible : (rules : List StripRule) (rows : List Row) (n up : ℕ) → parent_of rows n ≡ Some up → strips rules (row_at rows up) ≡ false → is_visible rules rows n ≡ true
unstripped_is_visible rules rows n up e h =
    ap (λ o. not (strips rules (row_or_root rows o) && (is_blank (row_at rows n) && not (keeps_space rows n)))) e
    ∙ ap (λ b. not (b && (is_blank (row_at rows n) && not (keeps_space rows n)))) h

pub space_decides : (rules : List StripRule) (rows : List Row) (n up : ℕ) → parent_of rows n ≡ Some up → strips rules (row_at rows up) ≡ true → is_blank (row_at rows n) ≡ true
    → is_visible rules rows n ≡ keeps_space rows n
space_decides rules rows n up e h b =
    ap (λ o. not (strips rules (row_or_root rows o) && (is_blank (row_at rows n) && not (keeps_space rows n)))) e
    ∙ ap (λ x. not (x && (is_blank (row_at rows n) && not (keeps_space rows n)))) h
    ∙ ap (λ x. not (x && not (keeps_space rows n))) b
    ∙ twice (keeps_space rows n)
  where
    twice : (b : Bool) → not (not b) ≡ b
    twice true = refl
    twice false = refl

-- of an element the rules alone decide
pub element_stripped : (rules : List StripRule) (row : Row) → is_element row.kind ≡ true → strips rules row ≡ says_strip (best_from None rules row)
element_stripped rules row e = ap (λ b. says_strip (best_from None rules row) && b) e ∙ right (says_strip (best_from None rules row))
  where
    right : (b : Bool) → (b && true) ≡ b
    right true = refl
    right false = refl
