-- What is seen of a row stays, whatever rows come.
use Rattle.std.proofs.Common.{◌≡◌, ℕ, zero, suc, ◌+◌, ◌-◌, ◌<◌, ◌≤◌, Bool, true, false, cond, not, ◌&&◌, List, [], ◌∷◌, ◌++◌, length, Option, Some, None, drop, refl, ap, sym, ◌∙◌, arith, length-drop, get_or-drop, inl, inr}
use Rattle.std.proofs.lemmas.Bool.{cases_Bool, false≢true}
use Rattle.std.proofs.lemmas.List.{drop-append-le}
use Rattle.doc_model.specs.declared.row.Kind.{Kind}
use Rattle.doc_model.specs.declared.row.Kind.TheVariants.{Root, Element, Attribute, Text, Instruction, Comment, Comment}
use Rattle.doc_model.specs.declared.row.Row.{Row}
use Rattle.doc_model.specs.declared.strip_rule.StripRule.{StripRule}
use Rattle.doc_model.specs.Document.{is_attribute}
use Rattle.doc_model.specs.Relations.{parent_of, is_child}
use Rattle.doc_model.specs.Rows.{root_row, row_at}
use Rattle.doc_model.specs.Shown.{is_shown, shown_below}
use Rattle.doc_model.specs.Strip.{is_visible, is_blank, is_text, all_white, keeps_from, keeps_space, space_in, says_space, or_else, unless_said, strips, row_or_root}
use Rattle.doc_laws.proofs.Numbers.{filter_same}
use Rattle.doc_laws.proofs.Growth.{row_at_grows, parent_grows, child_grows}
use Rattle.doc_laws.proofs.Links.{parent_before}

pub space_in-append : (xs ys : List Row) (j : ℕ) → j < length xs → is_attribute (row_at xs j).kind ≡ false → space_in (xs ++ ys) ≡ space_in xs
space_in-append [] ys j l a = absurd (omega arith)
space_in-append (x ∷ xs) ys zero l a = ap (λ b. cond b (or_else (says_space x) (space_in (xs ++ ys))) None) a ∙ sym (ap (λ b. cond b (or_else (says_space x) (space_in xs)) None) a)
space_in-append (x ∷ xs) ys (suc j) l a =
    let r = space_in-append xs ys j (omega arith) a in
    elim (cases_Bool (is_attribute x.kind)) [ inl e ↦ rw (e, r) | inr e ↦ rw e ]

pub keeps_grows : (rows more : List Row) (k : ℕ) → k < length rows → is_attribute (row_at rows k).kind ≡ false → (most : ℕ) (o : Option ℕ) → ((p : ℕ) → o ≡ Some p → p < k) → keeps_from (rows ++ more) most o ≡ keeps_from rows most o
keeps_grows rows more k l a zero None h = refl
keeps_grows rows more k l a zero (Some n) h = refl
keeps_grows rows more k l a (suc most) None h = refl
keeps_grows rows more k l a (suc most) (Some n) h =
    let nk : n < k = h n refl in
    let e : suc n + (k - suc n) ≡ k = omega arith in
    let at : row_at (drop (suc n) rows) (k - suc n) ≡ row_at rows k = get_or-drop (suc n) rows (k - suc n) root_row ∙ ap (row_at rows) e in
    let s : space_in (drop (suc n) (rows ++ more)) ≡ space_in (drop (suc n) rows) =
    ap space_in (drop-append-le (suc n) rows more (omega arith))
    ∙ space_in-append (drop (suc n) rows) more (k - suc n) (omega (arith, length-drop (suc n) rows)) (ap (λ (r : Row). is_attribute r.kind) at ∙ a) in
    let up : keeps_from (rows ++ more) most (parent_of (rows ++ more) n) ≡ keeps_from rows most (parent_of rows n) =
    ap (keeps_from (rows ++ more) most) (parent_grows rows more n (omega arith))
    ∙ keeps_grows rows more k l a most (parent_of rows n) (λ p q. let b = parent_before rows n p q in omega (arith, b.0)) in
    ap (λ x. unless_said x (keeps_from (rows ++ more) most (parent_of (rows ++ more) n))) s ∙ ap (unless_said (space_in (drop (suc n) rows))) up

pub blank_plain : (row : Row) → is_blank row ≡ true → is_attribute row.kind ≡ false
blank_plain row h = go row.kind (all_white row.value) h
  where
    go : (k : Kind) (b : Bool) → (is_text k && b) ≡ true → is_attribute k ≡ false
    go Root b h = refl
    go Element b h = refl
    go Attribute b h = absurd (false≢true h)
    go Text b h = refl
    go Instruction b h = refl
    go Comment b h = refl

row_or_root_grows : (rows more : List Row) (o : Option ℕ) → ((p : ℕ) → o ≡ Some p → p < length rows) → row_or_root (rows ++ more) o ≡ row_or_root rows o
row_or_root_grows rows more None h = refl
row_or_root_grows rows more (Some n) h = row_at_grows rows more n (h n refl)

pub visible_grows : (rules : List StripRule) (rows more : List Row) (k : ℕ) → k < length rows → is_visible rules (rows ++ more) k ≡ is_visible rules rows k
visible_grows rules rows more k l =
    let p = parent_grows rows more k l in
    let r : row_or_root (rows ++ more) (parent_of (rows ++ more) k) ≡ row_or_root rows (parent_of rows k) =
    ap (row_or_root (rows ++ more)) p ∙ row_or_root_grows rows more (parent_of rows k) (λ q e. (parent_before rows k q e).1) in
    let t = row_at_grows rows more k l in
    let s : (is_blank (row_at (rows ++ more) k) && not (keeps_space (rows ++ more) k)) ≡ (is_blank (row_at rows k) && not (keeps_space rows k)) =
    ap (λ (x : Row). is_blank x && not (keeps_space (rows ++ more) k)) t ∙ elim (cases_Bool (is_blank (row_at rows k))) [
      | inl b ↦ ap (λ x. is_blank (row_at rows k) && not x) (ap (keeps_from (rows ++ more) k) p ∙ keeps_grows rows more k l (blank_plain (row_at rows k) b) k (parent_of rows k) (λ q e. (parent_before rows k q e).0))
      | inr b ↦ ap (λ x. x && not (keeps_space (rows ++ more) k)) b ∙ sym (ap (λ x. x && not (keeps_space rows k)) b)
    ] in
    ap (λ (x : Row). not (strips rules x && (is_blank (row_at (rows ++ more) k) && not (keeps_space (rows ++ more) k)))) r
    ∙ ap (λ x. not (strips rules (row_or_root rows (parent_of rows k)) && x)) s

pub shown_grows : (rules : List StripRule) (rows more : List Row) (n k : ℕ) → k < length rows → is_shown rules (rows ++ more) n k ≡ is_shown rules rows n k
shown_grows rules rows more n k l =
    ap (λ b. b && is_child (rows ++ more) n k) (visible_grows rules rows more k l) ∙ ap (λ b. is_visible rules rows k && b) (child_grows rows more n k l)

pub shown_below_grows : (rules : List StripRule) (rows more : List Row) (n count : ℕ) → count ≤ length rows → shown_below rules (rows ++ more) n count ≡ shown_below rules rows n count
shown_below_grows rules rows more n count h = filter_same (is_shown rules (rows ++ more) n) (is_shown rules rows n) 0 count (λ k l m. shown_grows rules rows more n k (omega arith))
