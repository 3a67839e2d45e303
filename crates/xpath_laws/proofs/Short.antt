-- What `.` and `..` lead to.
use Rattle.std.proofs.Common.{◌≡◌, refl, sym, ap, ◌∙◌, ℕ, ◌<◌, List, [], ◌∷◌, length, filter, Bool, true, false, cond, ◌||◌, eqb, ltb, Option, Some, None, arith, inl, inr}
use Rattle.std.proofs.lemmas.Bool.{lt-ltb, and_parts, and_from, and_right, eq-eqb, eqb-true, false≢true}
use Rattle.doc_model.specs.declared.node_test.Test.TheVariants as test
use Rattle.doc_model.specs.declared.row.Axis.TheVariants as axis
use Rattle.doc_model.specs.declared.step.Step.{Step}
use Rattle.doc_model.specs.declared.strip_rule.StripRule.{StripRule}
use Rattle.doc_model.specs.Answers.{Known, Open, with_faults, once_shut}
use Rattle.doc_model.specs.Axes.{is_selected, axis_rows}
use Rattle.doc_model.specs.Document.{is_parent}
use Rattle.doc_model.specs.Relations.{numbers, parent_of, is_some_of}
use Rattle.doc_model.specs.Rows.{rows_of, row_at}
use Rattle.doc_model.specs.Strip.{is_visible}
use Rattle.fault_kinds.specs.declared.fault.FaultKind.{FaultKind}
use Rattle.sheet_ast.specs.declared.sheet.KeyDecl.{KeyDecl}
use Rattle.doc_laws.proofs.Ancestors.{same_truth}
use Rattle.doc_laws.proofs.Kids.{is_some_of-true}
use Rattle.doc_laws.proofs.Links.{parent_before}
use Rattle.doc_laws.proofs.Numbers.{filter_nothing}
use Rattle.doc_laws.proofs.Parents.{parent_is}
use Rattle.doc_laws.proofs.Selected.{filter_ascends, member_of_filter, member_if_passes}
use Rattle.xpath_meaning.specs.Readings.{reading_of}
use Rattle.xpath_meaning.specs.Tests.{nodes_on}
use Rattle.xpath_syntax.specs.declared.expression.AxisName.TheVariants as name
use Rattle.xpath_syntax.specs.declared.expression.TestExpr.TheVariants as written
use Rattle.xpath_laws.specs.Sound.{IsThere}
use Rattle.xpath_laws.proofs.Order.{one_order, or_cases}
use Rattle.xpath_laws.proofs.There.{no_text, seen_if_no_text}

only_one : (f : ℕ → Bool) (count m : ℕ) → m < count → f m ≡ true → ((k : ℕ) → f k ≡ true → k ≡ m) → filter f (numbers 0 count) ≡ m ∷ []
only_one f count m l h only = one_order 0 0 (filter f (numbers 0 count)) (m ∷ []) (filter_ascends f 0 count) (omega arith, tt)
    (λ k. same_truth _ _
    (λ t. let r = member_of_filter f 0 count k t in ap (λ b. b || false) (eq-eqb k m (only k r.2)))
    (λ t. elim (or_cases (eqb k m) false t) [
      | inl e ↦ let same = eqb-true k m e in member_if_passes f 0 count k (omega arith) (omega (arith, same, l)) (ap f same ∙ h)
      | inr e ↦ absurd (false≢true e)
    ]))

-- the rows of an axis that needs no row shut
known_axis : (rules : List StripRule) (steps : List Step) (n : ℕ) → IsThere rules steps n → (rows : List ℕ)
    → with_faults {F = FaultKind} (cond (ltb n (length (rows_of steps))) (once_shut steps None rows) (Open n)) ≡ Known rows
known_axis rules steps n t rows = ap (λ b. with_faults {F = FaultKind} (cond b (once_shut steps None rows) (Open n))) (lt-ltb n (length (rows_of steps)) t.0)

itself_alone : (rules : List StripRule) (steps : List Step) (n : ℕ) → IsThere rules steps n → axis_rows rules (rows_of steps) n axis.Itself test.Any ≡ n ∷ []
itself_alone rules steps n t = only_one (is_selected rules (rows_of steps) n axis.Itself test.Any) (length (rows_of steps)) n t.0
    (and_from (is_visible rules (rows_of steps) n) (eqb n n) t.1 (eq-eqb n n refl))
    (λ k s. sym (eqb-true n k (and_parts (is_visible rules (rows_of steps) k) (eqb n k) s).1))

pub dot_is : (rules : List StripRule) (keys : List KeyDecl) (id : Option (List ℕ)) (steps : List Step) (n : ℕ) → IsThere rules steps n
    → nodes_on (reading_of rules keys id steps) name.Itself written.Node n ≡ Known (n ∷ [])
unfolding reading_of
dot_is rules keys id steps n t = known_axis rules steps n t (axis_rows rules (rows_of steps) n axis.Itself test.Any) ∙ ap Known (itself_alone rules steps n t)

parent_alone : (rules : List StripRule) (steps : List Step) (n m : ℕ) → IsThere rules steps n → parent_of (rows_of steps) n ≡ Some m → axis_rows rules (rows_of steps) n axis.Parent test.Any ≡ m ∷ []
parent_alone rules steps n m t p =
    let above = (parent_is (rows_of steps) n m t.0 p).above in
    let seen = seen_if_no_text rules (rows_of steps) m (no_text (row_at (rows_of steps) m).kind (and_parts (is_parent (row_at (rows_of steps) m).kind) _ above).0) in
    only_one (is_selected rules (rows_of steps) n axis.Parent test.Any) (length (rows_of steps)) m (parent_before (rows_of steps) n m p).1
    (and_from (is_visible rules (rows_of steps) m) (is_some_of (parent_of (rows_of steps) n) m) seen (ap (λ o. is_some_of o m) p ∙ eq-eqb m m refl))
    (λ k s. same_some k m (sym (is_some_of-true (parent_of (rows_of steps) n) k (and_parts (is_visible rules (rows_of steps) k) (is_some_of (parent_of (rows_of steps) n) k) s).1) ∙ p))
  where
    same_some : (a b : ℕ) → Some a ≡ Some b → a ≡ b
    same_some a b e = eqb-true a b (ap (λ o. is_some_of o b) e ∙ eq-eqb b b refl)

pub dots_are : (rules : List StripRule) (keys : List KeyDecl) (id : Option (List ℕ)) (steps : List Step) (n m : ℕ) → IsThere rules steps n → parent_of (rows_of steps) n ≡ Some m
    → nodes_on (reading_of rules keys id steps) name.Parent written.Node n ≡ Known (m ∷ [])
unfolding reading_of
dots_are rules keys id steps n m t p = known_axis rules steps n t (axis_rows rules (rows_of steps) n axis.Parent test.Any) ∙ ap Known (parent_alone rules steps n m t p)

pub no_dots : (rules : List StripRule) (keys : List KeyDecl) (id : Option (List ℕ)) (steps : List Step) (n : ℕ) → IsThere rules steps n → parent_of (rows_of steps) n ≡ None
    → nodes_on (reading_of rules keys id steps) name.Parent written.Node n ≡ Known []
unfolding reading_of
no_dots rules keys id steps n t p =
    known_axis rules steps n t (axis_rows rules (rows_of steps) n axis.Parent test.Any)
    ∙ ap Known (filter_nothing (is_selected rules (rows_of steps) n axis.Parent test.Any) 0 (length (rows_of steps))
    (λ k a b. and_right (is_visible rules (rows_of steps) k) (is_some_of (parent_of (rows_of steps) n) k) (ap (λ o. is_some_of o k) p)))
