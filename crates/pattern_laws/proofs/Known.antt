-- What a reading of a whole document tells.
use Rattle.std.proofs.Common.{◌≡◌, refl, ap, ◌∙◌, ℕ, List, length, Option, Some, None, cond}
use Rattle.std.proofs.lemmas.Bool.{lt-ltb}
use Rattle.doc_model.specs.declared.node_test.Test.{Test}
use Rattle.doc_model.specs.declared.row.Axis.{Axis}
use Rattle.doc_model.specs.declared.step.Step.{Step}
use Rattle.doc_model.specs.declared.strip_rule.StripRule.{StripRule}
use Rattle.doc_model.specs.Answers.{Answer, Known, Open, with_faults, once_shut}
use Rattle.doc_model.specs.Axes.{axis_rows, need_of}
use Rattle.doc_model.specs.Lawful.{IsComplete}
use Rattle.doc_model.specs.Rows.{row_at, rows_of}
use Rattle.doc_laws.proofs.Whole.{whole_is_shut}
use Rattle.fault_kinds.specs.declared.fault.FaultKind.{FaultKind}
use Rattle.sheet_ast.specs.declared.sheet.KeyDecl.{KeyDecl}
use Rattle.xpath_meaning.specs.Keys.{id_rows}
use Rattle.xpath_meaning.specs.Readings.{reading_of}
use Rattle.xpath_laws.specs.Sound.{IsThere}

once_whole : (steps : List Step) → IsComplete steps → {A : Type 0} (need : Option ℕ) (x : A) → once_shut steps need x ≡ Known x
once_whole steps w None x = refl
once_whole steps w (Some m) x = ap (λ b. cond b (Open m) (Known x)) (whole_is_shut steps m w)

pub axis_known : (rules : List StripRule) (keys : List KeyDecl) (id : Option (List ℕ)) (steps : List Step) → IsComplete steps → (axis : Axis) (test : Test) (n : ℕ) → IsThere rules steps n
    → (reading_of rules keys id steps).axis axis test n ≡ Known (axis_rows rules (rows_of steps) n axis test)
unfolding reading_of
axis_known rules keys id steps w axis test n t =
    ap (λ b. with_faults {F = FaultKind} (cond b (once_shut steps (need_of axis (rows_of steps) n) (axis_rows rules (rows_of steps) n axis test)) (Open n))) (lt-ltb n (length (rows_of steps)) t.0)
    ∙ ap (λ (a : Answer ⊥ (List ℕ)). with_faults {F = FaultKind} a) (once_whole steps w (need_of axis (rows_of steps) n) (axis_rows rules (rows_of steps) n axis test))

pub row_known : (rules : List StripRule) (keys : List KeyDecl) (id : Option (List ℕ)) (steps : List Step) (n : ℕ) → IsThere rules steps n
    → (reading_of rules keys id steps).row n ≡ Known (row_at (rows_of steps) n)
unfolding reading_of
row_known rules keys id steps n t = ap (λ b. cond b (Known (row_at (rows_of steps) n)) (Open n)) (lt-ltb n (length (rows_of steps)) t.0)

pub whole_known : (rules : List StripRule) (keys : List KeyDecl) (id : Option (List ℕ)) (steps : List Step) → IsComplete steps → (reading_of rules keys id steps).whole ≡ Known tt
unfolding reading_of
whole_known rules keys id steps w = ap (λ (a : Answer ⊥ (Unit {0})). with_faults {F = FaultKind} a) (once_whole steps w (Some 0) tt)

pub id_known : (rules : List StripRule) (keys : List KeyDecl) (id : Option (List ℕ)) (steps : List Step) → IsComplete steps → (value : List ℕ)
    → (reading_of rules keys id steps).by_id value ≡ Known (id_rows id (rows_of steps) value)
unfolding reading_of
id_known rules keys id steps w value = ap (λ (a : Answer ⊥ (List ℕ)). with_faults {F = FaultKind} a) (once_whole steps w (Some 0) (id_rows id (rows_of steps) value))
