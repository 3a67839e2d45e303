use Rattle.std.proofs.Common.{◌≡◌, ℕ, true, false, not, List, [], ap, sym, ◌∙◌, subst}
use Rattle.doc_model.specs.declared.row.Kind.TheVariants.{Instruction}
use Rattle.doc_model.specs.Rows.{rows_of}
use Rattle.pyx_lines.specs.declared.line.Line.{Line}
use Rattle.pyx_events.specs.Nodes.{instruction_row}
use Rattle.node_writer.specs.New.{AddsNames, has_new_name}
use Rattle.node_writer.specs.Taken.{is_name_of, names_of}
use Rattle.dtm_builder.specs.Judging.{own_rows}
use Rattle.dtm_builder.proofs.Counts.{target_new, target_known}
use Rattle.dtm_builder.proofs.judging.own_names.Goals as goal

pub returns-then-is_new_name : goal.returns-then-is_new_name
returns-then-is_new_name c limits cells s =
    let rows = rows_of cells.steps in
    let target = c.in-Instruction.target in
    let new : has_new_name rows (instruction_row 0 target []) ≡ true =
    ap (λ (text : List ℕ). not (is_name_of (record { kind = Instruction; uri = []; local = text }) (names_of rows))) (sym c.as_slice.ensures)
    ∙ sym (c.is_new_name.ensures limits cells s) ∙ c.if-is_new_name.true in
    subst (λ (line : Line). AddsNames rows (own_rows line) (record { count = 1; bytes = c.len.result })) (sym c.in-Instruction.is)
    (target_new rows target c.len.result new c.len.ensures c.len.type_inv)

pub returns-else-is_new_name : goal.returns-else-is_new_name
returns-else-is_new_name c limits cells s =
    let rows = rows_of cells.steps in
    let target = c.in-Instruction.target in
    let new : has_new_name rows (instruction_row 0 target []) ≡ false =
    ap (λ (text : List ℕ). not (is_name_of (record { kind = Instruction; uri = []; local = text }) (names_of rows))) (sym c.as_slice.ensures)
    ∙ sym (c.is_new_name.ensures limits cells s) ∙ c.if-is_new_name.false in
    subst (λ (line : Line). AddsNames rows (own_rows line) (record { count = 0; bytes = 0 })) (sym c.in-Instruction.is) (target_known rows target new)
