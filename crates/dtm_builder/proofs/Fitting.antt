-- A table has room for the rows of flawless lines. The lines before are given with the latest first.
use Rattle.std.proofs.Common.{◌≡◌, ◌+◌, ◌≤◌, List, [], ◌∷◌, length, sym, ◌∙◌, subst, arith}
use Rattle.std.proofs.lemmas.List.Sums.{sum_by-cons}
use Rattle.doc_model.specs.declared.limits.Limits.{Limits}
use Rattle.doc_model.specs.declared.row.Row.{Row}
use Rattle.doc_model.specs.Rows.{root_row, rows_of}
use Rattle.pyx_lines.specs.declared.line.Line.{Line}
use Rattle.pyx_events.specs.Before.{row_count, value_bytes}
use Rattle.pyx_events.specs.Nodes.{events_to, node_rows}
use Rattle.pyx_events.specs.Steps.{steps_of_events}
use Rattle.node_writer.specs.Taken as taken
use Rattle.node_writer.specs.Taken.{HasRoom, name_bytes, prefix_bytes, names_from, prefixes_from}
use Rattle.dtm_builder.specs.Lines.{AreFlawless}
use Rattle.dtm_builder.proofs.Agreeing.{ones, same_count, same_bytes}
use Rattle.dtm_builder.proofs.Naming.{within, no_root}
use Rattle.dtm_builder.proofs.Rooming.{rows_are, rows_counted, values_counted, measure, one_row, row_value}

pub room : (limits : Limits) (before : List Line) → AreFlawless limits before → row_count before ≤ limits.rows → HasRoom limits (rows_of (steps_of_events (events_to before)))
room limits before f fits =
    let rows = node_rows (events_to before) in
    let names = within limits before f in
    let all : measure one_row (events_to before) ≡ length rows = ones rows in
    let counted = rows_counted limits before f in
    let values = values_counted limits before f in
    let sum = sum_by-cons row_value root_row rows in
    let count = same_count rows (no_root before) in
    let bytes = same_bytes rows (no_root before) in
    let names_fit : length (names_from [] rows) + length (prefixes_from [] rows) ≤ limits.names = subst (λ n. n ≤ limits.names) (sym count) names.count in
    let text : taken.value_bytes (root_row ∷ rows) ≡ measure row_value (events_to before) = sum ∙ omega arith in
    let bytes_fit : value_bytes before + (name_bytes (names_from [] rows) + prefix_bytes (prefixes_from [] rows)) ≤ limits.text =
    subst (λ n. value_bytes before + n ≤ limits.text) (sym bytes) names.bytes in
    subst (λ (given : List Row). HasRoom limits (root_row ∷ given)) (sym (rows_are (events_to before))) (record {
      rows = omega (arith, all, counted, fits);
      names = names_fit;
      text = omega (arith, text, values, bytes_fit);
    })
