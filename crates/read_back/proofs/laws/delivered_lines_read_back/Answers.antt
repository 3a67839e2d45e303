use Rattle.std.proofs.Common.{◌≡◌, ◌∙◌, ap, sym, map, [], List, true}
use Rattle.doc_model.specs.declared.row.Row.{Row}
use Rattle.doc_model.specs.declared.step.Step.{Step}
use Rattle.doc_model.specs.Rows.{rows_given}
use Rattle.pyx_lines.specs.Lines.{judged_lines}
use Rattle.result_events.specs.Tidy.{tidy_of}
use Rattle.result_events.specs.declared.event.ResultEvent.{ResultEvent}
use Rattle.pyx_output.specs.Bytes.{lines_from, bytes_of_lines}
use Rattle.read_back.specs.Contents.{content_of}
use Rattle.read_back.specs.Legible.{IsLegible, balances}
use Rattle.pyx_lines.proofs.ReadBack.{reads_back}
use Rattle.read_back.proofs.Shape.{contents_told, legible_tidy, balances-tidy, tidy_is}
use Rattle.read_back.proofs.Stops.{flaw_well, good_steps, rows_of_events, events_after}
use Rattle.read_back.proofs.Walk.{writable, well, gives_nodes}
use Rattle.read_back.proofs.laws.delivered_lines_read_back.Goals as goal

balanced : (events : List ResultEvent) → IsLegible events → balances 0 (tidy_of events) ≡ true
balanced events is = balances-tidy 0 events ∙ is.balanced

pub returns-clause-flaw : goal.returns-clause-flaw
returns-clause-flaw c = λ limits events is.
    let lines = lines_from [] (tidy_of events) in
    let legible = legible_tidy events is.legible in
    let all = writable (tidy_of events) legible (tidy_is events) (balanced events is) in
    flaw_well limits [] lines (judged_lines (bytes_of_lines lines)) (reads_back lines all) (well limits (tidy_of events) legible (tidy_is events) (balanced events is))

pub returns-clause-rows : goal.returns-clause-rows
returns-clause-rows c = λ limits events is none.
    let lines = lines_from [] (tidy_of events) in
    let legible = legible_tidy events is.legible in
    let all = writable (tidy_of events) legible (tidy_is events) (balanced events is) in
    let steps = good_steps limits [] lines (judged_lines (bytes_of_lines lines)) (reads_back lines all) none in
    ap (λ (steps : List Step). map content_of (rows_given steps)) steps
    ∙ (ap (λ (rows : List Row). map content_of rows) (rows_of_events (events_after [] lines))
    ∙ (gives_nodes (tidy_of events) legible (tidy_is events) (balanced events is) ∙ sym (contents_told 0 events)))
