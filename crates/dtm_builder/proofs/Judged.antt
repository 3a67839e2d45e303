-- What a builder that stands for a table and its lines counts.
use Rattle.std.proofs.Common.{◌≡◌, false, List, ◌∷◌, ◌++◌, ap, sym, ◌∙◌, subst}
use Rattle.doc_model.specs.declared.limits.Limits.{Limits}
use Rattle.doc_model.specs.declared.step.Step.{Step}
use Rattle.doc_model.specs.Cells.{Cells}
use Rattle.doc_model.specs.Rows.{rows_of}
use Rattle.pyx_lines.specs.declared.line.Line.{Line}
use Rattle.pyx_events.specs.declared.event.Event.{Event}
use Rattle.pyx_events.specs.Before.{completed_start}
use Rattle.pyx_events.specs.Counted.{Names, names_of}
use Rattle.pyx_events.specs.Nodes.{completed, node_rows, line_events, events_to}
use Rattle.pyx_events.specs.Steps.{steps_of_events}
use Rattle.node_writer.specs.declared.new_names.NewNames.{NewNames}
use Rattle.node_writer.specs.New.{AddsNames}
use Rattle.dtm_builder.specs.declared.builder.Builder.{Builder}
use Rattle.dtm_builder.specs.Judging.{table_names, IsCount, Adds, own_rows, element_rows}
use Rattle.dtm_builder.specs.Standing.{Stands}
use Rattle.dtm_builder.proofs.Counts.{names_before, own_adds}
use Rattle.dtm_builder.proofs.Elements.{IsFirst, line_first}

pub names_stand : (builder : Builder) (limits : Limits) (cells : Cells) (before : List Line) → Stands builder limits cells before → IsCount builder.names (table_names (rows_of cells.steps))
names_stand builder limits cells before s = subst (λ (names : Names). IsCount builder.names names) (names_before before ∙ ap (λ (steps : List Step). table_names (rows_of steps)) (sym s.steps)) s.names

pub own_stands : (before : List Line) (line : Line) (events : List Event) (steps : List Step) (own : NewNames) → steps ≡ steps_of_events (events_to before)
    → events ≡ line_events before line → AddsNames (rows_of steps) (own_rows line) own
    → Adds (table_names (rows_of steps ++ element_rows events)) own (names_of false (events_to (line ∷ before)))
own_stands before line events steps own is e added =
    let all = names_of false (events_to (line ∷ before)) in
    let now = rows_of (steps_of_events (events_to before)) in
    let first : element_rows events ≡ node_rows (completed before (completed_start before line)) = ap element_rows e ∙ IsFirst.rows (line_first before line) in
    subst (λ (it : List Step). Adds (table_names (rows_of it ++ element_rows events)) own all) (sym is)
    (subst (λ more. Adds (table_names (now ++ more)) own all) (sym first) (own_adds before line own (subst (λ (it : List Step). AddsNames (rows_of it) (own_rows line) own) is added)))
