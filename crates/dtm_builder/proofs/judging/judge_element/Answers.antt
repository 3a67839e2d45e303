use Rattle.std.proofs.Common.{◌≡◌, true, List, ◌∷◌, ◌++◌, Option, Some, None, ap, sym, ◌∙◌, subst}
use Rattle.doc_model.specs.declared.flaw.FlawKind.{FlawKind}
use Rattle.doc_model.specs.declared.row.Row.{Row}
use Rattle.doc_model.specs.Rows.{rows_of}
use Rattle.pyx_events.specs.declared.event.Event.{Event}
use Rattle.pyx_events.specs.declared.event.Event.TheVariants.{Node}
use Rattle.pyx_events.specs.Flaw.{at_line, names_flaw}
use Rattle.node_writer.specs.Known.{AreApart, AreFound, names_in}
use Rattle.node_writer.specs.New.{AddsNames}
use Rattle.dtm_builder.specs.Judging.{table_names, IsCount, is_element}
use Rattle.dtm_builder.proofs.Elements.{at_first, rows_first, flaw_first, adds_of}
use Rattle.dtm_builder.proofs.judging.judge_element.Goals as goal

pub new_names-requires-clause-found : goal.new_names-requires-clause-found
new_names-requires-clause-found c =
    let w = c.in-Some-Node in
    let events = c.args.events.now in
    let node : Event = Node w.row w.attributes w.field-0-2 w.field-0-3 w.line in
    let first = at_first events node (sym w.ensures.value ∙ ap (λ (x : Event). Some x) w.field-0-is) in
    let is : is_element w.row.kind ≡ true = sym c.is_element.ensures ∙ c.if-not-is_element.false in
    let rows = rows_first events first.0 w.row w.attributes w.field-0-2 w.field-0-3 w.line first.1 is in
    let names = names_in c.args.writer.now in
    subst (λ (more : List Row). AreFound names (w.row ∷ more) c.args.found.now) (sym c.as_slice.ensures) (subst (λ (all : List Row). AreFound names all c.args.found.now) rows c.requires.found)

pub new_names-requires-clause-apart : goal.new_names-requires-clause-apart
new_names-requires-clause-apart c =
    let w = c.in-Some-Node in
    let events = c.args.events.now in
    let node : Event = Node w.row w.attributes w.field-0-2 w.field-0-3 w.line in
    let first = at_first events node (sym w.ensures.value ∙ ap (λ (x : Event). Some x) w.field-0-is) in
    let is : is_element w.row.kind ≡ true = sym c.is_element.ensures ∙ c.if-not-is_element.false in
    let rows = rows_first events first.0 w.row w.attributes w.field-0-2 w.field-0-3 w.line first.1 is in
    subst (λ (more : List Row). AreApart (w.row ∷ more)) (sym c.as_slice.ensures) (subst (λ (all : List Row). AreApart all) rows c.requires.apart)

pub returns-in-Some-clause-flaw : goal.returns-in-Some-clause-flaw
returns-in-Some-clause-flaw c given cells s n =
    let w = c.in-Some-Node in
    let events = c.args.events.now in
    let node : Event = Node w.row w.attributes w.field-0-2 w.field-0-3 w.line in
    let first = at_first events node (sym w.ensures.value ∙ ap (λ (x : Event). Some x) w.field-0-is) in
    let is : is_element w.row.kind ≡ true = sym c.is_element.ensures ∙ c.if-not-is_element.false in
    let rows = rows_first events first.0 w.row w.attributes w.field-0-2 w.field-0-3 w.line first.1 is in
    let added : AddsNames (rows_of cells.steps) (w.row ∷ w.attributes) c.new_names.result =
    subst (λ (more : List Row). AddsNames (rows_of cells.steps) (w.row ∷ more) c.new_names.result) c.as_slice.ensures (c.new_names.ensures given cells s) in
    let all = table_names (rows_of cells.steps ++ w.row ∷ w.attributes) in
    let count : IsCount c.with-all.result all = c.with-all.ensures (table_names (rows_of cells.steps)) all n (adds_of (rows_of cells.steps) (w.row ∷ w.attributes) c.new_names.result added) in
    let kind : names_flaw c.args.limits.now all c.args.values ≡ Some c.in-Some.kind = sym (c.flaw.ensures all count) ∙ c.in-Some.is in
    flaw_first events first.0 w.row w.attributes w.field-0-2 w.field-0-3 w.line _ first.1 is
    ∙ ap (λ (more : List Row). at_line w.line (names_flaw c.args.limits.now (table_names (rows_of cells.steps ++ more)) c.args.values) None) rows
    ∙ ap (λ (k : Option FlawKind). at_line w.line k None) kind

pub returns-in-None-clause-good : goal.returns-in-None-clause-good
returns-in-None-clause-good c given cells s n =
    let w = c.in-Some-Node in
    let events = c.args.events.now in
    let node : Event = Node w.row w.attributes w.field-0-2 w.field-0-3 w.line in
    let first = at_first events node (sym w.ensures.value ∙ ap (λ (x : Event). Some x) w.field-0-is) in
    let is : is_element w.row.kind ≡ true = sym c.is_element.ensures ∙ c.if-not-is_element.false in
    let rows = rows_first events first.0 w.row w.attributes w.field-0-2 w.field-0-3 w.line first.1 is in
    let added : AddsNames (rows_of cells.steps) (w.row ∷ w.attributes) c.new_names.result =
    subst (λ (more : List Row). AddsNames (rows_of cells.steps) (w.row ∷ more) c.new_names.result) c.as_slice.ensures (c.new_names.ensures given cells s) in
    let all = table_names (rows_of cells.steps ++ w.row ∷ w.attributes) in
    let count : IsCount c.with-all.result all = c.with-all.ensures (table_names (rows_of cells.steps)) all n (adds_of (rows_of cells.steps) (w.row ∷ w.attributes) c.new_names.result added) in
    let kind : names_flaw c.args.limits.now all c.args.values ≡ None = sym (c.flaw.ensures all count) ∙ c.in-None.is in
    flaw_first events first.0 w.row w.attributes w.field-0-2 w.field-0-3 w.line _ first.1 is
    ∙ ap (λ (more : List Row). at_line w.line (names_flaw c.args.limits.now (table_names (rows_of cells.steps ++ more)) c.args.values) None) rows
    ∙ ap (λ (k : Option FlawKind). at_line w.line k None) kind

pub returns-in-None-clause-names : goal.returns-in-None-clause-names
returns-in-None-clause-names c given cells s n =
    let w = c.in-Some-Node in
    let events = c.args.events.now in
    let node : Event = Node w.row w.attributes w.field-0-2 w.field-0-3 w.line in
    let first = at_first events node (sym w.ensures.value ∙ ap (λ (x : Event). Some x) w.field-0-is) in
    let is : is_element w.row.kind ≡ true = sym c.is_element.ensures ∙ c.if-not-is_element.false in
    let rows = rows_first events first.0 w.row w.attributes w.field-0-2 w.field-0-3 w.line first.1 is in
    let added : AddsNames (rows_of cells.steps) (w.row ∷ w.attributes) c.new_names.result =
    subst (λ (more : List Row). AddsNames (rows_of cells.steps) (w.row ∷ more) c.new_names.result) c.as_slice.ensures (c.new_names.ensures given cells s) in
    let all = table_names (rows_of cells.steps ++ w.row ∷ w.attributes) in
    let count : IsCount c.with-all.result all = c.with-all.ensures (table_names (rows_of cells.steps)) all n (adds_of (rows_of cells.steps) (w.row ∷ w.attributes) c.new_names.result added) in
    subst (λ (more : List Row). IsCount c.with-all.result (table_names (rows_of cells.steps ++ more))) (sym rows) count
