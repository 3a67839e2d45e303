use Rattle.std.proofs.Common.{◌≡◌, ◌+◌, true, ℕ, List, ◌∷◌, Some, IfOk, length, ap, sym, ◌∙◌, subst, arith}
use Rattle.doc_model.specs.declared.row.Row.{Row}
use Rattle.pyx_events.specs.declared.event.Event.{Event}
use Rattle.pyx_events.specs.declared.event.Event.TheVariants.{Node}
use Rattle.pyx_events.specs.Numbered.{AreNumbered}
use Rattle.pyx_events.proofs.Numbered.{as_many}
use Rattle.node_writer.specs.Known.{AreKnown, names_in}
use Rattle.dtm_builder.specs.Judging.{is_element}
use Rattle.dtm_builder.specs.Recalled.{first_rows}
use Rattle.dtm_builder.proofs.Elements.{at_first}
use Rattle.dtm_builder.proofs.Recalling.{node_numbered, ok_known}
use Rattle.dtm_builder.proofs.recall.recall.Goals as goal

pub recall_rows-requires : goal.recall_rows-requires
recall_rows-requires c =
    let w = c.in-Some-Node in
    let events = c.args.events.now in
    let node : Event = Node w.row w.attributes w.field-0-2 w.uris w.field-0-4 in
    let first = at_first events node (sym w.ensures.value ∙ ap (λ (x : Event). Some x) w.field-0-is) in
    let is : is_element w.row.kind ≡ true = sym c.is_element.ensures ∙ c.if-not-is_element.false in
    let are = node_numbered c.requires.0 events first.0 w.row w.attributes w.field-0-2 w.uris w.field-0-4 first.1 is c.requires.1 in
    let many : length w.uris ≡ length (w.row ∷ w.attributes) = as_many c.requires.0 (w.row ∷ w.attributes) w.uris are in
    ap (λ (all : List ℕ). length all) c.as_slice-in-Some-Node.ensures ∙ many ∙ omega arith ∙ ap (λ (all : List Row). length all + 1) (sym c.as_slice.ensures)

pub returns-else-not-is_element-clause-known : goal.returns-else-not-is_element-clause-known
returns-else-not-is_element-clause-known c uris recalls numbered =
    let w = c.in-Some-Node in
    let events = c.args.events.now in
    let names = names_in c.args.writer.now in
    let node : Event = Node w.row w.attributes w.field-0-2 w.uris w.field-0-4 in
    let first = at_first events node (sym w.ensures.value ∙ ap (λ (x : Event). Some x) w.field-0-is) in
    let is : is_element w.row.kind ≡ true = sym c.is_element.ensures ∙ c.if-not-is_element.false in
    let are = node_numbered uris events first.0 w.row w.attributes w.field-0-2 w.uris w.field-0-4 first.1 is numbered in
    let here : AreNumbered uris (w.row ∷ c.as_slice.result.now) c.as_slice-in-Some-Node.result.now =
    subst (λ (rows : List Row). AreNumbered uris (w.row ∷ rows) c.as_slice-in-Some-Node.result.now) (sym c.as_slice.ensures)
    (subst (λ (numbers : List ℕ). AreNumbered uris (w.row ∷ w.attributes) numbers) (sym c.as_slice-in-Some-Node.ensures) are) in
    let rows : w.row ∷ c.as_slice.result.now ≡ first_rows events = ap (λ (all : List Row). w.row ∷ all) c.as_slice.ensures ∙ ap first_rows (sym first.1) in
    subst (λ (all : List Row). IfOk c.recall_rows.result (λ found. AreKnown 0 names all found)) rows
    (ok_known names (w.row ∷ c.as_slice.result.now) c.recall_rows.result (c.recall_rows.ensures.found uris recalls here))
