-- Flawless lines stay within the limits. The lines before are given with the latest first.
use Rattle.std.proofs.Common.{◌≡◌, ℕ, ◌+◌, ◌==◌, Bool, true, false, cond, not, ◌&&◌, List, [], ◌∷◌, ◌++◌, length, Option, Some, None, refl, ap, ap₂}
use Rattle.std.proofs.Common.{sym, ◌∙◌, arith, inl, inr, append_assoc, append-nil, length-append}
use Rattle.std.specs.Prelude.{is_some}
use Rattle.std.specs.List.{sum_by}
use Rattle.std.proofs.lemmas.Bool.{cases_Bool, false≢true}
use Rattle.std.proofs.lemmas.Bool.Decides.{nat_tests}
use Rattle.std.proofs.lemmas.List.Sums.{sum_by-cons, sum_by-append, sum_by_push}
use Rattle.doc_model.specs.declared.flaw.FlawKind.TheVariants as kind
use Rattle.doc_model.specs.declared.limits.Limits.{Limits}
use Rattle.doc_model.specs.declared.row.Row.{Row}
use Rattle.doc_model.specs.declared.step.Step.{Step}
use Rattle.doc_model.specs.Rows.{rows_given}
use Rattle.xml_names.specs.declared.scopes.Binding.{Binding}
use Rattle.pyx_lines.specs.declared.line.Line.{Line}
use Rattle.pyx_lines.specs.declared.line.Line.TheVariants.{Start, End, Attr, Text, Instruction, Comment, Passed}
use Rattle.pyx_events.specs.declared.event.Event.{Event}
use Rattle.pyx_events.specs.declared.event.Event.TheVariants as event
use Rattle.pyx_events.specs.declared.pending_start.Attribute.{Attribute}
use Rattle.pyx_events.specs.declared.pending_start.PendingStart.{PendingStart}
use Rattle.pyx_events.specs.Before.{depth, with_attribute, pending_start, pending_text, is_declaration, bindings, row_count, value_bytes, uris_to}
use Rattle.pyx_events.specs.Nodes.{element_row, declarations, attribute_row, attribute_rows, start_node, numbers_of, plain_node, completed, text_row}
use Rattle.pyx_events.specs.Nodes.{instruction_row, comment_row, text_node, ended_text, line_events, events_to, event_rows, node_rows}
use Rattle.pyx_events.specs.Flaw.{line_flaw}
use Rattle.pyx_events.specs.Steps.{step_of, steps_of_events}
use Rattle.dtm_builder.specs.Lines.{AreFlawless}
use Rattle.dtm_builder.proofs.Balancing.{own_good}

pub rows_join : (xs ys : List Event) → node_rows (xs ++ ys) ≡ node_rows xs ++ node_rows ys
rows_join [] ys = refl
rows_join (x ∷ xs) ys = ap (λ all. event_rows x ++ all) (rows_join xs ys) ∙ sym (append_assoc (event_rows x) (node_rows xs) (node_rows ys))

rows_of_event : (x : Event) (more : List Step) → rows_given (step_of x ∷ more) ≡ event_rows x ++ rows_given more
rows_of_event (event.Node row attributes declarations uris line) more = refl
rows_of_event event.Shut more = refl

-- the rows of the steps are the root and those of the events
pub rows_are : (events : List Event) → rows_given (steps_of_events events) ≡ node_rows events
rows_are [] = refl
rows_are (x ∷ events) = rows_of_event x (steps_of_events events) ∙ ap (λ all. event_rows x ++ all) (rows_are events)

-- the sum over the rows of events, in parts
module _ (w : Row → ℕ) where
  abbrev pub measure : List Event → ℕ
  measure events = sum_by w (node_rows events)

  pub measure_join : (xs ys : List Event) → measure (xs ++ ys) ≡ measure xs + measure ys
  measure_join xs ys = ap (sum_by w) (rows_join xs ys) ∙ sum_by-append w (node_rows xs) (node_rows ys)

  measure_node : (row : Row) (attributes : List Row) (declarations : List Binding) (uris : List ℕ) (line : ℕ)
      → measure (event.Node row attributes declarations uris line ∷ []) ≡ w row + sum_by w attributes
  measure_node row attributes declarations uris line = ap (sum_by w) (append-nil (row ∷ attributes)) ∙ sum_by-cons w row attributes

-- what is pending, in the same measure: an element's own, and its attributes that aren't declarations
module _ (size : List ℕ → ℕ) where
  abbrev pub attribute_size : Attribute → ℕ
  attribute_size it = cond (is_declaration it.name) 0 (size it.value)

  abbrev pub start_size : ℕ → Option PendingStart → ℕ
  start_size own None = 0
  start_size own (Some it) = own + sum_by attribute_size it.attributes

  attributes_size : (w : Row → ℕ) (bound : List Binding) (deep : ℕ) (lines : List Attribute) → ((it : Attribute) → w (attribute_row bound deep it) ≡ size it.value)
      → sum_by w (attribute_rows bound deep lines) ≡ sum_by attribute_size lines
  attributes_size w bound deep [] h = refl
  attributes_size w bound deep (it ∷ lines) h =
      let rest = attributes_size w bound deep lines h in
      let more = sum_by-cons attribute_size it lines in
      elim (cases_Bool (is_declaration it.name)) [
        | inl e ↦
            let none : sum_by attribute_size (it ∷ lines) ≡ 0 + sum_by attribute_size lines = more ∙ ap (λ b. cond b 0 (size it.value) + sum_by attribute_size lines) e in
            let here : sum_by w (attribute_rows bound deep (it ∷ lines)) ≡ sum_by w (attribute_rows bound deep lines) = rw e refl in
            here ∙ rest ∙ sym (none ∙ omega arith)
        | inr e ↦
            let one : sum_by attribute_size (it ∷ lines) ≡ size it.value + sum_by attribute_size lines = more ∙ ap (λ b. cond b 0 (size it.value) + sum_by attribute_size lines) e in
            let here : sum_by w (attribute_rows bound deep (it ∷ lines)) ≡ w (attribute_row bound deep it) + sum_by w (attribute_rows bound deep lines) =
            rw e (sum_by-cons w (attribute_row bound deep it) (attribute_rows bound deep lines)) in
            here ∙ ap₂ (λ m n. m + n) (h it) rest ∙ sym one
      ]

  with_attribute_size : (own : ℕ) (name value : List ℕ) (it : Option PendingStart) → is_some it ≡ true
      → start_size own (with_attribute name value it) ≡ start_size own it + cond (is_declaration name) 0 (size value)
  with_attribute_size own name value None h = absurd (false≢true h)
  with_attribute_size own name value (Some it) h = let last = sum_by_push attribute_size it.attributes (record { name = name; value = value }) in omega (arith, last)

abbrev pub one_row : Row → ℕ
one_row row = 1

abbrev pub one_value : List ℕ → ℕ
one_value value = 1

abbrev pub row_value : Row → ℕ
row_value row = length row.value

abbrev pub value_size : List ℕ → ℕ
value_size value = length value

start_rows : (uris : List (List ℕ)) (bound : List Binding) (deep : ℕ) (it : Option PendingStart) → measure one_row (start_node uris bound deep it) ≡ start_size one_value 1 it
start_rows uris bound deep None = refl
start_rows uris bound deep (Some it) =
    measure_node one_row (element_row bound deep it.name) (attribute_rows bound (deep + 1) it.attributes) (declarations it.attributes)
    (numbers_of uris (element_row bound deep it.name ∷ attribute_rows bound (deep + 1) it.attributes)) it.line
    ∙ ap (λ n. 1 + n) (attributes_size one_value one_row bound (deep + 1) it.attributes (λ a. refl))

start_values : (uris : List (List ℕ)) (bound : List Binding) (deep : ℕ) (it : Option PendingStart) → measure row_value (start_node uris bound deep it) ≡ start_size value_size 0 it
start_values uris bound deep None = refl
start_values uris bound deep (Some it) =
    measure_node row_value (element_row bound deep it.name) (attribute_rows bound (deep + 1) it.attributes) (declarations it.attributes)
    (numbers_of uris (element_row bound deep it.name ∷ attribute_rows bound (deep + 1) it.attributes)) it.line
    ∙ ap (λ n. 0 + n) (attributes_size value_size row_value bound (deep + 1) it.attributes (λ a. refl))

abbrev pub text_rows : List ℕ → ℕ
text_rows text = cond (length text == 0) 0 1

text_node_rows : (n line : ℕ) (text : List ℕ) → measure one_row (text_node n text line) ≡ text_rows text
text_node_rows n line text = elim (cases_Bool (length text == 0)) [
  | inl e ↦ rw e refl
  | inr e ↦ rw e (measure_node one_row (text_row n text) [] [] (0 ∷ []) line)
]

text_node_values : (n line : ℕ) (text : List ℕ) → measure row_value (text_node n text line) ≡ length text
text_node_values n line text = elim (cases_Bool (length text == 0)) [
  | inl e ↦ rw e (grind (arith, nat_tests, e))
  | inr e ↦ rw e (measure_node row_value (text_row n text) [] [] (0 ∷ []) line ∙ omega arith)
]

-- an attribute line without a flaw follows a start
follows : (limits : Limits) (before : List Line) (name value : List ℕ) → line_flaw limits false before (Attr name value) ≡ None → is_some (pending_start before) ≡ true
follows limits before name value h = elim (cases_Bool (is_some (pending_start before))) [
  | inl e ↦ e
  | inr e ↦ let good = own_good limits before (Attr name value) h in absurd (let bad : Some kind.AttrPlace ≡ None = rw e at good in cc)
]

full_rows : (b : ℕ) (text : List ℕ) → text_rows (b ∷ text) ≡ 1
full_rows b text = grind (arith, nat_tests)

not_nil : (b : ℕ) (text : List ℕ) → (length (b ∷ text) == 0) ≡ false
not_nil b text = grind arith

text_more : (out : Bool) (pending text : List ℕ) → text_rows (cond out pending (pending ++ text)) ≡ text_rows pending + cond (not out && not (length text == 0) && length pending == 0) 1 0
text_more true pending text = omega arith
text_more false [] [] = refl
text_more false [] (b ∷ text) = rw (not_nil b text) refl
text_more false (b ∷ pending) [] = rw (not_nil b pending, not_nil b (pending ++ [])) refl
text_more false (b ∷ pending) (d ∷ text) = rw (not_nil b pending, not_nil b (pending ++ d ∷ text), not_nil d text) refl

-- the rows of the nodes and those that are pending are those that are counted
pub rows_counted : (limits : Limits) (before : List Line) → AreFlawless limits before
    → 1 + measure one_row (events_to before) + start_size one_value 1 (pending_start before) + text_rows (pending_text before) ≡ row_count before
rows_counted limits [] f = refl
rows_counted limits (Start name ∷ before) f =
    let h = rows_counted limits before f.1 in
    let all = measure_join one_row (events_to before) (line_events before (Start name)) in
    let now = measure_join one_row (completed before (pending_start before)) (ended_text before) in
    omega (arith, h, all, now, start_rows (uris_to before) (bindings 0 before) (depth before) (pending_start before), text_node_rows (depth before + 1) (length before + 1) (pending_text before))
rows_counted limits (End name ∷ before) f =
    let h = rows_counted limits before f.1 in
    let all = measure_join one_row (events_to before) (line_events before (End name)) in
    let now = measure_join one_row (completed before (pending_start before)) (ended_text before ++ event.Shut ∷ []) in
    let end = measure_join one_row (ended_text before) (event.Shut ∷ []) in
    omega (arith, h, all, now, end, start_rows (uris_to before) (bindings 0 before) (depth before) (pending_start before), text_node_rows (depth before + 1) (length before + 1) (pending_text before))
rows_counted limits (Attr name value ∷ before) f =
    let h = rows_counted limits before f.1 in
    let all = measure_join one_row (events_to before) [] in
    let more = with_attribute_size one_value 1 name value (pending_start before) (follows limits before name value f.0) in
    omega (arith, h, all, more)
rows_counted limits (Text text ∷ before) f =
    let h = rows_counted limits before f.1 in
    let all = measure_join one_row (events_to before) (line_events before (Text text)) in
    let now = measure_join one_row (completed before (pending_start before)) [] in
    omega (arith, h, all, now, start_rows (uris_to before) (bindings 0 before) (depth before) (pending_start before), text_more (depth before == 0) (pending_text before) text)
rows_counted limits (Instruction target value ∷ before) f =
    let h = rows_counted limits before f.1 in
    let own = plain_node (instruction_row (depth before + 1) target value) (length before + 1) ∷ [] in
    let all = measure_join one_row (events_to before) (line_events before (Instruction target value)) in
    let now = measure_join one_row (completed before (pending_start before)) (ended_text before ++ own) in
    let end = measure_join one_row (ended_text before) own in
    omega (arith, h, all, now, end, start_rows (uris_to before) (bindings 0 before) (depth before) (pending_start before), text_node_rows (depth before + 1) (length before + 1) (pending_text before))
rows_counted limits (Comment text ∷ before) f =
    let h = rows_counted limits before f.1 in
    let own = plain_node (comment_row (depth before + 1) text) (length before + 1) ∷ [] in
    let all = measure_join one_row (events_to before) (line_events before (Comment text)) in
    let now = measure_join one_row (completed before (pending_start before)) (ended_text before ++ own) in
    let end = measure_join one_row (ended_text before) own in
    omega (arith, h, all, now, end, start_rows (uris_to before) (bindings 0 before) (depth before) (pending_start before), text_node_rows (depth before + 1) (length before + 1) (pending_text before))
rows_counted limits (Passed ∷ before) f =
    let h = rows_counted limits before f.1 in
    let all = measure_join one_row (events_to before) [] in
    omega (arith, h, all)

-- the bytes of the nodes' values and of those that are pending are those that are counted
value_more : (out : Bool) (pending text : List ℕ) → length (cond out pending (pending ++ text)) ≡ length pending + cond out 0 (length text)
value_more true pending text = omega arith
value_more false pending text = length-append pending text

pub values_counted : (limits : Limits) (before : List Line) → AreFlawless limits before
    → measure row_value (events_to before) + start_size value_size 0 (pending_start before) + length (pending_text before) ≡ value_bytes before
values_counted limits [] f = refl
values_counted limits (Start name ∷ before) f =
    let h = values_counted limits before f.1 in
    let all = measure_join row_value (events_to before) (line_events before (Start name)) in
    let now = measure_join row_value (completed before (pending_start before)) (ended_text before) in
    omega (arith, h, all, now, start_values (uris_to before) (bindings 0 before) (depth before) (pending_start before), text_node_values (depth before + 1) (length before + 1) (pending_text before))
values_counted limits (End name ∷ before) f =
    let h = values_counted limits before f.1 in
    let all = measure_join row_value (events_to before) (line_events before (End name)) in
    let now = measure_join row_value (completed before (pending_start before)) (ended_text before ++ event.Shut ∷ []) in
    let end = measure_join row_value (ended_text before) (event.Shut ∷ []) in
    omega (
      arith,
      h,
      all,
      now,
      end,
      start_values (uris_to before) (bindings 0 before) (depth before) (pending_start before),
      text_node_values (depth before + 1) (length before + 1)
          (pending_text before),
    )
values_counted limits (Attr name value ∷ before) f =
    let h = values_counted limits before f.1 in
    let all = measure_join row_value (events_to before) [] in
    let more = with_attribute_size value_size 0 name value (pending_start before) (follows limits before name value f.0) in
    omega (arith, h, all, more)
values_counted limits (Text text ∷ before) f =
    let h = values_counted limits before f.1 in
    let all = measure_join row_value (events_to before) (line_events before (Text text)) in
    let now = measure_join row_value (completed before (pending_start before)) [] in
    omega (arith, h, all, now, start_values (uris_to before) (bindings 0 before) (depth before) (pending_start before), value_more (depth before == 0) (pending_text before) text)
values_counted limits (Instruction target value ∷ before) f =
    let h = values_counted limits before f.1 in
    let own = plain_node (instruction_row (depth before + 1) target value) (length before + 1) ∷ [] in
    let all = measure_join row_value (events_to before) (line_events before (Instruction target value)) in
    let now = measure_join row_value (completed before (pending_start before)) (ended_text before ++ own) in
    let end = measure_join row_value (ended_text before) own in
    omega (
      arith,
      h,
      all,
      now,
      end,
      start_values (uris_to before) (bindings 0 before) (depth before) (pending_start before),
      text_node_values (depth before + 1) (length before + 1)
          (pending_text before),
    )
values_counted limits (Comment text ∷ before) f =
    let h = values_counted limits before f.1 in
    let own = plain_node (comment_row (depth before + 1) text) (length before + 1) ∷ [] in
    let all = measure_join row_value (events_to before) (line_events before (Comment text)) in
    let now = measure_join row_value (completed before (pending_start before)) (ended_text before ++ own) in
    let end = measure_join row_value (ended_text before) own in
    omega (
      arith,
      h,
      all,
      now,
      end,
      start_values (uris_to before) (bindings 0 before) (depth before) (pending_start before),
      text_node_values (depth before + 1) (length before + 1)
          (pending_text before),
    )
values_counted limits (Passed ∷ before) f =
    let h = values_counted limits before f.1 in
    let all = measure_join row_value (events_to before) [] in
    omega (arith, h, all)
