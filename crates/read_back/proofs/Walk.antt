-- The lines of events, one after another: no flaw comes that may not, and what they give.
use Rattle.std.proofs.Common.{◌≡◌, ℕ, zero, suc, ◌+◌, ◌-◌, ◌==◌, ◌&&◌, List, [], ◌∷◌, ◌++◌, Bool, true, false, not, nat_le, nat_lt, if◌then◌else◌, length, map, Option, Some, None}
use Rattle.std.proofs.Common.{refl, sym, ap, ◌∙◌, subst, arith, append_assoc}
use Rattle.std.specs.List.{list_all}
use Rattle.std.specs.Str.{bytes_eq, is_utf8}
use Rattle.std.proofs.lemmas.Bool.{and_parts, not-true}
use Rattle.std.proofs.lemmas.Bool.Decides.{nat_tests}
use Rattle.std.proofs.lemmas.Grind.{flat_map-append}
use Rattle.std.proofs.lemmas.List.{append-nil, map-append}
use Rattle.std.proofs.lemmas.Slice.Eq.{bytes_eq-Decides}
use Rattle.name_grammar.specs.Names.{is_ncname}
use Rattle.doc_model.specs.declared.limits.Limits.{Limits}
use Rattle.doc_model.specs.declared.flaw.FlawKind.{FlawKind}
use Rattle.doc_model.specs.declared.flaw.FlawKind.TheVariants as kind
use Rattle.doc_model.specs.declared.row.Row.{Row}
use Rattle.doc_model.specs.Strip.{is_white}
use Rattle.result_events.specs.declared.event.Name.{Name}
use Rattle.result_events.specs.declared.event.Attribute.{Attribute}
use Rattle.result_events.specs.declared.event.ResultEvent.{ResultEvent}
use Rattle.result_events.specs.declared.event.ResultEvent.TheVariants.{Start, Attr, Text, Instruction, Comment, End}
use Rattle.result_events.specs.Tidy.{are_distinct}
use Rattle.pyx_lines.specs.declared.line.Line.{Line}
use Rattle.pyx_lines.specs.declared.line.Line.TheVariants as line
use Rattle.pyx_events.specs.declared.event.Event.{Event}
use Rattle.pyx_events.specs.declared.event.Event.TheVariants.{Shut}
use Rattle.pyx_events.specs.declared.pending_start.Attribute.{Attribute as Given}
use Rattle.pyx_events.specs.declared.pending_start.PendingStart.{PendingStart}
use Rattle.pyx_events.specs.Before.{depth, has_root, innermost, bindings, uris_to, pending_start, pending_text, is_declaration, begins_text, row_count, value_bytes}
use Rattle.pyx_events.specs.Counted.{Names, names_of}
use Rattle.pyx_events.specs.Flaw.{start_flaw, names_flaw, completed_flaw, own_flaw, own_end_flaw, start_line, at_line, in_order}
use Rattle.xml_names.specs.declared.scopes.Binding.{Binding}
use Rattle.pyx_events.specs.Nodes.{start_node, text_node, completed, ended_text, line_events, events_to, node_rows, event_rows, element_row, attribute_rows, instruction_row, comment_row}
use Rattle.pyx_events.specs.Nodes.{plain_node}
use Rattle.pyx_output.specs.Bytes.{Element, in_force, leading, lines_from}
use Rattle.pyx_output.specs.Declaring.{element_name}
use Rattle.read_back.specs.Contents.{Content, content_of, element_content, attribute_content, text_content, instruction_content, comment_content}
use Rattle.read_back.specs.Flaws.{kind_may_come, flaw_may_come}
use Rattle.read_back.specs.Legible.{is_legible, is_legible_name, is_part, balances}
use Rattle.pyx_lines.specs.ReadingBack.{AllWritable}
use Rattle.read_back.proofs.ElementLines.{own_of, given, IsElement, is_element, all_writable-append}
use Rattle.read_back.proofs.Heads.{line_of}
use Rattle.read_back.proofs.Shape.{text_next, is_tidy, contents_ahead, legible_leading}
use Rattle.read_back.proofs.Stacks.{onto, Stands, AllOpen, xml_in_force, depth_is, stands_empty, opened, start_pending, text-onto, stands_start, stands_text, stands_instruction}
use Rattle.read_back.proofs.Stacks.{stands_comment, stands_end}
use Rattle.read_back.proofs.Stops.{GoesWell, events_after}

-- an element that these events begin with
element_is : (elements : List Element) (name : Name) (events : List ResultEvent) → AllOpen elements → is_legible_name name ≡ true → list_all is_legible events ≡ true
    → are_distinct (leading events) ≡ true → IsElement (in_force elements) name (leading events)
element_is elements name events well legible all distinct = is_element (in_force elements) name (leading events) (xml_in_force elements well) legible (legible_leading events all) distinct

opens : (elements : List Element) (name : Name) (attributes : List Attribute) → AllOpen elements → IsElement (in_force elements) name attributes
    → AllOpen (opened (in_force elements) name attributes ∷ elements)
opens elements name attributes all is = (record { name = is.is_name; text = is.is_text; xml = is.xml }, all)

-- what events are, so far as the walk needs it
record Walks (elements : List Element) (events : List ResultEvent) : Type 0 where
  legible : list_all is_legible events ≡ true
  tidied : is_tidy events ≡ true
  balanced : balances (length elements) events ≡ true

record StartWalks (elements : List Element) (name : Name) (events : List ResultEvent) : Type 0 where
  is : IsElement (in_force elements) name (leading events)
  later : Walks (opened (in_force elements) name (leading events) ∷ elements) events

start_walks : (elements : List Element) (name : Name) (events : List ResultEvent) → AllOpen elements → Walks elements (Start name ∷ events) → StartWalks elements name events
start_walks elements name events all walks =
    let one = and_parts (is_legible_name name) (list_all is_legible events) walks.legible in
    let two = and_parts (are_distinct (leading events)) (is_tidy events) walks.tidied in
    record { is = element_is elements name events all one.0 one.1 two.0; later = record { legible = one.1; tidied = two.1; balanced = walks.balanced } }

attr_walks : (elements : List Element) (name : Name) (value : List ℕ) (events : List ResultEvent) → Walks elements (Attr name value ∷ events) → Walks elements events
attr_walks elements name value events walks =
    record { legible = (and_parts (is_legible (Attr name value)) (list_all is_legible events) walks.legible).1; tidied = walks.tidied; balanced = balanced_by elements walks.balanced }
  where
    balanced_by : (elements : List Element) → balances (length elements) (Attr name value ∷ events) ≡ true → balances (length elements) events ≡ true
    balanced_by elements is = is

text_walks : (elements : List Element) (text : List ℕ) (events : List ResultEvent) → Walks elements (Text text ∷ events) → Walks elements events
text_walks elements text events walks = record {
  legible = (and_parts (is_legible (Text text)) (list_all is_legible events) walks.legible).1;
  tidied = (and_parts (not (text_next events)) (is_tidy events) walks.tidied).1;
  balanced = walks.balanced;
}

instruction_walks : (elements : List Element) (target value : List ℕ) (events : List ResultEvent) → Walks elements (Instruction target value ∷ events) → Walks elements events
instruction_walks elements target value events walks =
    record { legible = (and_parts (is_legible (Instruction target value)) (list_all is_legible events) walks.legible).1; tidied = walks.tidied; balanced = walks.balanced }

comment_walks : (elements : List Element) (text : List ℕ) (events : List ResultEvent) → Walks elements (Comment text ∷ events) → Walks elements events
comment_walks elements text events walks = record { legible = (and_parts (is_legible (Comment text)) (list_all is_legible events) walks.legible).1; tidied = walks.tidied; balanced = walks.balanced }

end_walks : (element : Element) (outer : List Element) (events : List ResultEvent) → Walks (element ∷ outer) (End ∷ events) → Walks outer events
end_walks element outer events walks = record { legible = walks.legible; tidied = walks.tidied; balanced = walks.balanced }

-- every line can be written
writable_from : (elements : List Element) (events : List ResultEvent) → AllOpen elements → Walks elements events → AllWritable (lines_from elements events)
writable_from elements [] all walks = tt
writable_from elements (Start name ∷ events) all walks =
    let start = start_walks elements name events all walks in
    let is = start.is in
    let rest = writable_from (opened (in_force elements) name (leading events) ∷ elements) events (opens elements name (leading events) all is) start.later in
    subst (λ (lines : List Line). AllWritable (lines ++ lines_from (opened (in_force elements) name (leading events) ∷ elements) events)) (sym is.lines) (
      (is.is_name, is.is_text),
      all_writable-append (map line_of (given (in_force elements) name (leading events)))
          (lines_from (opened (in_force elements) name (leading events) ∷ elements) events) is.writable rest,
    )
writable_from elements (Attr name value ∷ events) all walks = writable_from elements events all (attr_walks elements name value events walks)
writable_from elements (Text text ∷ events) all walks =
    ((and_parts (is_utf8 text) _ (and_parts (is_legible (Text text)) (list_all is_legible events) walks.legible).0).0, writable_from elements events all (text_walks elements text events walks))
writable_from elements (Instruction target value ∷ events) all walks =
    let one = and_parts (is_part target) (is_utf8 value) (and_parts (is_legible (Instruction target value)) (list_all is_legible events) walks.legible).0 in
    let two = and_parts (is_ncname target) (is_utf8 target) one.0 in
    ((two.0, two.1, one.1), writable_from elements events all (instruction_walks elements target value events walks))
writable_from elements (Comment text ∷ events) all walks =
    ((and_parts (is_legible (Comment text)) (list_all is_legible events) walks.legible).0, writable_from elements events all (comment_walks elements text events walks))
writable_from [] (End ∷ events) all walks = let balanced = walks.balanced in absurd (cc)
writable_from (element ∷ outer) (End ∷ events) all walks = ((all.0.name, all.0.text), writable_from outer events all.1 (end_walks element outer events walks))

pub writable : (events : List ResultEvent) → list_all is_legible events ≡ true → is_tidy events ≡ true → balances 0 events ≡ true → AllWritable (lines_from [] events)
writable events legible tidied balanced = writable_from [] events tt (record { legible = legible; tidied = tidied; balanced = balanced })

-- a flaw that comes first, or else a later one
in_order_may : (limits : Limits) (before : List Line) (start : Option PendingStart) (own : Option FlawKind) → kind_may_come (completed_flaw limits false before start) ≡ true → kind_may_come own ≡ true
    → flaw_may_come (in_order limits false before start own) ≡ true
in_order_may limits before start own one two = by (completed_flaw limits false before start) own one two
  where
    last : (own : Option FlawKind) → kind_may_come own ≡ true → flaw_may_come (at_line (length before + 1) own None) ≡ true
    last None two = refl
    last (Some found) two = two

    by : (first own : Option FlawKind) → kind_may_come first ≡ true → kind_may_come own ≡ true → flaw_may_come (at_line (start_line start) first (at_line (length before + 1) own None)) ≡ true
    by None own one two = last own two
    by (Some found) own one two = one

names_may : (limits : Limits) (names : Names) (bytes : ℕ) → kind_may_come (names_flaw limits names bytes) ≡ true
names_may limits names bytes = by (nat_lt limits.names names.count) (nat_lt limits.text (bytes + names.bytes))
  where
    by : (many long : Bool) → kind_may_come (if many then Some (kind.TooManyNames) else if long then Some (kind.TooMuchText) else None) ≡ true
    by true long = refl
    by false true = refl
    by false false = refl

completed_may : (limits : Limits) (before : List Line) (start : Option PendingStart) → start_flaw (bindings 0 before) (depth before) start ≡ None
    → kind_may_come (completed_flaw limits false before start) ≡ true
completed_may limits before None sound = refl
completed_may limits before (Some start) sound = rw sound (names_may limits (names_of false (events_to before ++ completed before (Some start))) (value_bytes before))

-- a flaw that may come where its test holds, or else a later one
if_may : (is : Bool) (found : FlawKind) (later : Option FlawKind) → kind_may_come (Some found) ≡ true → kind_may_come later ≡ true → kind_may_come (if is then Some found else later) ≡ true
if_may true found later one two = one
if_may false found later one two = two

start_may : (limits : Limits) (names : Names) (before : List Line) (name : List ℕ) → kind_may_come (own_flaw limits names before (line.Start name)) ≡ true
start_may limits names before name =
    if_may (depth before == 0 && has_root before) kind.SecondRoot _ refl
    (if_may (nat_le 1000 (depth before)) kind.TooDeep _ refl (if_may (row_count before == limits.rows) kind.TooManyNodes None refl refl))

text_may : (limits : Limits) (names : Names) (before : List Line) (text : List ℕ) → kind_may_come (own_flaw limits names before (line.Text text)) ≡ true
text_may limits names before text =
    if_may (depth before == 0 && not (list_all is_white text)) kind.TextOutside _ refl (if_may (begins_text before text && row_count before == limits.rows) kind.TooManyNodes _ refl
    (if_may (nat_lt limits.text (value_bytes before + names.bytes + length text)) kind.TooMuchText None refl refl))

instruction_may : (limits : Limits) (names : Names) (before : List Line) (target value : List ℕ) → kind_may_come (own_flaw limits names before (line.Instruction target value)) ≡ true
instruction_may limits names before target value =
    if_may (row_count before == limits.rows) kind.TooManyNodes _ refl (if_may (nat_lt limits.names names.count) kind.TooManyNames _ refl
    (if_may (nat_lt limits.text (value_bytes before + names.bytes + length value)) kind.TooMuchText None refl refl))

comment_may : (limits : Limits) (names : Names) (before : List Line) (text : List ℕ) → kind_may_come (own_flaw limits names before (line.Comment text)) ≡ true
comment_may limits names before text =
    if_may (row_count before == limits.rows) kind.TooManyNodes _ refl (if_may (nat_lt limits.text (value_bytes before + names.bytes + length text)) kind.TooMuchText None refl refl)

attribute_may : (limits : Limits) (names : Names) (before : List Line) (start : PendingStart) (name value : List ℕ) → pending_start before ≡ Some start
    → kind_may_come (own_flaw limits names before (line.Attr name value)) ≡ true
attribute_may limits names before start name value is =
    rw is (if_may (length start.attributes == 256) kind.TooManyAttrs _ refl (declared_may (is_declaration name)))
  where
    declared_may : (made : Bool) → kind_may_come
        (if made then None else if row_count before == limits.rows then Some kind.TooManyNodes else if nat_lt limits.text (value_bytes before + names.bytes + length value) then Some kind.TooMuchText
        else None) ≡ true
    declared_may true = refl
    declared_may false = if_may (row_count before == limits.rows) kind.TooManyNodes _ refl
        (if_may (nat_lt limits.text (value_bytes before + names.bytes + length value)) kind.TooMuchText None refl refl)

end_may : (limits : Limits) (names : Names) (before : List Line) (name : List ℕ) → innermost 0 before ≡ Some name → kind_may_come (own_flaw limits names before (line.End name)) ≡ true
end_may limits names before name is = let same : bytes_eq name name ≡ true = (bytes_eq-Decides name name).1 refl in rw (is, same) refl

-- a line that completes what is pending
completing_may : (limits : Limits) (before : List Line) (elements : List Element) (own : Option FlawKind) → Stands before elements → kind_may_come own ≡ true
    → flaw_may_come (in_order limits false before (pending_start before) own) ≡ true
completing_may limits before elements own stands may = in_order_may limits before (pending_start before) own (completed_may limits before (pending_start before) stands.sound) may

-- attribute lines after a start
attributes_go : (limits : Limits) (before : List Line) (start : PendingStart) (lines : List Given) (later : List Line) → pending_start before ≡ Some start → GoesWell limits (onto before lines) later
    → GoesWell limits before (map line_of lines ++ later)
attributes_go limits before start [] later is well = well
attributes_go limits before start (it ∷ lines) later is well =
    let next : pending_start (line_of it ∷ before) ≡ Some (record start { attributes = start.attributes ++ it ∷ [] }) = rw is refl in (
      in_order_may limits before None (own_flaw limits (names_of false (events_to (line_of it ∷ before))) before (line_of it)) refl
          (attribute_may limits (names_of false (events_to (line_of it ∷ before))) before start it.name it.value is),
      attributes_go limits (line_of it ∷ before) (record start { attributes = start.attributes ++ it ∷ [] }) lines later next well,
    )

none_open : (elements : List Element) → balances (length elements) [] ≡ true → elements ≡ []
none_open [] is = refl
none_open (element ∷ outer) is = absurd (cc)

end_of_input : (before : List Line) (elements : List Element) → Stands before elements → elements ≡ [] → kind_may_come (own_end_flaw before) ≡ true
end_of_input before elements stands none =
    let flat : depth before ≡ 0 = depth_is before elements stands ∙ ap length none in
    rw flat (if_may (not (has_root before)) kind.NoRoot None refl refl)

-- no flaw comes that may not
goes_well : (limits : Limits) (before : List Line) (elements : List Element) (events : List ResultEvent) → Stands before elements → AllOpen elements → Walks elements events
    → GoesWell limits before (lines_from elements events)
goes_well limits before elements [] stands all walks = completing_may limits before elements (own_end_flaw before) stands (end_of_input before elements stands (none_open elements walks.balanced))
goes_well limits before elements (Start name ∷ events) stands all walks =
    let start = start_walks elements name events all walks in
    let is = start.is in
    let outer = in_force elements in
    let attributes = leading events in
    let begun = line.Start (element_name outer name) ∷ before in
    let rest = goes_well limits (onto begun (given outer name attributes)) (opened outer name attributes ∷ elements) events (stands_start before elements name attributes stands is)
    (opens elements name attributes all is) start.later in
    let first = completing_may limits before elements (own_flaw limits (names_of false (events_to begun)) before (line.Start (element_name outer name))) stands
    (start_may limits (names_of false (events_to begun)) before (element_name outer name)) in
    subst (λ (lines : List Line). GoesWell limits before (lines ++ lines_from (opened outer name attributes ∷ elements) events)) (sym is.lines) (
      first,
      attributes_go limits begun (record { name = element_name outer name; line = length before + 1; attributes = [] }) (given outer name attributes)
          (lines_from (opened outer name attributes ∷ elements) events) refl rest,
    )
goes_well limits before elements (Attr name value ∷ events) stands all walks = goes_well limits before elements events stands all (attr_walks elements name value events walks)
goes_well limits before elements (Text text ∷ events) stands all walks = (
  completing_may limits before elements (own_flaw limits (names_of false (events_to (line.Text text ∷ before))) before (line.Text text)) stands
      (text_may limits (names_of false (events_to (line.Text text ∷ before))) before text),
  goes_well limits (line.Text text ∷ before) elements events (stands_text before elements text stands) all (text_walks elements text events walks),
)
goes_well limits before elements (Instruction target value ∷ events) stands all walks = (
  completing_may limits before elements (own_flaw limits (names_of false (events_to (line.Instruction target value ∷ before))) before (line.Instruction target value)) stands
      (instruction_may limits (names_of false (events_to (line.Instruction target value ∷ before))) before target value),
  goes_well limits (line.Instruction target value ∷ before) elements events (stands_instruction before elements target value stands) all (instruction_walks elements target value events walks),
)
goes_well limits before elements (Comment text ∷ events) stands all walks = (
  completing_may limits before elements (own_flaw limits (names_of false (events_to (line.Comment text ∷ before))) before (line.Comment text)) stands
      (comment_may limits (names_of false (events_to (line.Comment text ∷ before))) before text),
  goes_well limits (line.Comment text ∷ before) elements events (stands_comment before elements text stands) all (comment_walks elements text events walks),
)
goes_well limits before [] (End ∷ events) stands all walks = let balanced = walks.balanced in absurd (cc)
goes_well limits before (element ∷ outer) (End ∷ events) stands all walks = (
  completing_may limits before (element ∷ outer) (own_flaw limits (names_of false (events_to (line.End element.name ∷ before))) before (line.End element.name)) stands
      (end_may limits (names_of false (events_to (line.End element.name ∷ before))) before element.name (stands.names 0)),
  goes_well limits (line.End element.name ∷ before) outer events (stands_end before element outer stands) all.1 (end_walks element outer events walks),
)

pub well : (limits : Limits) (events : List ResultEvent) → list_all is_legible events ≡ true → is_tidy events ≡ true → balances 0 events ≡ true → GoesWell limits [] (lines_from [] events)
well limits events legible tidied balanced = goes_well limits [] [] events stands_empty tt (record { legible = legible; tidied = tidied; balanced = balanced })

-- what is pending after some lines: the nodes that the next start, end, instruction or comment line gives before its own
abbrev pub held : List Line → List Content
held before = map content_of (node_rows (completed before (pending_start before) ++ ended_text before))

abbrev contents_of : List Event → List Content
contents_of events = map content_of (node_rows events)

contents_of-append : (events more : List Event) → contents_of (events ++ more) ≡ contents_of events ++ contents_of more
contents_of-append events more = ap (λ (rows : List Row). map content_of rows) (flat_map-append event_rows events more) ∙ map-append content_of (node_rows events) (node_rows more)

-- attribute lines give nothing by themselves
events_after-onto : (before : List Line) (lines : List Given) (later : List Line) → events_after before (map line_of lines ++ later) ≡ events_after (onto before lines) later
events_after-onto before [] later = refl
events_after-onto before (it ∷ lines) later = events_after-onto (line_of it ∷ before) lines later

abbrev held_by : List Line → List (List ℕ) → List Binding → Option PendingStart → List ℕ → List Content
held_by before uris bound start text = map content_of (node_rows (start_node uris bound (depth before) start ++ text_node (depth before + 1) text (length before + 1)))

held_of : (before : List Line) (bound : List Binding) (start : PendingStart) → pending_start before ≡ Some start → pending_text before ≡ [] → bindings 0 before ≡ bound
    → held before ≡ map content_of (element_row bound (depth before) start.name ∷ attribute_rows bound (depth before + 1) start.attributes)
held_of before bound start pending none same =
    ap (λ (found : Option PendingStart). held_by before (uris_to before) (bindings 0 before) found (pending_text before)) pending
    ∙ (ap (λ (text : List ℕ). held_by before (uris_to before) (bindings 0 before) (Some start) text) none
    ∙ (ap (λ (inner : List Binding). held_by before (uris_to before) inner (Some start) []) same
    ∙ ap (λ (rows : List Row). map content_of rows) (append-nil (element_row bound (depth before) start.name ∷ attribute_rows bound (depth before + 1) start.attributes))))

-- after a start line with its attribute lines the element's node is pending
held_start : (before : List Line) (elements : List Element) (name : Name) (attributes : List Attribute) → Stands before elements → IsElement (in_force elements) name attributes
    → held (onto (line.Start (element_name (in_force elements) name) ∷ before) (given (in_force elements) name attributes)) ≡ element_content name ∷ map attribute_content attributes
held_start before elements name attributes stands is =
    let outer = in_force elements in
    let begun = line.Start (element_name outer name) ∷ before in
    let lines = given outer name attributes in
    let inside = depth (onto begun lines) in
    held_of (onto begun lines) (own_of outer name attributes ++ outer) (record { name = element_name outer name; line = length before + 1; attributes = lines })
    (start_pending before outer name attributes) (text-onto begun lines) ((stands_start before elements name attributes stands is).bound 0)
    ∙ is.contents inside (inside + 1)

some_text : (text : List ℕ) → is_legible (Text text) ≡ true → length text == 0 ≡ false
some_text text legible = not-true (length text == 0) (and_parts (is_utf8 text) (not (length text == 0)) legible).1

-- a text that follows none is pending, inside an element
held_text_by : (before : List Line) (depth_is : ℕ) (text : List ℕ) → depth before ≡ depth_is → length text == 0 ≡ false → pending_text before ≡ []
    → held (line.Text text ∷ before) ≡ (if depth_is == 0 then [] else text_content text ∷ [])
held_text_by before zero text flat some none = rw (flat, none) refl
held_text_by before (suc depth) text deep some none = let inside : suc depth == 0 ≡ false = grind (arith, nat_tests) in rw (deep, inside, none, some) refl

-- without a pending text a start alone is held
held_alone : (before : List Line) → pending_text before ≡ [] → contents_of (completed before (pending_start before)) ≡ held before
held_alone before none =
    ap contents_of (sym (append-nil (completed before (pending_start before))))
    ∙ ap (λ (text : List ℕ). held_by before (uris_to before) (bindings 0 before) (pending_start before) text) (sym none)

-- after a text
abbrev text_then : ℕ → List ℕ → List Content → List Content
text_then depth text later = if depth == 0 then later else text_content text ∷ later

text_first : (deep : Bool) (text : List ℕ) (later : List Content) → (if deep then [] else text_content text ∷ []) ++ later ≡ (if deep then later else text_content text ∷ later)
text_first true text later = refl
text_first false text later = refl

idle_held : (before : List Line) → pending_start before ≡ None → pending_text before ≡ [] → held before ≡ []
idle_held before start none =
    ap (λ (found : Option PendingStart). held_by before (uris_to before) (bindings 0 before) found (pending_text before)) start
    ∙ ap (λ (text : List ℕ). held_by before (uris_to before) (bindings 0 before) None text) none

end_depth : (depth : ℕ) → suc depth - 1 ≡ depth
end_depth depth = omega arith

-- no text is pending where a text comes next
abbrev pub IsApart : List Line → List ResultEvent → Type 0
IsApart before events = text_next events ≡ true → pending_text before ≡ []

no_text_next : (events : List ResultEvent) (before : List Line) → text_next events ≡ false → IsApart before events
no_text_next events before none = λ next. absurd (cc)

-- what a start, end, instruction or comment line gives with what is after it
given_own : (before : List Line) (own later : List Event) → contents_of ((completed before (pending_start before) ++ (ended_text before ++ own)) ++ later) ≡ held before ++
    (contents_of own ++ contents_of later)
given_own before own later =
    contents_of-append (completed before (pending_start before) ++ (ended_text before ++ own)) later
    ∙ (ap (λ (events : List Event). contents_of events ++ contents_of later) (sym (append_assoc (completed before (pending_start before)) (ended_text before) own))
    ∙ (ap (λ (first : List Content). first ++ contents_of later) (contents_of-append (completed before (pending_start before) ++ ended_text before) own)
    ∙ append_assoc (held before) (contents_of own) (contents_of later)))

-- the lines give what was held and the nodes of the events
gives : (before : List Line) (elements : List Element) (events : List ResultEvent) → Stands before elements → AllOpen elements → Walks elements events → IsApart before events
    → contents_of (events_after before (lines_from elements events)) ≡ held before ++ contents_ahead (length elements) events
gives before elements [] stands all walks apart =
    let none = none_open elements walks.balanced in
    let idle = stands.idle none in
    sym (append-nil (held before) ∙ idle_held before idle.0 idle.1)
gives before elements (Start name ∷ events) stands all walks apart =
    let start = start_walks elements name events all walks in
    let is = start.is in
    let outer = in_force elements in
    let attributes = leading events in
    let begun = line.Start (element_name outer name) ∷ before in
    let lines = given outer name attributes in
    let inner = opened outer name attributes ∷ elements in
    let later = lines_from inner events in
    let after = onto begun lines in
    let rest = gives after inner events (stands_start before elements name attributes stands is) (opens elements name attributes all is) start.later (λ next. text-onto begun lines) in
    ap (λ (all : List Line). contents_of (events_after before (all ++ later))) is.lines
    ∙ (contents_of-append (line_events before (line.Start (element_name outer name))) (events_after begun (map line_of lines ++ later))
    ∙ ap (λ (more : List Content). held before ++ more)
    (ap contents_of (events_after-onto begun lines later) ∙
    (rest ∙ ap (λ (first : List Content). first ++ contents_ahead (suc (length elements)) events) (held_start before elements name attributes stands is))))
gives before elements (Attr name value ∷ events) stands all walks apart = gives before elements events stands all (attr_walks elements name value events walks) apart
gives before elements (Text text ∷ events) stands all walks apart =
    let parts = and_parts (not (text_next events)) (is_tidy events) walks.tidied in
    let some = some_text text (and_parts (is_legible (Text text)) (list_all is_legible events) walks.legible).0 in
    let after = line.Text text ∷ before in
    let rest = gives after elements events (stands_text before elements text stands) all (text_walks elements text events walks) (no_text_next events after (not-true (text_next events) parts.0)) in
    let none = apart refl in
    let pending = held_text_by before (length elements) text (depth_is before elements stands) some none in
    contents_of-append (line_events before (line.Text text)) (events_after after (lines_from elements events))
    ∙ (ap (λ (first : List Content). first ++ contents_of (events_after after (lines_from elements events)))
    (ap contents_of (append-nil (completed before (pending_start before))) ∙ held_alone before none)
    ∙ ap (λ (more : List Content). held before ++ more)
    (rest ∙ (ap (λ (first : List Content). first ++ contents_ahead (length elements) events) pending ∙ text_first (length elements == 0) text (contents_ahead (length elements) events))))
gives before elements (Instruction target value ∷ events) stands all walks apart =
    let after = line.Instruction target value ∷ before in
    let rest = gives after elements events (stands_instruction before elements target value stands) all (instruction_walks elements target value events walks) (λ next. refl) in
    let own = plain_node (instruction_row (depth before + 1) target value) (length before + 1) ∷ [] in
    given_own before own (events_after after (lines_from elements events)) ∙ ap (λ (more : List Content). held before ++ (instruction_content target value ∷ more)) rest
gives before elements (Comment text ∷ events) stands all walks apart =
    let after = line.Comment text ∷ before in
    let rest = gives after elements events (stands_comment before elements text stands) all (comment_walks elements text events walks) (λ next. refl) in
    let own = plain_node (comment_row (depth before + 1) text) (length before + 1) ∷ [] in
    given_own before own (events_after after (lines_from elements events)) ∙ ap (λ (more : List Content). held before ++ (comment_content text ∷ more)) rest
gives before [] (End ∷ events) stands all walks apart = let balanced = walks.balanced in absurd (cc)
gives before (element ∷ outer) (End ∷ events) stands all walks apart =
    let after = line.End element.name ∷ before in
    let rest = gives after outer events (stands_end before element outer stands) all.1 (end_walks element outer events walks) (λ next. refl) in
    given_own before (Shut ∷ []) (events_after after (lines_from outer events))
    ∙ ap (λ (more : List Content). held before ++ more) (rest ∙ ap (λ (open_ : ℕ). contents_ahead open_ events) (sym (end_depth (length outer))))

-- a list of legible events gives its nodes
pub gives_nodes : (events : List ResultEvent) → list_all is_legible events ≡ true → is_tidy events ≡ true → balances 0 events ≡ true
    → map content_of (node_rows (events_after [] (lines_from [] events))) ≡ contents_ahead 0 events
gives_nodes events legible tidied balanced = gives [] [] events stands_empty tt (record { legible = legible; tidied = tidied; balanced = balanced }) (λ next. refl)
