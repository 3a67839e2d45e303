-- The names of lines are those of the table that is built of them. The lines before are given with the latest first.
use Rattle.std.proofs.Common.{◌≡◌, ℕ, ◌+◌, ◌<◌, Bool, true, false, cond, not, List, [], ◌∷◌, ◌++◌, length, Option, Some, None, refl, ap, ap₂, sym}
use Rattle.std.proofs.Common.{◌∙◌, subst, arith, inl, inr, append_assoc, append-nil}
use Rattle.std.proofs.lemmas.Bool.{cases_Bool, false≢true}
use Rattle.std.proofs.lemmas.Bool.Decides.{nat_tests}
use Rattle.doc_model.specs.declared.row.Row.{Row}
use Rattle.doc_model.specs.Rows.{root_row, rows_of}
use Rattle.name_pool.specs.Names.{Name}
use Rattle.xml_names.specs.declared.scopes.Binding.{Binding}
use Rattle.pyx_lines.specs.declared.line.Line.{Line}
use Rattle.pyx_lines.specs.declared.line.Line.TheVariants.{Start, End, Attr, Text, Instruction, Comment, Passed}
use Rattle.pyx_events.specs.declared.event.Event.{Event}
use Rattle.pyx_events.specs.declared.event.Event.TheVariants as event
use Rattle.pyx_events.specs.declared.pending_start.Attribute.{Attribute}
use Rattle.pyx_events.specs.declared.pending_start.PendingStart.{PendingStart}
use Rattle.pyx_events.specs.Before.{depth, completed_start, pending_text, is_declaration, bindings, uris_to}
use Rattle.pyx_events.specs.Counted.{Names, names_of}
use Rattle.pyx_events.specs.Nodes.{attribute_rows, start_node, completed, plain_node, instruction_row, comment_row, ended_text, own_events, line_events, events_to, node_rows}
use Rattle.pyx_events.specs.Steps.{steps_of_events}
use Rattle.node_writer.specs.declared.new_names.NewNames.{NewNames}
use Rattle.node_writer.specs.New.{capped, names_bytes, has_new_name, has_type_of, AddsNames}
use Rattle.node_writer.specs.Taken.{names_from, prefixes_from, name_bytes, prefix_bytes, name_count, name_of_row, is_name_of}
use Rattle.node_writer.proofs.Adding.{name_sum, prefix_sum, name_length, prefix_length, name_apart}
use Rattle.node_writer.proofs.Taken.{names_from-append, prefixes_from-append}
use Rattle.dtm_builder.specs.Judging.{table_names, Adds, own_rows}
use Rattle.dtm_builder.proofs.Agreeing.{HaveNoRoot, same_count, same_bytes}
use Rattle.dtm_builder.proofs.Naming.{no_root, no_root_both, start_no_root, AddsNone, text_adds_none, both_add_none}
use Rattle.dtm_builder.proofs.Rooming.{rows_join, rows_are}

names_are : (events : List Event) → HaveNoRoot (node_rows events) → names_of false events ≡ table_names (rows_of (steps_of_events events))
names_are events h =
    let named : ℕ → ℕ → Names = λ a b. record { count = a; bytes = b } in
    ap₂ named (sym (same_count (node_rows events) h)) (sym (same_bytes (node_rows events) h))
    ∙ ap (λ (rows : List Row). table_names (root_row ∷ rows)) (sym (rows_are events))

rows_after : (xs ys : List Event) → rows_of (steps_of_events (xs ++ ys)) ≡ rows_of (steps_of_events xs) ++ node_rows ys
rows_after xs ys = ap (λ (rows : List Row). root_row ∷ rows) (rows_are (xs ++ ys) ∙ rows_join xs ys ∙ ap (λ (rows : List Row). rows ++ node_rows ys) (sym (rows_are xs)))

-- the names after some lines, and after the start that the next line completes
pub names_before : (before : List Line) → names_of false (events_to before) ≡ table_names (rows_of (steps_of_events (events_to before)))
names_before before = names_are (events_to before) (no_root before)

pub names_started : (before : List Line) (start : Option PendingStart)
    → names_of false (events_to before ++ completed before start) ≡ table_names (rows_of (steps_of_events (events_to before)) ++ node_rows (completed before start))
names_started before start =
    names_are (events_to before ++ completed before start)
    (no_root_both (events_to before) (completed before start) (no_root before) (start_no_root (uris_to before) (bindings 0 before) (depth before) start))
    ∙ ap table_names (rows_after (events_to before) (completed before start))

names_all : (before : List Line) (line : Line)
    → names_of false (events_to (line ∷ before))
    ≡ table_names ((rows_of (steps_of_events (events_to before)) ++ node_rows (completed before (completed_start before line))) ++ node_rows (own_events before line))
names_all before line =
    let rows = rows_of (steps_of_events (events_to before)) in
    let first = completed before (completed_start before line) in
    names_before (line ∷ before)
    ∙ ap table_names (rows_after (events_to before) (line_events before line) ∙ ap (λ (more : List Row). rows ++ more) (rows_join first (own_events before line))
    ∙ sym (append_assoc rows (node_rows first) (node_rows (own_events before line))))

-- rows without a name add none
none_more : (rows : List Row) (events : List Event) → AddsNone events → table_names (rows ++ node_rows events) ≡ table_names rows
none_more rows events a =
    let named : List Name → List (List ℕ) → Names = λ n p. record { count = length n + length p; bytes = name_bytes n + prefix_bytes p } in
    ap₂ named (names_from-append [] rows (node_rows events) ∙ a.0 (names_from [] rows)) (prefixes_from-append [] rows (node_rows events) ∙ a.1 (prefixes_from [] rows))

-- an element and its attributes have not the type of an instruction
attributes_differ : (bound : List Binding) (deep n : ℕ) (target value : List ℕ) (lines : List Attribute) → has_type_of (instruction_row n target value) (attribute_rows bound deep lines) ≡ false
attributes_differ bound deep n target value [] = refl
attributes_differ bound deep n target value (it ∷ lines) = elim (cases_Bool (is_declaration it.name)) [
  | inl e ↦ rw e (attributes_differ bound deep n target value lines)
  | inr e ↦ rw e (attributes_differ bound deep n target value lines)
]

start_differs : (uris : List (List ℕ)) (bound : List Binding) (deep n : ℕ) (target value : List ℕ) (start : Option PendingStart)
    → has_type_of (instruction_row n target value) (node_rows (start_node uris bound deep start)) ≡ false
start_differs uris bound deep n target value None = refl
start_differs uris bound deep n target value (Some it) =
    ap (has_type_of (instruction_row n target value)) (append-nil (attribute_rows bound (deep + 1) it.attributes)) ∙ attributes_differ bound (deep + 1) n target value it.attributes

-- an instruction's target is as new after the element as before it
still_new : (rows more : List Row) (row : Row) → has_type_of row more ≡ false → has_new_name rows row ≡ has_new_name (rows ++ more) row
still_new rows more row h = name_apart rows more row (has_new_name rows row) refl h

no_new : (rows : List Row) (all : Names) (own : NewNames) → AddsNames rows [] own → Adds all own all
no_new rows all own a =
    let same = ap name_count (append-nil rows) in
    let same_size = ap names_bytes (append-nil rows) in
    record {
      count_added = a.count_added;
      bytes_added = a.bytes_added;
      all_counted = omega (arith, a.all_counted, same);
      all_bytes = omega (arith, a.all_bytes, same_size);
      count = a.count;
      bytes = a.bytes;
    }

-- an instruction adds after other rows what it adds to these, where its target is as new
instruction_adds : (rows all : List Row) (n : ℕ) (target value : List ℕ) (own : NewNames) → AddsNames rows (instruction_row 0 target [] ∷ []) own
    → has_new_name rows (instruction_row 0 target []) ≡ has_new_name all (instruction_row 0 target []) → Adds (table_names all) own (table_names (all ++ instruction_row n target value ∷ []))
instruction_adds rows all n target value own a same =
    let first = instruction_row 0 target [] in
    let later = instruction_row n target value in
    let size : Name → ℕ = λ name. length name.uri + length name.local in
    let long : List ℕ → ℕ = λ prefix. length prefix in
    let number : Bool → ℕ = λ b. cond b 1 0 in
    let bytes : Bool → ℕ = λ b. cond b (0 + length target) 0 in
    let as_many : number (has_new_name rows first) ≡ number (has_new_name all first) = ap number same in
    let as_long : bytes (has_new_name rows first) ≡ bytes (has_new_name all first) = ap bytes same in
    record {
      count_added = a.count_added;
      bytes_added = a.bytes_added;
      all_counted = omega (arith, a.all_counted, name_length rows first, prefix_length rows first, name_length all later, prefix_length all later, as_many);
      all_bytes = omega (arith, a.all_bytes, name_sum size rows first, prefix_sum long rows first, name_sum size all later, prefix_sum long all later, as_long);
      count = a.count;
      bytes = a.bytes;
    }

-- where the line's own events have no name, it adds none
plain_adds : (before : List Line) (line : Line) (own : NewNames) → AddsNone (own_events before line) → AddsNames (rows_of (steps_of_events (events_to before))) [] own
    → Adds (table_names (rows_of (steps_of_events (events_to before)) ++ node_rows (completed before (completed_start before line)))) own (names_of false (events_to (line ∷ before)))
plain_adds before line own none a =
    let rows = rows_of (steps_of_events (events_to before)) in
    let more = node_rows (completed before (completed_start before line)) in
    subst (λ (names : Names). Adds (table_names (rows ++ more)) own names) (sym (names_all before line ∙ none_more (rows ++ more) (own_events before line) none))
    (no_new rows (table_names (rows ++ more)) own a)

nothing : AddsNone []
nothing = ((λ seen. refl), (λ seen. refl))

-- a comment has no name
comment_adds : (before : List Line) (text : List ℕ) → AddsNone (own_events before (Comment text))
comment_adds before text =
    both_add_none (ended_text before) (plain_node (comment_row (depth before + 1) text) (length before + 1) ∷ [])
    (text_adds_none (depth before + 1) (length before + 1) (pending_text before)) ((λ seen. refl), (λ seen. refl))

-- what the line's own node adds to the names after the start that it completes
pub own_adds : (before : List Line) (line : Line) (own : NewNames) → AddsNames (rows_of (steps_of_events (events_to before))) (own_rows line) own
    → Adds (table_names (rows_of (steps_of_events (events_to before)) ++ node_rows (completed before (completed_start before line)))) own (names_of false (events_to (line ∷ before)))
own_adds before (Start name) own a = plain_adds before (Start name) own (text_adds_none (depth before + 1) (length before + 1) (pending_text before)) a
own_adds before (End name) own a =
    plain_adds before (End name) own
    (both_add_none (ended_text before) (event.Shut ∷ []) (text_adds_none (depth before + 1) (length before + 1) (pending_text before)) ((λ seen. refl), (λ seen. refl))) a
own_adds before (Attr name value) own a = plain_adds before (Attr name value) own nothing a
own_adds before (Text text) own a = plain_adds before (Text text) own nothing a
own_adds before (Instruction target value) own a =
    let rows = rows_of (steps_of_events (events_to before)) in
    let start = completed_start before (Instruction target value) in
    let all = rows ++ node_rows (completed before start) in
    let none = text_adds_none (depth before + 1) (length before + 1) (pending_text before) in
    let texts = node_rows (ended_text before) in
    let node = plain_node (instruction_row (depth before + 1) target value) (length before + 1) in
    let target_row = instruction_row 0 target [] in
    let here : names_of false (events_to (Instruction target value ∷ before)) ≡ table_names ((all ++ texts) ++ instruction_row (depth before + 1) target value ∷ []) =
    names_all before (Instruction target value) ∙ ap (λ (more : List Row). table_names (all ++ more)) (rows_join (ended_text before) (node ∷ []))
    ∙ ap table_names (sym (append_assoc all texts (instruction_row (depth before + 1) target value ∷ []))) in
    let names : names_from [] (all ++ texts) ≡ names_from [] all = names_from-append [] all texts ∙ none.0 (names_from [] all) in
    let same : has_new_name rows target_row ≡ has_new_name (all ++ texts) target_row =
    still_new rows (node_rows (completed before start)) target_row (start_differs (uris_to before) (bindings 0 before) (depth before) 0 target [] start)
    ∙ ap (λ (it : List Name). not (is_name_of (name_of_row target_row) it)) (sym names) in
    subst (λ (first : Names). Adds first own (names_of false (events_to (Instruction target value ∷ before)))) (none_more all (ended_text before) none)
    (subst (λ (last : Names). Adds (table_names (all ++ texts)) own last) (sym here) (instruction_adds rows (all ++ texts) (depth before + 1) target value own a same))
own_adds before (Comment text) own a = plain_adds before (Comment text) own (comment_adds before text) a
own_adds before Passed own a = plain_adds before Passed own nothing a

-- what a target adds
capped_small : (n : ℕ) → n < 18446744073709551616 → n ≡ capped n
capped_small n h = grind (arith, nat_tests, h)

pub target_new : (rows : List Row) (target : List ℕ) (n : ℕ) → has_new_name rows (instruction_row 0 target []) ≡ true → n ≡ length target → n < 18446744073709551616
    → AddsNames rows (instruction_row 0 target [] ∷ []) (record { count = 1; bytes = n })
target_new rows target n new long small =
    let row = instruction_row 0 target [] in
    let number : Bool → ℕ = λ b. cond b 1 0 in
    let bytes : Bool → ℕ = λ b. cond b (0 + length target) 0 in
    let one : number (has_new_name rows row) ≡ 1 = ap number new in
    let all : bytes (has_new_name rows row) ≡ 0 + length target = ap bytes new in
    record {
      count_added = 1;
      bytes_added = n;
      all_counted = omega (arith, name_length rows row, prefix_length rows row, one);
      all_bytes = omega (arith, name_sum (λ (name : Name). length name.uri + length name.local) rows row, prefix_sum (λ (prefix : List ℕ). length prefix) rows row, all, long);
      count = refl;
      bytes = capped_small n small;
    }

pub target_known : (rows : List Row) (target : List ℕ) → has_new_name rows (instruction_row 0 target []) ≡ false → AddsNames rows (instruction_row 0 target [] ∷ []) (record { count = 0; bytes = 0 })
target_known rows target new =
    let row = instruction_row 0 target [] in
    let number : Bool → ℕ = λ b. cond b 1 0 in
    let bytes : Bool → ℕ = λ b. cond b (0 + length target) 0 in
    let none : number (has_new_name rows row) ≡ 0 = ap number new in
    let nil : bytes (has_new_name rows row) ≡ 0 = ap bytes new in
    record {
      count_added = 0;
      bytes_added = 0;
      all_counted = omega (arith, name_length rows row, prefix_length rows row, none);
      all_bytes = omega (arith, name_sum (λ (name : Name). length name.uri + length name.local) rows row, prefix_sum (λ (prefix : List ℕ). length prefix) rows row, nil);
      count = refl;
      bytes = refl;
    }

abbrev pub is_instruction : Line → Bool
is_instruction (Start name) = false
is_instruction (End name) = false
is_instruction (Attr name value) = false
is_instruction (Text text) = false
is_instruction (Instruction target value) = true
is_instruction (Comment text) = false
is_instruction Passed = false

plain_same : (before : List Line) (line : Line) → AddsNone (own_events before line)
    → names_of false (events_to (line ∷ before)) ≡ names_of false (events_to before ++ completed before (completed_start before line))
plain_same before line none =
    names_all before line
    ∙ none_more (rows_of (steps_of_events (events_to before)) ++ node_rows (completed before (completed_start before line))) (own_events before line) none
    ∙ sym (names_started before (completed_start before line))

-- the names after a line that is no instruction are those after the start that it completes
pub names_kept : (before : List Line) (line : Line) → is_instruction line ≡ false
    → names_of false (events_to (line ∷ before)) ≡ names_of false (events_to before ++ completed before (completed_start before line))
names_kept before (Start name) h = plain_same before (Start name) (text_adds_none (depth before + 1) (length before + 1) (pending_text before))
names_kept before (End name) h =
    plain_same before (End name) (both_add_none (ended_text before) (event.Shut ∷ []) (text_adds_none (depth before + 1) (length before + 1) (pending_text before)) ((λ seen. refl), (λ seen. refl)))
names_kept before (Attr name value) h = plain_same before (Attr name value) nothing
names_kept before (Text text) h = plain_same before (Text text) nothing
names_kept before (Instruction target value) h = absurd (false≢true (sym h))
names_kept before (Comment text) h = plain_same before (Comment text) (comment_adds before text)
names_kept before Passed h = plain_same before Passed nothing
