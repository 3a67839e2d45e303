-- The names of flawless lines stay within the limits. The lines before are given with the latest first.
use Rattle.std.proofs.Common.{◌≡◌, ℕ, ◌+◌, ◌≤◌, ◌==◌, Bool, true, false, cond, not, ◌&&◌, List, [], ◌∷◌, ◌++◌, length, Option, Some, None, refl, ap}
use Rattle.std.proofs.Common.{ap₂, sym, ◌∙◌, subst, arith, inl, inr, append_assoc, append-nil}
use Rattle.std.specs.Prelude.{nat_lt, is_some}
use Rattle.std.specs.List.{list_all}
use Rattle.std.proofs.lemmas.Bool.{cases_Bool, false≢true}
use Rattle.std.proofs.lemmas.Bool.Decides.{nat_tests}
use Rattle.doc_model.specs.declared.flaw.FlawKind.{FlawKind}
use Rattle.doc_model.specs.declared.flaw.FlawKind.TheVariants as kind
use Rattle.doc_model.specs.declared.limits.Limits.{Limits}
use Rattle.doc_model.specs.declared.row.Row.{Row}
use Rattle.doc_model.specs.Strip.{is_white}
use Rattle.pyx_lines.specs.declared.line.Line.{Line}
use Rattle.pyx_lines.specs.declared.line.Line.TheVariants.{Start, End, Attr, Text, Instruction, Comment, Passed}
use Rattle.pyx_events.specs.declared.event.Event.{Event}
use Rattle.pyx_events.specs.declared.event.Event.TheVariants as event
use Rattle.pyx_events.specs.declared.pending_start.PendingStart.{PendingStart}
use Rattle.xml_names.specs.declared.scopes.Binding.{Binding}
use Rattle.pyx_events.specs.Before.{depth, pending_start, pending_text, is_declaration, begins_text, row_count, value_bytes}
use Rattle.pyx_events.specs.Counted.{Names, names_of}
use Rattle.pyx_events.specs.Nodes.{attribute_rows, start_node, completed, plain_node, instruction_row, comment_row, text_node, ended_text, own_events, line_events, events_to, node_rows}
use Rattle.pyx_events.specs.Flaw.{names_flaw, or_kind, is_full, completed_flaw}
use Rattle.node_writer.specs.Taken.{names_from, prefixes_from, name_bytes, prefix_bytes}
use Rattle.dtm_builder.specs.Lines.{AreFlawless}
use Rattle.dtm_builder.proofs.Agreeing.{HaveNoRoot, same_count, same_bytes}
use Rattle.dtm_builder.proofs.Balancing.{own_good, start_good}
use Rattle.node_writer.proofs.Taken.{names_from-append, prefixes_from-append}
use Rattle.dtm_builder.proofs.Rooming.{rows_join}

-- no node of lines is the root
no_root_join : (xs ys : List Row) → HaveNoRoot xs → HaveNoRoot ys → HaveNoRoot (xs ++ ys)
no_root_join [] ys h k = k
no_root_join (x ∷ xs) ys h k = (h.0, no_root_join xs ys h.1 k)

pub no_root_both : (xs ys : List Event) → HaveNoRoot (node_rows xs) → HaveNoRoot (node_rows ys) → HaveNoRoot (node_rows (xs ++ ys))
no_root_both xs ys h k = subst HaveNoRoot (sym (rows_join xs ys)) (no_root_join (node_rows xs) (node_rows ys) h k)

attributes_no_root : (bound : List Binding) (deep : ℕ) (it : PendingStart) → HaveNoRoot (attribute_rows bound deep it.attributes)
attributes_no_root bound deep it = along it.attributes
  where
    along : (lines : _) → HaveNoRoot (attribute_rows bound deep lines)
    along [] = tt
    along (one ∷ lines) = elim (cases_Bool (is_declaration one.name)) [
      | inl e ↦ rw e (along lines)
      | inr e ↦ rw e ((λ h. cc), along lines)
    ]

pub start_no_root : (uris : List (List ℕ)) (bound : List Binding) (deep : ℕ) (it : Option PendingStart) → HaveNoRoot (node_rows (start_node uris bound deep it))
start_no_root uris bound deep None = tt
start_no_root uris bound deep (Some it) = ((λ h. cc), subst HaveNoRoot (sym (append-nil (attribute_rows bound (deep + 1) it.attributes))) (attributes_no_root bound (deep + 1) it))

text_no_root : (n line : ℕ) (text : List ℕ) → HaveNoRoot (node_rows (text_node n text line))
text_no_root n line text = elim (cases_Bool (length text == 0)) [
  | inl e ↦ rw e tt
  | inr e ↦ rw e ((λ h. cc), tt)
]

pub line_no_root : (before : List Line) (line : Line) → HaveNoRoot (node_rows (line_events before line))
line_no_root before (Start name) = no_root_both (completed before (pending_start before)) (ended_text before) (start_no_root _ _ _ (pending_start before)) (text_no_root _ _ (pending_text before))
line_no_root before (End name) =
    no_root_both (completed before (pending_start before)) (ended_text before ++ event.Shut ∷ []) (start_no_root _ _ _ (pending_start before))
    (no_root_both (ended_text before) (event.Shut ∷ []) (text_no_root _ _ (pending_text before)) tt)
line_no_root before (Attr name value) = tt
line_no_root before (Text text) = no_root_both (completed before (pending_start before)) [] (start_no_root _ _ _ (pending_start before)) tt
line_no_root before (Instruction target value) =
    no_root_both (completed before (pending_start before)) (own_events before (Instruction target value)) (start_no_root _ _ _ (pending_start before))
    (no_root_both (ended_text before) (plain_node (instruction_row (depth before + 1) target value) (length before + 1) ∷ []) (text_no_root _ _ (pending_text before)) ((λ h. cc), tt))
line_no_root before (Comment text) =
    no_root_both (completed before (pending_start before)) (own_events before (Comment text)) (start_no_root _ _ _ (pending_start before))
    (no_root_both (ended_text before) (plain_node (comment_row (depth before + 1) text) (length before + 1) ∷ []) (text_no_root _ _ (pending_text before)) ((λ h. cc), tt))
line_no_root before Passed = tt

pub no_root : (before : List Line) → HaveNoRoot (node_rows (events_to before))
no_root [] = tt
no_root (line ∷ before) = no_root_both (events_to before) (line_events before line) (no_root before) (line_no_root before line)

-- so many names and bytes are within the limits, where the values have this many bytes
pub record IsIn (limits : Limits) (values : ℕ) (names : Names) : Type 0 where
  pub count : names.count ≤ limits.names
  pub bytes : values + names.bytes ≤ limits.text

at_most : (a b : ℕ) → nat_lt a b ≡ false → b ≤ a
at_most a b h = grind (arith, nat_tests, h)

two_good : (a b : Bool) (one two : FlawKind) → cond a (Some one) (cond b (Some two) None) ≡ None → (a ≡ false) × (b ≡ false)
two_good true b one two h = absurd (cc)
two_good false true one two h = absurd (cc)
two_good false false one two h = (refl, refl)

three_good : (a b c : Bool) (one two three : FlawKind) → cond a (Some one) (cond b (Some two) (cond c (Some three) None)) ≡ None → (b ≡ false) × (c ≡ false)
three_good true b c one two three h = absurd (cc)
three_good false b c one two three h = two_good b c two three h

attribute_good : (a b c d e : Bool) (one two three four : FlawKind) → cond a (Some one) (cond b (Some two) (cond c None (cond d (Some three) (cond e (Some four) None)))) ≡ None → c ≡ false → e ≡ false
attribute_good true b c d e one two three four h n = absurd (cc)
attribute_good false true c d e one two three four h n = absurd (cc)
attribute_good false false true d e one two three four h n = absurd (false≢true (sym n))
attribute_good false false false d e one two three four h n = (two_good d e three four h).1

no_flaw : (limits : Limits) (names : Names) (values : ℕ) → names_flaw limits names values ≡ None → IsIn limits values names
no_flaw limits names values h =
    let good = two_good (nat_lt limits.names names.count) (nat_lt limits.text (values + names.bytes)) kind.TooManyNames kind.TooMuchText h in
    record { count = at_most _ _ good.0; bytes = at_most _ _ good.1 }

later_good : (first later : Option FlawKind) → or_kind first later ≡ None → later ≡ None
later_good None later h = h
later_good (Some it) later h = absurd (cc)

-- events whose rows have no name
abbrev pub AddsNone : List Event → Type 0
AddsNone events = ((seen : _) → names_from seen (node_rows events) ≡ seen) × ((seen : _) → prefixes_from seen (node_rows events) ≡ seen)

pub text_adds_none : (n line : ℕ) (text : List ℕ) → AddsNone (text_node n text line)
text_adds_none n line text = elim (cases_Bool (length text == 0)) [
  | inl e ↦ rw e ((λ seen. refl), (λ seen. refl))
  | inr e ↦ rw e ((λ seen. refl), (λ seen. refl))
]

pub both_add_none : (xs ys : List Event) → AddsNone xs → AddsNone ys → AddsNone (xs ++ ys)
both_add_none xs ys h k = (
  (λ seen. ap (names_from seen) (rows_join xs ys) ∙ names_from-append seen (node_rows xs) (node_rows ys) ∙ ap (λ all. names_from all (node_rows ys)) (h.0 seen) ∙ k.0 seen),
  (λ seen. ap (prefixes_from seen) (rows_join xs ys) ∙ prefixes_from-append seen (node_rows xs) (node_rows ys) ∙ ap (λ all. prefixes_from all (node_rows ys)) (h.1 seen) ∙ k.1 seen),
)

pub same_after : (limits : Limits) (values : ℕ) (xs ys : List Event) → HaveNoRoot (node_rows xs) → HaveNoRoot (node_rows ys) → AddsNone ys → IsIn limits values (names_of false xs)
    → IsIn limits values (names_of false (xs ++ ys))
same_after limits values xs ys h k a i =
    let n : names_from [] (node_rows (xs ++ ys)) ≡ names_from [] (node_rows xs) =
    ap (names_from []) (rows_join xs ys) ∙ names_from-append [] (node_rows xs) (node_rows ys) ∙ a.0 (names_from [] (node_rows xs)) in
    let p : prefixes_from [] (node_rows (xs ++ ys)) ≡ prefixes_from [] (node_rows xs) =
    ap (prefixes_from []) (rows_join xs ys) ∙ prefixes_from-append [] (node_rows xs) (node_rows ys) ∙ a.1 (prefixes_from [] (node_rows xs)) in
    let all = no_root_both xs ys h k in
    let count : Names.count (names_of false (xs ++ ys)) ≡ Names.count (names_of false xs) =
    sym (same_count (node_rows (xs ++ ys)) all) ∙ ap₂ (λ a b. length a + length b) n p ∙ same_count (node_rows xs) h in
    let bytes : Names.bytes (names_of false (xs ++ ys)) ≡ Names.bytes (names_of false xs) =
    sym (same_bytes (node_rows (xs ++ ys)) all) ∙ ap₂ (λ a b. name_bytes a + prefix_bytes b) n p ∙ same_bytes (node_rows xs) h in
    record { count = subst (λ m. m ≤ limits.names) (sym count) i.count; bytes = subst (λ m. values + m ≤ limits.text) (sym bytes) i.bytes }

pub completed_in : (limits : Limits) (before : List Line) (it : Option PendingStart) → completed_flaw limits false before it ≡ None
    → IsIn limits (value_bytes before) (names_of false (events_to before)) → IsIn limits (value_bytes before) (names_of false (events_to before ++ completed before it))
completed_in limits before None h i = subst (λ events. IsIn limits (value_bytes before) (names_of false events)) (sym (append-nil (events_to before))) i
completed_in limits before (Some it) h i = no_flaw limits _ (value_bytes before) (later_good _ _ h)

-- the names of the lines and the bytes of names and values are within the limits
pub within : (limits : Limits) (before : List Line) → AreFlawless limits before → IsIn limits (value_bytes before) (names_of false (events_to before))
within limits [] f = record { count = omega arith; bytes = omega arith }
within limits (Start name ∷ before) f =
    let c = completed_in limits before (pending_start before) (start_good limits before (Start name) f.0) (within limits before f.1) in
    let r = no_root_both (events_to before) (completed before (pending_start before)) (no_root before) (start_no_root _ _ _ (pending_start before)) in
    let s = same_after limits (value_bytes before) (events_to before ++ completed before (pending_start before)) (ended_text before) r (text_no_root _ _ (pending_text before))
    (text_adds_none _ _ (pending_text before)) c in
    let t = subst (λ events. IsIn limits (value_bytes before) (names_of false events)) (append_assoc (events_to before) (completed before (pending_start before)) (ended_text before)) s in
    record { count = t.count; bytes = omega (arith, t.bytes) }
within limits (End name ∷ before) f =
    let c = completed_in limits before (pending_start before) (start_good limits before (End name) f.0) (within limits before f.1) in
    let r = no_root_both (events_to before) (completed before (pending_start before)) (no_root before) (start_no_root _ _ _ (pending_start before)) in
    let own = ended_text before ++ event.Shut ∷ [] in
    let none = both_add_none (ended_text before) (event.Shut ∷ []) (text_adds_none _ _ (pending_text before)) ((λ seen. refl), (λ seen. refl)) in
    let s = same_after limits (value_bytes before) (events_to before ++ completed before (pending_start before)) own r
    (no_root_both (ended_text before) (event.Shut ∷ []) (text_no_root _ _ (pending_text before)) tt) none c in
    let t = subst (λ events. IsIn limits (value_bytes before) (names_of false events)) (append_assoc (events_to before) (completed before (pending_start before)) own) s in
    record { count = t.count; bytes = omega (arith, t.bytes) }
within limits (Attr name value ∷ before) f =
    let i = subst (λ events. IsIn limits (value_bytes before) (names_of false events)) (sym (append-nil (events_to before))) (within limits before f.1) in
    elim (cases_Bool (is_declaration name)) [
      | inl e ↦ record { count = i.count; bytes = rw e (omega (arith, i.bytes)) }
      | inr e ↦
          let good = attribute_good (not (is_some (pending_start before))) (is_full (pending_start before)) (is_declaration name) (row_count before == limits.rows)
          (nat_lt limits.text (value_bytes before + Names.bytes
          (names_of false (events_to (Attr name value ∷ before))) + length value)) kind.AttrPlace kind.TooManyAttrs kind.TooManyNodes kind.TooMuchText
          (own_good limits before (Attr name value) f.0) e in
          let fits = at_most limits.text (value_bytes before + Names.bytes (names_of false (events_to (Attr name value ∷ before))) + length value) good in
          record { count = i.count; bytes = rw e (omega (arith, fits)) }
    ]
within limits (Text text ∷ before) f =
    let c = completed_in limits before (pending_start before) (start_good limits before (Text text) f.0) (within limits before f.1) in
    let t = subst (λ events. IsIn limits (value_bytes before) (names_of false (events_to before ++ events))) (sym (append-nil (completed before (pending_start before)))) c in
    let good = three_good (depth before == 0 && not (list_all is_white text)) (begins_text before text && row_count before == limits.rows)
    (nat_lt limits.text (value_bytes before + Names.bytes (names_of false (events_to (Text text ∷ before))) + length text)) kind.TextOutside kind.TooManyNodes kind.TooMuchText
    (own_good limits before (Text text) f.0) in
    let fits = at_most limits.text (value_bytes before + Names.bytes (names_of false (events_to (Text text ∷ before))) + length text) good.1 in
    elim (cases_Bool (depth before == 0)) [
      | inl e ↦ record { count = t.count; bytes = rw e (omega (arith, fits)) }
      | inr e ↦ record { count = t.count; bytes = rw e (omega (arith, fits)) }
    ]
within limits (Instruction target value ∷ before) f =
    let good = three_good (row_count before == limits.rows) (nat_lt limits.names (Names.count (names_of false (events_to (Instruction target value ∷ before)))))
    (nat_lt limits.text (value_bytes before + Names.bytes
    (names_of false (events_to (Instruction target value ∷ before))) + length value)) kind.TooManyNodes kind.TooManyNames kind.TooMuchText
    (own_good limits before (Instruction target value) f.0) in
    let fits = at_most limits.text (value_bytes before + Names.bytes (names_of false (events_to (Instruction target value ∷ before))) + length value) good.1 in
    record { count = at_most limits.names (Names.count (names_of false (events_to (Instruction target value ∷ before)))) good.0; bytes = omega (arith, fits) }
within limits (Comment text ∷ before) f =
    let c = completed_in limits before (pending_start before) (start_good limits before (Comment text) f.0) (within limits before f.1) in
    let r = no_root_both (events_to before) (completed before (pending_start before)) (no_root before) (start_no_root _ _ _ (pending_start before)) in
    let node = plain_node (comment_row (depth before + 1) text) (length before + 1) ∷ [] in
    let own = ended_text before ++ node in
    let none = both_add_none (ended_text before) node (text_adds_none _ _ (pending_text before)) ((λ seen. refl), (λ seen. refl)) in
    let s = same_after limits (value_bytes before) (events_to before ++ completed before (pending_start before)) own r
    (no_root_both (ended_text before) node (text_no_root _ _ (pending_text before)) ((λ h. cc), tt)) none c in
    let t = subst (λ events. IsIn limits (value_bytes before) (names_of false events)) (append_assoc (events_to before) (completed before (pending_start before)) own) s in
    let good = two_good (row_count before == limits.rows)
    (nat_lt limits.text (value_bytes before + Names.bytes (names_of false (events_to (Comment text ∷ before))) + length text)) kind.TooManyNodes kind.TooMuchText
    (own_good limits before (Comment text) f.0) in
    let fits = at_most limits.text (value_bytes before + Names.bytes (names_of false (events_to (Comment text ∷ before))) + length text) good.1 in
    record { count = t.count; bytes = omega (arith, fits) }
within limits (Passed ∷ before) f =
    let i = subst (λ events. IsIn limits (value_bytes before) (names_of false events)) (sym (append-nil (events_to before))) (within limits before f.1) in
    record { count = i.count; bytes = omega (arith, i.bytes) }
