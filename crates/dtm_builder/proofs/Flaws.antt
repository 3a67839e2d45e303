-- The flaws of lines, from those without names and those of names. The lines before are given with the latest first.
use Rattle.std.proofs.Common.{◌≡◌, ◌⊎◌, ℕ, ◌+◌, ◌<◌, ◌≤◌, ◌==◌, Bool, true, false, ◌&&◌, not, cond, List, []}
use Rattle.std.proofs.Common.{◌∷◌, ◌++◌, length, Option, Some, None, refl, ap, ap₂, sym, ◌∙◌, subst, arith, inl, inr, append-nil}
use Rattle.std.specs.Prelude.{nat_lt, is_some, is_none, min}
use Rattle.std.specs.List.{list_all, list_any}
use Rattle.std.proofs.lemmas.Bool.{cases_Bool, cases_lt, eqb-true, false≢true}
use Rattle.std.proofs.lemmas.Bool.Decides.{nat_tests}
use Rattle.doc_model.specs.declared.flaw.Flaw.{Flaw}
use Rattle.doc_model.specs.declared.flaw.FlawKind.{FlawKind}
use Rattle.doc_model.specs.declared.flaw.FlawKind.TheVariants as kind
use Rattle.doc_model.specs.declared.limits.Limits.{Limits}
use Rattle.doc_model.specs.declared.row.Row.{Row}
use Rattle.doc_model.specs.declared.step.Step.{Step}
use Rattle.doc_model.specs.Rows.{rows_of}
use Rattle.doc_model.specs.Strip.{is_white}
use Rattle.name_grammar.specs.Names.{prefix_of}
use Rattle.xml_names.specs.declared.scopes.Binding.{Binding}
use Rattle.pyx_lines.specs.declared.line.Line.{Line}
use Rattle.pyx_lines.specs.declared.line.Line.TheVariants.{Start, End, Attr, Text, Instruction, Comment, Passed}
use Rattle.pyx_events.specs.declared.event.Event.{Event}
use Rattle.pyx_events.specs.declared.pending_start.PendingStart.{PendingStart}
use Rattle.pyx_events.specs.Before.{has_root, with_attribute, depth, pending_start, completed_start, is_declaration, bindings, begins_text, row_count, value_bytes}
use Rattle.pyx_events.specs.Counted.{Names, free_names, names_of}
use Rattle.pyx_events.specs.Nodes.{node_rows, attribute_rows, completed, events_to, line_events}
use Rattle.pyx_events.specs.Steps.{steps_of_events}
use Rattle.pyx_events.specs.Answer.{sound_node}
use Rattle.pyx_events.specs.Flaw.{repeats, is_unbound, attribute_unbound, is_full, start_flaw, names_flaw, or_kind, or_flaw}
use Rattle.pyx_events.specs.Flaw.{if_pending, completed_flaw, own_flaw, own_end_flaw, start_line, at_line, in_order, line_flaw, end_flaw}
use Rattle.node_writer.specs.declared.new_names.NewNames.{NewNames}
use Rattle.node_writer.specs.New.{AddsNames, capped}
use Rattle.dtm_builder.specs.declared.build_error.BuildError.{BuildError}
use Rattle.dtm_builder.specs.Judging.{table_names, Adds, own_rows, element_rows, started_flaw, kind_with, flaw_with}
use Rattle.dtm_builder.specs.Lines.{AreFlawless, data_length}
use Rattle.dtm_builder.specs.Standing.{IsFlawOf}
use Rattle.dtm_builder.proofs.Counts.{names_started, own_adds, names_kept, is_instruction}
use Rattle.dtm_builder.proofs.Elements.{IsFirst, line_first, node_first, adds_of}
use Rattle.dtm_builder.proofs.Naming.{IsIn, within, completed_in}
use Rattle.dtm_builder.proofs.Balancing.{IsBalanced, balanced}
use Rattle.dtm_builder.proofs.Opening.{depth_start, depth_other}

-- a flaw at a line comes before later ones
at_both : (line : ℕ) (a b : Option FlawKind) (later : Option Flaw) → at_line line (or_kind a b) later ≡ at_line line a (at_line line b later)
at_both line None b later = refl
at_both line (Some it) b later = refl

at_or : (line : ℕ) (a : Option FlawKind) (later : Option Flaw) → at_line line a later ≡ or_flaw (at_line line a None) later
at_or line None later = refl
at_or line (Some it) later = refl

or_later : (first a b : Option Flaw) → (first ≡ None → a ≡ b) → or_flaw first a ≡ or_flaw first b
or_later None a b h = h refl
or_later (Some it) a b h = refl

at_line_none : (line : ℕ) (a : Option FlawKind) → at_line line a None ≡ None → a ≡ None
at_line_none line None h = refl
at_line_none line (Some it) h = absurd (cc)

no_first : (line : ℕ) (a : Option FlawKind) (later : Option Flaw) → at_line line a later ≡ None → (a ≡ None) × (later ≡ None)
no_first line None later h = (refl, h)
no_first line (Some it) later h = absurd (cc)

-- the flaw of names of the start that is completed
abbrev names_at : Limits → Bool → List Line → Option PendingStart → Option FlawKind
names_at limits free before start = if_pending start (names_flaw limits (names_of free (events_to before ++ completed before start)) (value_bytes before))

pieces : (limits : Limits) (free : Bool) (before : List Line) (start : Option PendingStart) (own : Option FlawKind)
    → in_order limits free before start own ≡ at_line (start_line start) (start_flaw (bindings 0 before) (depth before) start)
    (or_flaw (at_line (start_line start) (names_at limits free before start) None) (at_line (length before + 1) own None))
pieces limits free before start own =
    at_both (start_line start) (start_flaw (bindings 0 before) (depth before) start) (names_at limits free before start) (at_line (length before + 1) own None)
    ∙ ap (at_line (start_line start) (start_flaw (bindings 0 before) (depth before) start)) (at_or (start_line start) (names_at limits free before start) (at_line (length before + 1) own None))

free_good : (limits : Limits) (values : ℕ) → values ≤ limits.text → names_flaw limits free_names values ≡ None
free_good limits values h =
    let none : nat_lt limits.names 0 ≡ false = grind (arith, nat_tests) in
    let fits : nat_lt limits.text (values + 0) ≡ false = grind (arith, nat_tests, h) in
    ap (λ b. cond b (Some kind.TooManyNames) (cond (nat_lt limits.text (values + 0)) (Some kind.TooMuchText) None)) none
    ∙ ap (λ b. cond b (Some kind.TooMuchText) None) fits

free_at : (limits : Limits) (before : List Line) (start : Option PendingStart) → value_bytes before ≤ limits.text → names_at limits true before start ≡ None
free_at limits before None h = refl
free_at limits before (Some it) h = free_good limits (value_bytes before) h

-- without names only the start's own flaw and the line's come
free_pieces : (limits : Limits) (before : List Line) (start : Option PendingStart) (own : Option FlawKind) → value_bytes before ≤ limits.text
    → in_order limits true before start own ≡ at_line (start_line start) (start_flaw (bindings 0 before) (depth before) start) (at_line (length before + 1) own None)
free_pieces limits before start own h =
    pieces limits true before start own
    ∙ ap (λ k. at_line (start_line start) (start_flaw (bindings 0 before) (depth before) start) (or_flaw (at_line (start_line start) k None) (at_line (length before + 1) own None)))
    (free_at limits before start h)

-- the flaw of the first element's names is that of the names of the start
started_is : (limits : Limits) (before : List Line) (start : Option PendingStart) (events : List Event) → IsFirst events (completed before start) start
    → started_flaw limits (rows_of (steps_of_events (events_to before))) events (value_bytes before) ≡ at_line (start_line start) (names_at limits false before start) None
started_is limits before start events first =
    let rows = rows_of (steps_of_events (events_to before)) in
    first.flaw (names_flaw limits (table_names (rows ++ element_rows events)) (value_bytes before))
    ∙ ap (λ (more : List Row). at_line (start_line start) (if_pending start (names_flaw limits (table_names (rows ++ more)) (value_bytes before))) None) first.rows
    ∙ ap (λ (names : Names). at_line (start_line start) (if_pending start (names_flaw limits names (value_bytes before))) None) (sym (names_started before start))

-- names that are within the limits are no flaw
quiet : (limits : Limits) (values : ℕ) (names : Names) → nat_lt limits.names names.count ≡ false → nat_lt limits.text (values + names.bytes) ≡ false → names_flaw limits names values ≡ None
quiet limits values names c b =
    ap (λ x. cond x (Some kind.TooManyNames) (cond (nat_lt limits.text (values + names.bytes)) (Some kind.TooMuchText) None)) c
    ∙ ap (λ x. cond x (Some kind.TooMuchText) None) b

not_over : (a b : ℕ) → b ≤ a → nat_lt a b ≡ false
not_over a b h = grind (arith, nat_tests, h)

is_over : (a b : ℕ) → a < b → nat_lt a b ≡ true
is_over a b h = grind (arith, nat_tests, h)

-- the values of a line are judged by so many bytes: with its data, whether it is kept or not
pub record IsJudged (limits : Limits) (before : List Line) (line : Line) (values : ℕ) : Type 0 where
  pub given : ℕ
  pub small : limits.text < 4294967296
  pub capped : given ≡ capped (value_bytes before + data_length line)
  pub larger : values ≡ cond (nat_lt (value_bytes (line ∷ before)) given) given (value_bytes (line ∷ before))

capped_is : (n : ℕ) → (n ≡ capped n) ⊎ ((18446744073709551616 ≤ n) × (18446744073709551615 ≡ capped n))
capped_is n = elim (cases_lt n 18446744073709551616) [
  | inl h ↦ inl (grind (arith, nat_tests, h))
  | inr h ↦ inr (h, grind (arith, nat_tests, h))
]

-- the larger of two sums over the limit
judged_test : (text bytes names kept data_bytes most given values : ℕ) → text < 4294967296 → given ≡ capped (bytes + data_bytes) → values ≡ cond (nat_lt (bytes + kept) given) given (bytes + kept)
    → kept ≤ most → data_bytes ≤ most → (most ≡ kept) ⊎ (most ≡ data_bytes) → nat_lt text (bytes + names + most) ≡ nat_lt text (values + names)
judged_test text bytes names kept data_bytes most given values small d v k g m = elim (capped_is (bytes + data_bytes)) [
  | inl s ↦ elim (cases_lt (bytes + kept) given) [
    | inl h ↦
        let is : values ≡ given = v ∙ ap (λ b. cond b given (bytes + kept)) (is_over (bytes + kept) given h) in
        let same : bytes + names + most ≡ values + names = elim m [ inl e ↦ omega (arith, d, s, e, h, is, g) | inr e ↦ omega (arith, d, s, e, is) ] in
        ap (λ n. nat_lt text n) same
    | inr h ↦
        let is : values ≡ bytes + kept = v ∙ ap (λ b. cond b given (bytes + kept)) (not_over (bytes + kept) given h) in
        let same : bytes + names + most ≡ values + names = elim m [ inl e ↦ omega (arith, e, is) | inr e ↦ omega (arith, d, s, e, is, h, k) ] in
        ap (λ n. nat_lt text n) same
  ]
  | inr s ↦
      let high : given ≤ values = elim (cases_lt (bytes + kept) given) [
        | inl h ↦ let is : values ≡ given = v ∙ ap (λ b. cond b given (bytes + kept)) (is_over (bytes + kept) given h) in omega (arith, is)
        | inr h ↦ let is : values ≡ bytes + kept = v ∙ ap (λ b. cond b given (bytes + kept)) (not_over (bytes + kept) given h) in omega (arith, is, h)
      ] in
      is_over text (bytes + names + most) (omega (arith, s.0, g, small)) ∙ sym (is_over text (values + names) (omega (arith, high, d, s.1, small)))
]

attribute_same : (a b c d e f : Bool) (one two three four : FlawKind) → cond a (Some one) (cond b (Some two) (cond c None (cond d (Some three) (cond e (Some four) None)))) ≡ None
    → cond a (Some one) (cond b (Some two) (cond c None (cond d (Some three) (cond f (Some four) None)))) ≡ cond c None (cond f (Some four) None)
attribute_same true b c d e f one two three four h = absurd (cc)
attribute_same false true c d e f one two three four h = absurd (cc)
attribute_same false false true d e f one two three four h = refl
attribute_same false false false true e f one two three four h = absurd (cc)
attribute_same false false false false e f one two three four h = refl

text_same : (a b e f : Bool) (one two three : FlawKind) → cond a (Some one) (cond b (Some two) (cond e (Some three) None)) ≡ None
    → cond a (Some one) (cond b (Some two) (cond f (Some three) None)) ≡ cond f (Some three) None
text_same true b e f one two three h = absurd (cc)
text_same false true e f one two three h = absurd (cc)
text_same false false e f one two three h = refl

instruction_same : (a b e f g : Bool) (one two three : FlawKind) → cond a (Some one) (cond b (Some two) (cond e (Some three) None)) ≡ None
    → cond a (Some one) (cond f (Some two) (cond g (Some three) None)) ≡ cond f (Some two) (cond g (Some three) None)
instruction_same true b e f g one two three h = absurd (cc)
instruction_same false b e f g one two three h = refl

kept_bytes : (out : Bool) (n : ℕ) → cond out 0 n ≤ n
kept_bytes true n = omega arith
kept_bytes false n = omega arith

-- a line that adds no bytes has no flaw of names
quiet_line : (limits : Limits) (bytes given values : ℕ) (all : Names) → limits.text < 4294967296 → given ≡ capped (bytes + 0) → values ≡ cond (nat_lt (bytes + 0) given) given (bytes + 0)
    → IsIn limits bytes all → names_flaw limits all values ≡ None
quiet_line limits bytes given values all small d v i =
    let test = judged_test limits.text bytes all.bytes 0 0 0 given values small d v (omega arith) (omega arith) (inl refl) in
    quiet limits values all (not_over limits.names all.count i.count) (sym test ∙ not_over limits.text (bytes + all.bytes + 0) (omega (arith, i.bytes)))

-- the flaw of names that are not too many
only_text : (limits : Limits) (all : Names) (values : ℕ) → all.count ≤ limits.names → cond (nat_lt limits.text (values + all.bytes)) (Some kind.TooMuchText) None ≡ names_flaw limits all values
only_text limits all values h = sym (ap (λ x. cond x (Some kind.TooManyNames) (cond (nat_lt limits.text (values + all.bytes)) (Some kind.TooMuchText) None)) (not_over limits.names all.count h))

-- where names aside there is no flaw, the line's own flaw is that of the names
own_judged : (limits : Limits) (before : List Line) (line : Line) (all : Names) (values : ℕ) → own_flaw limits free_names before line ≡ None → IsJudged limits before line values
    → (is_instruction line ≡ false → IsIn limits (value_bytes before) all) → own_flaw limits all before line ≡ names_flaw limits all values
own_judged limits before (Start name) all values h j i = h ∙ sym (quiet_line limits (value_bytes before) j.given values all j.small j.capped j.larger (i refl))
own_judged limits before (End name) all values h j i = h ∙ sym (quiet_line limits (value_bytes before) j.given values all j.small j.capped j.larger (i refl))
own_judged limits before (Attr name value) all values h j i =
    let bytes = value_bytes before in
    let same : own_flaw limits all before (Attr name value) ≡ cond (is_declaration name) None (cond (nat_lt limits.text (bytes + all.bytes + length value)) (Some kind.TooMuchText) None) =
    attribute_same (not (is_some (pending_start before))) (is_full (pending_start before)) (is_declaration name) (row_count before == limits.rows) (nat_lt limits.text (bytes + 0 + length value))
    (nat_lt limits.text (bytes + all.bytes + length value))
    kind.AttrPlace kind.TooManyAttrs kind.TooManyNodes kind.TooMuchText h in
    elim (cases_Bool (is_declaration name)) [
      | inl e ↦
          let larger : values ≡ cond (nat_lt (bytes + 0) j.given) j.given (bytes + 0) = j.larger
          ∙ ap (λ (b : Bool). cond (nat_lt (bytes + cond b 0 (length value)) j.given) j.given (bytes + cond b 0 (length value))) e in
          same ∙ ap (λ b. cond b None (cond (nat_lt limits.text (bytes + all.bytes + length value)) (Some kind.TooMuchText) None)) e
          ∙ sym (quiet_line limits bytes j.given values all j.small j.capped larger (i refl))
      | inr e ↦
          let larger : values ≡ cond (nat_lt (bytes + length value) j.given) j.given (bytes + length value) = j.larger
          ∙ ap (λ (b : Bool). cond (nat_lt (bytes + cond b 0 (length value)) j.given) j.given (bytes + cond b 0 (length value))) e in
          let test = judged_test limits.text bytes all.bytes (length value) 0 (length value) j.given values j.small j.capped larger (omega arith) (omega arith) (inl refl) in
          same ∙ ap (λ b. cond b None (cond (nat_lt limits.text (bytes + all.bytes + length value)) (Some kind.TooMuchText) None)) e
          ∙ ap (λ b. cond b (Some kind.TooMuchText) None) test ∙ only_text limits all values (IsIn.count (i refl))
    ]
own_judged limits before (Text text) all values h j i =
    let bytes = value_bytes before in
    let test = judged_test limits.text bytes all.bytes (cond (depth before == 0) 0 (length text)) (length text) (length text) j.given values j.small j.capped j.larger
    (kept_bytes (depth before == 0) (length text)) (omega arith) (inr refl) in
    text_same (depth before == 0 && not (list_all is_white text)) (begins_text before text && row_count before == limits.rows) (nat_lt limits.text (bytes + 0 + length text))
    (nat_lt limits.text (bytes + all.bytes + length text))
    kind.TextOutside kind.TooManyNodes kind.TooMuchText h
    ∙ ap (λ b. cond b (Some kind.TooMuchText) None) test ∙ only_text limits all values (IsIn.count (i refl))
own_judged limits before (Instruction target value) all values h j i =
    let bytes = value_bytes before in
    let test = judged_test limits.text bytes all.bytes (length value) 0 (length value) j.given values j.small j.capped j.larger (omega arith) (omega arith) (inl refl) in
    instruction_same (row_count before == limits.rows) (nat_lt limits.names 0) (nat_lt limits.text (bytes + 0 + length value)) (nat_lt limits.names all.count)
    (nat_lt limits.text (bytes + all.bytes + length value))
    kind.TooManyNodes kind.TooManyNames kind.TooMuchText h
    ∙ ap (λ b. cond (nat_lt limits.names all.count) (Some kind.TooManyNames) (cond b (Some kind.TooMuchText) None)) test
own_judged limits before (Comment text) all values h j i =
    let bytes = value_bytes before in
    let test = judged_test limits.text bytes all.bytes (length text) 0 (length text) j.given values j.small j.capped j.larger (omega arith) (omega arith) (inl refl) in
    text_same false (row_count before == limits.rows) (nat_lt limits.text (bytes + 0 + length text)) (nat_lt limits.text
    (bytes + all.bytes + length text)) kind.TextOutside kind.TooManyNodes kind.TooMuchText h
    ∙ ap (λ b. cond b (Some kind.TooMuchText) None) test ∙ only_text limits all values (IsIn.count (i refl))
own_judged limits before Passed all values h j i = h ∙ sym (quiet_line limits (value_bytes before) j.given values all j.small j.capped j.larger (i refl))

-- where names aside there is one, it is the same with the names counted, but that too many come before too much text
kind_few : (it : FlawKind) → kind_with false it ≡ it
kind_few kind.TooMuchText = refl
kind_few it = refl

few_kind : (limits : Limits) (all : Names) (it : FlawKind) → all.count ≤ limits.names → Some it ≡ Some (kind_with (nat_lt limits.names all.count) it)
few_kind limits all it h = sym (ap (λ b. Some (kind_with b it)) (not_over limits.names all.count h) ∙ ap (λ k. Some k) (kind_few it))

attribute_flaw : (a b c d e f : Bool) (one two three four it : FlawKind) → (e ≡ true → f ≡ true)
    → cond a (Some one) (cond b (Some two) (cond c None (cond d (Some three) (cond e (Some four) None)))) ≡ Some it
    → cond a (Some one) (cond b (Some two) (cond c None (cond d (Some three) (cond f (Some four) None)))) ≡ Some it
attribute_flaw true b c d e f one two three four it g h = h
attribute_flaw false true c d e f one two three four it g h = h
attribute_flaw false false true d e f one two three four it g h = h
attribute_flaw false false false true e f one two three four it g h = h
attribute_flaw false false false false true f one two three four it g h = ap (λ x. cond x (Some four) None) (g refl) ∙ h
attribute_flaw false false false false false f one two three four it g h = absurd (cc)

text_flaw : (a b e f : Bool) (one two three it : FlawKind) → (e ≡ true → f ≡ true) → cond a (Some one) (cond b (Some two) (cond e (Some three) None)) ≡ Some it
    → cond a (Some one) (cond b (Some two) (cond f (Some three) None)) ≡ Some it
text_flaw true b e f one two three it g h = h
text_flaw false true e f one two three it g h = h
text_flaw false false true f one two three it g h = ap (λ x. cond x (Some three) None) (g refl) ∙ h
text_flaw false false false f one two three it g h = absurd (cc)

some_kind : (a b : FlawKind) → Some a ≡ Some b → a ≡ b
some_kind a b h = cc

instruction_flaw : (a b e f g : Bool) (it : FlawKind) → b ≡ false → (e ≡ true → g ≡ true)
    → cond a (Some kind.TooManyNodes) (cond b (Some kind.TooManyNames) (cond e (Some kind.TooMuchText) None)) ≡ Some it
    → cond a (Some kind.TooManyNodes) (cond f (Some kind.TooManyNames) (cond g (Some kind.TooMuchText) None)) ≡ Some (kind_with f it)
instruction_flaw true b e f g it n more h = ap (λ k. Some (kind_with f k)) (some_kind kind.TooManyNodes it h)
instruction_flaw false true e f g it n more h = absurd (false≢true (sym n))
instruction_flaw false false false f g it n more h = absurd (cc)
instruction_flaw false false true true g it n more h = ap (λ k. Some (kind_with true k)) (some_kind kind.TooMuchText it h)
instruction_flaw false false true false g it n more h = ap (λ x. cond x (Some kind.TooMuchText) None) (more refl) ∙ ap (λ k. Some (kind_with false k)) (some_kind kind.TooMuchText it h)

more_text : (text bytes names more : ℕ) → nat_lt text (bytes + 0 + more) ≡ true → nat_lt text (bytes + names + more) ≡ true
more_text text bytes names more h = elim (cases_lt text (bytes + names + more)) [
  | inl low ↦ is_over text (bytes + names + more) low
  | inr high ↦ absurd (false≢true (sym (not_over text (bytes + 0 + more) (omega (arith, high))) ∙ h))
]

own_refused : (limits : Limits) (before : List Line) (line : Line) (all : Names) (it : FlawKind) → own_flaw limits free_names before line ≡ Some it
    → (is_instruction line ≡ false → all.count ≤ limits.names) → own_flaw limits all before line ≡ Some (kind_with (nat_lt limits.names all.count) it)
own_refused limits before (Start name) all it h few = h ∙ few_kind limits all it (few refl)
own_refused limits before (End name) all it h few = h ∙ few_kind limits all it (few refl)
own_refused limits before (Attr name value) all it h few =
    attribute_flaw (not (is_some (pending_start before))) (is_full (pending_start before)) (is_declaration name) (row_count before == limits.rows)
    (nat_lt limits.text (value_bytes before + 0 + length value)) (nat_lt limits.text (value_bytes before + all.bytes + length value))
    kind.AttrPlace kind.TooManyAttrs kind.TooManyNodes kind.TooMuchText it (more_text limits.text (value_bytes before) all.bytes (length value)) h
    ∙ few_kind limits all it (few refl)
own_refused limits before (Text text) all it h few =
    text_flaw (depth before == 0 && not (list_all is_white text)) (begins_text before text && row_count before == limits.rows) (nat_lt limits.text (value_bytes before + 0 + length text))
    (nat_lt limits.text (value_bytes before + all.bytes + length text))
    kind.TextOutside kind.TooManyNodes kind.TooMuchText it (more_text limits.text (value_bytes before) all.bytes (length text)) h
    ∙ few_kind limits all it (few refl)
own_refused limits before (Instruction target value) all it h few =
    instruction_flaw (row_count before == limits.rows) (nat_lt limits.names 0) (nat_lt limits.text (value_bytes before + 0 + length value)) (nat_lt limits.names all.count)
    (nat_lt limits.text (value_bytes before + all.bytes + length value)) it
    (not_over limits.names 0 (omega arith)) (more_text limits.text (value_bytes before) all.bytes (length value)) h
own_refused limits before (Comment text) all it h few =
    text_flaw false (row_count before == limits.rows) (nat_lt limits.text (value_bytes before + 0 + length text)) (nat_lt limits.text (value_bytes before + all.bytes + length text))
    kind.TextOutside kind.TooManyNodes kind.TooMuchText it (more_text limits.text (value_bytes before) all.bytes (length text)) h
    ∙ few_kind limits all it (few refl)
own_refused limits before Passed all it h few = h ∙ few_kind limits all it (few refl)

-- the names after the line are within the limits, where those after the start that it completes are
all_in : (limits : Limits) (before : List Line) (line : Line) → AreFlawless limits before → start_flaw (bindings 0 before) (depth before) (completed_start before line) ≡ None
    → names_at limits false before (completed_start before line) ≡ None
    → is_instruction line ≡ false → IsIn limits (value_bytes before) (names_of false (events_to (line ∷ before)))
all_in limits before line f a b plain =
    let good : completed_flaw limits false before (completed_start before line) ≡ None = ap₂ or_kind a b in
    subst (IsIn limits (value_bytes before)) (sym (names_kept before line plain)) (completed_in limits before (completed_start before line) good (within limits before f))

-- the flaw of a line that has none, names aside
pub line_good : (limits : Limits) (before : List Line) (line : Line) (events : List Event) (values : ℕ) → AreFlawless limits before → line_flaw limits true before line ≡ None
    → events ≡ line_events before line → IsJudged limits before line values
    → line_flaw limits false before line ≡ or_flaw (started_flaw limits (rows_of (steps_of_events (events_to before))) events (value_bytes before))
    (at_line (length before + 1) (names_flaw limits (names_of false (events_to (line ∷ before))) values) None)
line_good limits before line events values f h e j =
    let start = completed_start before line in
    let all = names_of false (events_to (line ∷ before)) in
    let parts = no_first (start_line start) (start_flaw (bindings 0 before) (depth before) start) _ (sym
    (free_pieces limits before start (own_flaw limits free_names before line) (omega (arith, IsIn.bytes (within limits before f)))) ∙ h) in
    let own = at_line_none (length before + 1) (own_flaw limits free_names before line) parts.1 in
    let first = started_is limits before start events (subst (λ (all : List Event). IsFirst all (completed before start) start) (sym e) (line_first before line)) in
    pieces limits false before start (own_flaw limits all before line)
    ∙ ap (λ k. at_line (start_line start) k (or_flaw (at_line (start_line start) (names_at limits false before start) None)
    (at_line (length before + 1) (own_flaw limits all before line) None))) parts.0
    ∙ or_later (at_line (start_line start) (names_at limits false before start) None) _ _
    (λ quiet. ap (λ k. at_line (length before + 1) k None) (own_judged limits before line all values own j
    (all_in limits before line f parts.0 (at_line_none (start_line start) (names_at limits false before start) quiet))))
    ∙ ap (λ flaw. or_flaw flaw (at_line (length before + 1) (names_flaw limits all values) None)) (sym first)

-- the flaw of a start is not one of text or names
two_kinds : (a b : Bool) (it : FlawKind) (many : Bool) → cond a (Some kind.UnboundPrefix) (cond b (Some kind.DuplicateAttr) None) ≡ Some it → kind_with many it ≡ it
two_kinds true b it many h = ap (kind_with many) (sym (some_kind kind.UnboundPrefix it h)) ∙ some_kind kind.UnboundPrefix it h
two_kinds false true it many h = ap (kind_with many) (sym (some_kind kind.DuplicateAttr it h)) ∙ some_kind kind.DuplicateAttr it h
two_kinds false false it many h = absurd (cc)

start_kinds : (a b c : Bool) (it : FlawKind) (many : Bool) → cond a (Some kind.UnboundPrefix) (cond b (Some kind.UnboundPrefix) (cond c (Some kind.DuplicateAttr) None)) ≡ Some it
    → kind_with many it ≡ it
start_kinds true b c it many h = ap (kind_with many) (sym (some_kind kind.UnboundPrefix it h)) ∙ some_kind kind.UnboundPrefix it h
start_kinds false b c it many h = two_kinds b c it many h

start_kind : (bound : List Binding) (deep : ℕ) (start : Option PendingStart) (it : FlawKind) (many : Bool) → start_flaw bound deep start ≡ Some it → kind_with many it ≡ it
start_kind bound deep None it many h = absurd (cc)
start_kind bound deep (Some start) it many h = start_kinds (is_unbound bound (prefix_of start.name)) (list_any (attribute_unbound bound) start.attributes)
    (repeats (attribute_rows bound (deep + 1) start.attributes)) it many h

some_flaw : (a b : Flaw) → Some a ≡ Some b → a ≡ b
some_flaw a b h = cc

-- what a refusal hands over: nothing where the start has a flaw, else its node
handed : (limits : Limits) (before : List Line) (start : Option PendingStart) (kinds : Option FlawKind) → value_bytes before ≤ limits.text → start_flaw (bindings 0 before) (depth before) start ≡ kinds
    → sound_node limits before start ≡ cond (is_none kinds) (completed before start) []
handed limits before start kinds fits is =
    ap (λ (k : Option FlawKind). cond (is_none k) (completed before start) []) (ap₂ or_kind is (free_at limits before start fits) ∙ or_none kinds)
  where
    or_none : (k : Option FlawKind) → or_kind k None ≡ k
    or_none None = refl
    or_none (Some it) = refl

-- the flaw at which the checker stopped, and that with the names counted
module _ (limits : Limits) (before : List Line) (start : Option PendingStart) (fits : value_bytes before ≤ limits.text) (flaw : Flaw) (given : List Event) where
  -- the start has a flaw of its own
  start_refused : (free counted : Option FlawKind) (it : FlawKind) (many : Bool) → start_flaw (bindings 0 before) (depth before) start ≡ Some it → in_order limits true before start free ≡ Some flaw
      → given ≡ sound_node limits before start
      → in_order limits false before start counted ≡ or_flaw (started_flaw limits (rows_of (steps_of_events (events_to before))) given (value_bytes before)) (Some (flaw_with many flaw))
  start_refused free counted it many is h g =
      let at : record { line = start_line start; kind = it } ≡ flaw = some_flaw (record { line = start_line start; kind = it }) flaw
      (sym (free_pieces limits before start free fits ∙ ap (λ k. at_line (start_line start) k (at_line (length before + 1) free None)) is) ∙ h) in
      let none : given ≡ [] = g ∙ handed limits before start (Some it) fits is in
      pieces limits false before start counted
      ∙ ap (λ k. at_line (start_line start) k (or_flaw (at_line (start_line start) (names_at limits false before start) None) (at_line (length before + 1) counted None))) is
      ∙ ap (λ (k : FlawKind). Some (record { line = start_line start; kind = k })) (sym (start_kind (bindings 0 before) (depth before) start it many is))
      ∙ ap (λ (f : Flaw). Some (flaw_with many f)) at
      ∙ ap (λ (events : List Event). or_flaw (started_flaw limits (rows_of (steps_of_events (events_to before))) events (value_bytes before)) (Some (flaw_with many flaw))) (sym none)

  -- it has none, and the line or the input's end has one
  own_at : (free : Option FlawKind) → start_flaw (bindings 0 before) (depth before) start ≡ None → in_order limits true before start free ≡ Some flaw
      → at_line (length before + 1) free None ≡ Some flaw
  own_at free is h = sym (free_pieces limits before start free fits ∙ ap (λ k. at_line (start_line start) k (at_line (length before + 1) free None)) is) ∙ h

  later_refused : (free counted : Option FlawKind) (many : Bool) → start_flaw (bindings 0 before) (depth before) start ≡ None → in_order limits true before start free ≡ Some flaw
      → given ≡ sound_node limits before start
      → (names_at limits false before start ≡ None → at_line (length before + 1) counted None ≡ Some (flaw_with many flaw))
      → in_order limits false before start counted ≡ or_flaw (started_flaw limits (rows_of (steps_of_events (events_to before))) given (value_bytes before)) (Some (flaw_with many flaw))
  later_refused free counted many is h g own =
      let node : given ≡ completed before start = g ∙ handed limits before start None fits is in
      let first = started_is limits before start given (subst (λ (events : List Event). IsFirst events (completed before start) start) (sym node) (node_first before start)) in
      pieces limits false before start counted
      ∙ ap (λ k. at_line (start_line start) k (or_flaw (at_line (start_line start) (names_at limits false before start) None) (at_line (length before + 1) counted None))) is
      ∙ or_later (at_line (start_line start) (names_at limits false before start) None) (at_line (length before + 1) counted None) (Some (flaw_with many flaw))
      (λ quiet. own (at_line_none (start_line start) (names_at limits false before start) quiet))
      ∙ ap (λ first. or_flaw first (Some (flaw_with many flaw))) (sym first)

at_line_some : (line : ℕ) (a : Option FlawKind) (flaw : Flaw) → at_line line a None ≡ Some flaw → (it : FlawKind) × (a ≡ Some it) × (record { line = line; kind = it } ≡ flaw)
at_line_some line None flaw h = absurd (cc)
at_line_some line (Some it) flaw h = (it, refl, some_flaw (record { line = line; kind = it }) flaw h)

option_cases : {X : Type 0} (o : Option X) → (o ≡ None) ⊎ ((x : X) × (o ≡ Some x))
option_cases None = inl refl
option_cases (Some x) = inr (x, refl)

-- the flaw of a line that has one, names aside
pub line_refused : (limits : Limits) (before : List Line) (line : Line) (flaw : Flaw) (given : List Event) (own : NewNames) (error : BuildError) → AreFlawless limits before
    → line_flaw limits true before line ≡ Some flaw → given ≡ sound_node limits before (completed_start before line)
    → AddsNames (rows_of (steps_of_events (events_to before))) (own_rows line) own
    → ((all : Names) → Adds (table_names (rows_of (steps_of_events (events_to before)) ++ element_rows given)) own all
    → IsFlawOf (or_flaw (started_flaw limits (rows_of (steps_of_events (events_to before))) given (value_bytes before)) (Some (flaw_with (nat_lt limits.names all.count) flaw))) error)
    → IsFlawOf (line_flaw limits false before line) error
line_refused limits before line flaw given own error f h g added answer =
    let rows = rows_of (steps_of_events (events_to before)) in
    let start = completed_start before line in
    let fits : value_bytes before ≤ limits.text = omega (arith, IsIn.bytes (within limits before f)) in
    let all = names_of false (events_to (line ∷ before)) in
    let free = own_flaw limits free_names before line in
    elim (option_cases (start_flaw (bindings 0 before) (depth before) start)) [
      | inr p ↦
          let none : given ≡ [] = g ∙ handed limits before start (Some p.0) fits p.1 in
          let after = table_names (rows ++ own_rows line) in
          let adds : Adds (table_names (rows ++ element_rows given)) own after = subst (λ (more : List Row). Adds (table_names more) own after)
          (sym (append-nil rows) ∙ ap (λ (events : List Event). rows ++ element_rows events) (sym none)) (adds_of rows (own_rows line) own added) in
          subst (λ it. IsFlawOf it error) (sym (start_refused limits before start fits flaw given free (own_flaw limits all before line) p.0 (nat_lt limits.names after.count) p.1 h g))
          (answer after adds)
      | inl is ↦
          let node : given ≡ completed before start = g ∙ handed limits before start None fits is in
          let first : element_rows given ≡ node_rows (completed before start) = ap element_rows node ∙ IsFirst.rows (node_first before start) in
          let adds : Adds (table_names (rows ++ element_rows given)) own all = subst (λ (more : List Row). Adds (table_names (rows ++ more)) own all) (sym first) (own_adds before line own added) in
          let at = at_line_some (length before + 1) free flaw (own_at limits before start fits flaw given free is h) in
          let many = nat_lt limits.names all.count in
          let counted : names_at limits false before start ≡ None → at_line (length before + 1) (own_flaw limits all before line) None ≡ Some (flaw_with many flaw) = λ quiet.
          ap (λ k. at_line (length before + 1) k None) (own_refused limits before line all at.0 at.1 (λ plain. IsIn.count (all_in limits before line f is quiet plain)))
          ∙ ap (λ (it : Flaw). Some (flaw_with many it)) at.2 in
          subst (λ it. IsFlawOf it error) (sym (later_refused limits before start fits flaw given free (own_flaw limits all before line) many is h g counted)) (answer all adds)
    ]

-- likewise the input's end, which adds no name
pub end_refused : (limits : Limits) (before : List Line) (flaw : Flaw) (given : List Event) → AreFlawless limits before → end_flaw limits true before ≡ Some flaw
    → given ≡ sound_node limits before (pending_start before)
    → end_flaw limits false before ≡ or_flaw (started_flaw limits (rows_of (steps_of_events (events_to before))) given (value_bytes before)) (Some flaw)
end_refused limits before flaw given f h g =
    let start = pending_start before in
    let fits : value_bytes before ≤ limits.text = omega (arith, IsIn.bytes (within limits before f)) in
    let own = own_end_flaw before in
    let few : flaw_with false flaw ≡ flaw = ap (λ (k : FlawKind). record { line = flaw.line; kind = k }) (kind_few flaw.kind) in
    elim (option_cases (start_flaw (bindings 0 before) (depth before) start)) [
      | inr p ↦ start_refused limits before start fits flaw given own own p.0 false p.1 h g
          ∙ ap (λ (it : Flaw). or_flaw (started_flaw limits (rows_of (steps_of_events (events_to before))) given (value_bytes before)) (Some it)) few
      | inl is ↦ later_refused limits before start fits flaw given own own false is h g (λ quiet. own_at limits before start fits flaw given own is h ∙ ap (λ (it : Flaw). Some it) (sym few))
          ∙ ap (λ (it : Flaw). or_flaw (started_flaw limits (rows_of (steps_of_events (events_to before))) given (value_bytes before)) (Some it)) few
    ]

own_end_good : (before : List Line) → own_end_flaw before ≡ None → depth before ≡ 0
own_end_good before h = elim (cases_Bool (has_root before)) [
  | inr e ↦ let bad : Some kind.NoRoot ≡ None = rw e at h in absurd (cc)
  | inl e ↦ elim (cases_Bool (depth before == 0)) [
    | inl z ↦ eqb-true (depth before) 0 z
    | inr z ↦ let bad : Some kind.Unclosed ≡ None = rw (e, z) at h in absurd (cc)
  ]
]

-- a pending start is open
pending_open : (limits : Limits) (before : List Line) → AreFlawless limits before → is_some (pending_start before) ≡ true → 0 < depth before
pending_open limits [] f h = absurd (false≢true h)
pending_open limits (Start name ∷ before) f h = omega (arith, depth_start name before (IsBalanced.ends (balanced limits before f.1)))
pending_open limits (End name ∷ before) f h = absurd (false≢true h)
pending_open limits (Attr name value ∷ before) f h =
    omega (arith, depth_other (Attr name value) before refl refl, pending_open limits before f.1 (with_pending name value (pending_start before) h))
  where
    with_pending : (name value : List ℕ) (start : Option PendingStart) → is_some (with_attribute name value start) ≡ true → is_some start ≡ true
    with_pending name value None h = h
    with_pending name value (Some it) h = refl
pending_open limits (Text text ∷ before) f h = absurd (false≢true h)
pending_open limits (Instruction target value ∷ before) f h = absurd (false≢true h)
pending_open limits (Comment text ∷ before) f h = absurd (false≢true h)
pending_open limits (Passed ∷ before) f h = omega (arith, depth_other Passed before refl refl, pending_open limits before f.1 h)

none_pending : (start : Option PendingStart) → (is_some start ≡ true → ⊥) → start ≡ None
none_pending None h = refl
none_pending (Some it) h = absurd (h refl)

-- at the input's end nothing is open, and so no start is pending whose names could be a flaw
pub end_is_quiet : (limits : Limits) (free : Bool) (before : List Line) → AreFlawless limits before → end_flaw limits free before ≡ None → (depth before ≡ 0) × (pending_start before ≡ None)
end_is_quiet limits free before f h =
    let start = pending_start before in
    let later = no_first (start_line start) (completed_flaw limits free before start) (at_line (length before + 1) (own_end_flaw before) None) h in
    let shut = own_end_good before (at_line_none (length before + 1) (own_end_flaw before) later.1) in
    (shut, none_pending start (λ is. let some = pending_open limits before f is in omega (arith, some, shut)))

pub end_good : (limits : Limits) (before : List Line) → AreFlawless limits before → end_flaw limits true before ≡ None → end_flaw limits false before ≡ None
end_good limits before f h =
    let quiet = end_is_quiet limits true before f h in
    ap (λ start. in_order limits false before start (own_end_flaw before)) quiet.1
    ∙ sym (ap (λ start. in_order limits true before start (own_end_flaw before)) quiet.1) ∙ h

-- the same at a table's steps, and at what a builder counts
pub line_good_at : (limits : Limits) (before : List Line) (line : Line) (events : List Event) (steps : List Step) (text lines values : ℕ) → steps ≡ steps_of_events (events_to before)
    → text ≡ value_bytes before → lines ≡ length before
    → AreFlawless limits before → line_flaw limits true before line ≡ None → events ≡ line_events before line → IsJudged limits before line values
    → line_flaw limits false before line ≡ or_flaw (started_flaw limits (rows_of steps) events text) (at_line (lines + 1) (names_flaw limits (names_of false (events_to (line ∷ before))) values) None)
line_good_at limits before line events steps text lines values is bytes count f h e j =
    let own = names_flaw limits (names_of false (events_to (line ∷ before))) values in
    line_good limits before line events values f h e j
    ∙ ap (λ (n : ℕ). or_flaw (started_flaw limits (rows_of (steps_of_events (events_to before))) events (value_bytes before)) (at_line (n + 1) own None)) (sym count)
    ∙ ap (λ (n : ℕ). or_flaw (started_flaw limits (rows_of (steps_of_events (events_to before))) events n) (at_line (lines + 1) own None)) (sym bytes)
    ∙ ap (λ (all : List Step). or_flaw (started_flaw limits (rows_of all) events text) (at_line (lines + 1) own None)) (sym is)

pub line_refused_at : (limits : Limits) (before : List Line) (line : Line) (flaw : Flaw) (given : List Event) (own : NewNames) (error : BuildError) (steps : List Step) (text : ℕ)
    → steps ≡ steps_of_events (events_to before) → text ≡ value_bytes before
    → AreFlawless limits before → line_flaw limits true before line ≡ Some flaw → given ≡ sound_node limits before (completed_start before line) → AddsNames (rows_of steps) (own_rows line) own
    → ((all : Names) → Adds (table_names (rows_of steps ++ element_rows given)) own all
    → IsFlawOf (or_flaw (started_flaw limits (rows_of steps) given text) (Some (flaw_with (nat_lt limits.names all.count) flaw))) error)
    → IsFlawOf (line_flaw limits false before line) error
line_refused_at limits before line flaw given own error steps text is bytes f h g added answer =
    line_refused limits before line flaw given own error f h g (subst (λ (all : List Step). AddsNames (rows_of all) (own_rows line) own) is added)
    (λ all adds. subst (λ (it : List Step). IsFlawOf (or_flaw (started_flaw limits (rows_of it) given (value_bytes before)) (Some (flaw_with (nat_lt limits.names all.count) flaw))) error) is
    (subst (λ (n : ℕ). IsFlawOf (or_flaw (started_flaw limits (rows_of steps) given n) (Some (flaw_with (nat_lt limits.names all.count) flaw))) error) bytes
    (answer all (subst (λ (it : List Step). Adds (table_names (rows_of it ++ element_rows given)) own all) (sym is) adds))))

pub end_refused_at : (limits : Limits) (before : List Line) (flaw : Flaw) (given : List Event) (steps : List Step) (text : ℕ) → steps ≡ steps_of_events (events_to before) → text ≡ value_bytes before
    → AreFlawless limits before → end_flaw limits true before ≡ Some flaw → given ≡ sound_node limits before (pending_start before)
    → end_flaw limits false before ≡ or_flaw (started_flaw limits (rows_of steps) given text) (Some flaw)
end_refused_at limits before flaw given steps text is bytes f h g =
    end_refused limits before flaw given f h g
    ∙ ap (λ (n : ℕ). or_flaw (started_flaw limits (rows_of (steps_of_events (events_to before))) given n) (Some flaw)) (sym bytes)
    ∙ ap (λ (all : List Step). or_flaw (started_flaw limits (rows_of all) given text) (Some flaw)) (sym is)

-- what a line's values are judged by, as it is reckoned
min_capped : (n : ℕ) → min n 18446744073709551615 ≡ capped n
min_capped n = elim (cases_lt n 18446744073709551616) [
  | inl h ↦ omega arith ∙ sym (ap (λ b. cond b n 18446744073709551615) (is_over n 18446744073709551616 h))
  | inr h ↦ omega arith ∙ sym (ap (λ b. cond b n 18446744073709551615) (not_over n 18446744073709551616 h))
]

pub judged_by : (limits : Limits) (before : List Line) (line : Line) (text data_bytes given after values : ℕ) → limits.text < 4294967296 → text ≡ value_bytes before → data_bytes ≡ data_length line
    → given ≡ min (text + data_bytes) 18446744073709551615
    → after ≡ value_bytes (line ∷ before) → values ≡ cond (nat_lt after given) given after → IsJudged limits before line values
judged_by limits before line text data_bytes given after values small t d g a v = record {
  given = given;
  small = small;
  capped = g ∙ min_capped (text + data_bytes) ∙ ap₂ (λ m n. capped (m + n)) t d;
  larger = v ∙ ap (λ n. cond (nat_lt n given) given n) a;
}

or_flaw_none : (a b : Option Flaw) → a ≡ None → b ≡ None → or_flaw a b ≡ None
or_flaw_none a b h k = ap (λ x. or_flaw x b) h ∙ k

-- where neither is there, the line has no flaw
pub both_quiet : (a : Option Flaw) (line : ℕ) (k : Option FlawKind) → a ≡ None → k ≡ None → or_flaw a (at_line line k None) ≡ None
both_quiet a line k h q = or_flaw_none a (at_line line k None) h (ap (λ it. at_line line it None) q)
