-- What is recalled of the names of an element. The lines before are given with the latest first.
use Rattle.std.proofs.Common.{◌≡◌, ◌⊎◌, ℕ, zero, suc, ◌+◌, ◌-◌, ◌<◌, Bool, true, false, ◌||◌, ◌==◌, cond, List, [], ◌∷◌, ◌++◌, length, get_or}
use Rattle.std.proofs.Common.{Option, Some, None, refl, ap, sym, ◌∙◌, subst, arith, inl, inr, append-nil}
use Rattle.std.specs.Prelude.{slice_get, is_none, Result, Ok, Err, IfOk}
use Rattle.std.specs.List.{list_any}
use Rattle.std.proofs.lemmas.Bool.{cases_Bool, and_from, false≢true}
use Rattle.std.proofs.lemmas.Option.{same_Some, none-some, get_or_from_slice_get}
use Rattle.std.proofs.lemmas.Slice.Eq.{bytes_eq-Decides}
use Rattle.doc_model.specs.declared.flaw.FlawKind.{FlawKind}
use Rattle.doc_model.specs.declared.limits.Limits.{Limits}
use Rattle.doc_model.specs.declared.row.Kind.{Kind}
use Rattle.doc_model.specs.declared.row.Kind.TheVariants.{Element, Attribute}
use Rattle.doc_model.specs.declared.row.Row.{Row}
use Rattle.doc_model.specs.declared.step.Step.{Step}
use Rattle.doc_model.specs.Cells.{Cells}
use Rattle.doc_model.specs.Numbers.{kind_number}
use Rattle.doc_model.specs.Rows.{rows_of, rows_given}
use Rattle.doc_laws.proofs.Growth.{rows-append}
use Rattle.name_pool.specs.Known.{Index, Knows}
use Rattle.name_pool.specs.Names.{Name}
use Rattle.name_pool.specs.Numbers.{Keeps}
use Rattle.xml_names.specs.declared.scopes.Binding.{Binding}
use Rattle.pyx_lines.specs.declared.line.Line.{Line}
use Rattle.pyx_events.specs.declared.event.Event.{Event}
use Rattle.pyx_events.specs.declared.event.Event.TheVariants.{Node}
use Rattle.pyx_events.specs.declared.pending_start.Attribute as pending
use Rattle.pyx_events.specs.declared.pending_start.PendingStart.{PendingStart}
use Rattle.pyx_events.specs.Answer.{sound_node}
use Rattle.pyx_events.specs.Before.{completed_start, depth, is_declaration, bindings, uris_to}
use Rattle.pyx_events.specs.Counted.{same_expanded}
use Rattle.doc_model.specs.declared.flaw.FlawKind.TheVariants.{UnboundPrefix, DuplicateAttr}
use Rattle.name_grammar.specs.Names.{prefix_of}
use Rattle.pyx_events.specs.Flaw.{is_unbound, attribute_unbound, or_kind, repeats, start_flaw, completed_flaw, line_flaw, at_line}
use Rattle.doc_model.specs.declared.flaw.Flaw.{Flaw}
use Rattle.pyx_events.specs.Nodes.{element_row, attribute_rows, start_node, completed, event_rows, node_rows, line_events}
use Rattle.pyx_events.specs.Numbered.{AreNumbered}
use Rattle.pyx_events.proofs.Among.{completed_numbered}
use Rattle.pyx_events.proofs.Numbered.{numbered_at}
use Rattle.node_writer.specs.declared.writer.NodeWriter.{NodeWriter}
use Rattle.node_writer.specs.Known.{IsTypeIn, AreApart, AreKnown, AreFound, names_in}
use Rattle.node_writer.specs.Stands as writing
use Rattle.node_writer.specs.Taken.{name_of_row, names_from, names_of}
use Rattle.node_writer.proofs.Knowing.{names_kept, nothing_known, all_known}
use Rattle.node_writer.proofs.Taken.{names_from-append}
use Rattle.dtm_builder.specs.Judging.{element_rows, is_element}
use Rattle.dtm_builder.specs.Recalled.{IsRecalled, Recalls, IsNumbered, first_rows}
use Rattle.dtm_builder.proofs.Elements.{IsFirst, line_first, node_first}

-- the attributes of an element without a flaw have names of their own
any_at : (test : Row → Bool) (rows : List Row) (k : ℕ) (x : Row) → slice_get rows k ≡ Some x → test x ≡ true → list_any test rows ≡ true
any_at test [] k x h t = absurd (none-some x h)
any_at test (y ∷ rows) zero x h t = rw (ap test (same_Some y x h) ∙ t) refl
any_at test (y ∷ rows) (suc k) x h t = elim (cases_Bool (test y)) [
  | inl e ↦ rw e refl
  | inr e ↦ rw e (any_at test rows k x h t)
]

or_parts : (a b : Bool) → (a || b) ≡ false → (a ≡ false) × (b ≡ false)
or_parts true b h = absurd (false≢true (sym h))
or_parts false b h = (refl, h)

expanded_alike : (a b : Row) → name_of_row a ≡ name_of_row b → same_expanded a b ≡ true
expanded_alike a b h = and_from _ _ ((bytes_eq-Decides a.local b.local).1 (ap (λ (n : Name). n.local) h)) ((bytes_eq-Decides a.uri b.uri).1 (ap (λ (n : Name). n.uri) h))

distinct : (rows : List Row) → repeats rows ≡ false → AreApart rows
distinct [] none j k a b p q less same = none-some a p
distinct (row ∷ rows) none j zero a b p q less same = omega (arith, less)
distinct (row ∷ rows) none zero (suc k) a b p q less same =
    let first = (or_parts (list_any (same_expanded row) rows) (repeats rows) none).0 in
    false≢true (sym first ∙ any_at (same_expanded row) rows k b q (expanded_alike row b (ap name_of_row (same_Some row a p) ∙ same)))
distinct (row ∷ rows) none (suc j) (suc k) a b p q less same =
    distinct rows (or_parts (list_any (same_expanded row) rows) (repeats rows) none).1 j k a b p q (omega (arith, less)) same

abbrev AllAttributes : List Row → Type 0
AllAttributes [] = Unit {0}
AllAttributes (row ∷ rows) = (row.kind ≡ Attribute) × AllAttributes rows

are_attributes : (bound : List Binding) (deep : ℕ) (lines : List pending.Attribute) → AllAttributes (attribute_rows bound deep lines)
are_attributes bound deep [] = tt
are_attributes bound deep (it ∷ lines) = elim (cases_Bool (is_declaration it.name)) [
  | inl e ↦ rw e (are_attributes bound deep lines)
  | inr e ↦ rw e (refl, are_attributes bound deep lines)
]

is_attribute : (rows : List Row) (k : ℕ) (x : Row) → AllAttributes rows → slice_get rows k ≡ Some x → x.kind ≡ Attribute
is_attribute [] k x all h = absurd (none-some x h)
is_attribute (row ∷ rows) zero x all h = ap (λ (r : Row). r.kind) (sym (same_Some row x h)) ∙ all.0
is_attribute (row ∷ rows) (suc k) x all h = is_attribute rows k x all.1 h

first_apart : (row : Row) (rows : List Row) → row.kind ≡ Element → AllAttributes rows → AreApart rows → AreApart (row ∷ rows)
first_apart row rows element all apart j zero a b p q less same = omega (arith, less)
first_apart row rows element all apart zero (suc k) a b p q less same =
    let kinds : Element ≡ Attribute = sym element ∙ ap (λ (r : Row). r.kind) (same_Some row a p) ∙ ap (λ (n : Name). n.kind) same ∙ is_attribute rows k b all q in
    let numbers : 1 ≡ 2 = ap kind_number kinds in
    omega (arith, numbers)
first_apart row rows element all apart (suc j) (suc k) a b p q less same = apart j k a b p q (omega (arith, less)) same

third_good : (a b c : Bool) (one two three : FlawKind) → cond a (Some one) (cond b (Some two) (cond c (Some three) None)) ≡ None → c ≡ false
third_good true b c one two three h = absurd (cc)
third_good false true c one two three h = absurd (cc)
third_good false false true one two three h = absurd (cc)
third_good false false false one two three h = refl

start_apart : (uris : List (List ℕ)) (bound : List Binding) (deep : ℕ) (start : Option PendingStart) → start_flaw bound deep start ≡ None → AreApart (node_rows (start_node uris bound deep start))
start_apart uris bound deep None good = λ j k a b p. absurd (none-some a p)
start_apart uris bound deep (Some it) good =
    let rows = attribute_rows bound (deep + 1) it.attributes in
    subst (λ (all : List Row). AreApart (element_row bound deep it.name ∷ all)) (sym (append-nil rows))
    (first_apart (element_row bound deep it.name) rows refl (are_attributes bound (deep + 1) it.attributes)
    (distinct rows (third_good (is_unbound bound (prefix_of it.name)) (list_any (attribute_unbound bound) it.attributes) (repeats rows) UnboundPrefix UnboundPrefix DuplicateAttr good)))

-- what has to hold of events for what is recalled of them
pub record CanRecall (before : List Line) (events : List Event) : Type 0 where
  pub numbered : IsNumbered (uris_to before) events
  pub apart : AreApart (element_rows events)

no_first : (line : ℕ) (first : Option FlawKind) (later : Option Flaw) → at_line line first later ≡ None → first ≡ None
no_first line None later h = refl
no_first line (Some it) later h = absurd (cc)

no_kind : (first later : Option FlawKind) → or_kind first later ≡ None → first ≡ None
no_kind None later h = refl
no_kind (Some it) later h = absurd (cc)

is_nothing : (flaw : Option FlawKind) → is_none flaw ≡ true → flaw ≡ None
is_nothing None h = refl
is_nothing (Some it) h = absurd (false≢true h)

of_first : (before : List Line) (start : Option PendingStart) (events : List Event) → IsFirst events (completed before start) start
    → start_flaw (bindings 0 before) (depth before) start ≡ None → CanRecall before events
of_first before start events first good = record {
  numbered = first.numbered (uris_to before) (completed_numbered before start);
  apart = subst (λ (rows : List Row). AreApart rows) (sym first.rows) (start_apart (uris_to before) (bindings 0 before) (depth before) start good);
}

-- the events of a line without a flaw, names aside
pub line_can : (limits : Limits) (before : List Line) (line : Line) (events : List Event) → line_flaw limits true before line ≡ None → events ≡ line_events before line → CanRecall before events
line_can limits before line events good is =
    subst (λ (all : List Event). CanRecall before all) (sym is)
    (of_first before (completed_start before line) (line_events before line) (line_first before line) (no_kind _ _ (no_first _ _ _ good)))

-- what a refusal hands over
pub node_can : (limits : Limits) (before : List Line) (start : Option PendingStart) (events : List Event) → events ≡ sound_node limits before start → CanRecall before events
node_can limits before start events is = subst (λ (all : List Event). CanRecall before all) (sym is) (elim (cases_Bool (is_none (completed_flaw limits true before start))) [
  | inl e ↦ rw e (of_first before start (completed before start) (node_first before start) (no_kind _ _ (is_nothing _ e)))
  | inr e ↦ rw e (record { numbered = tt; apart = λ j k a b p. absurd (none-some a p) })
])

-- what is known of the rows of the event at a place
pub event_known : (names : List Name) (events : List Event) (k : ℕ) (x : Event) (known given : List (Option ℕ)) → k < length events → x ≡ get_or events k x → given ≡ cond (k == 0) known []
    → (k ≡ 0 → AreKnown 0 names (first_rows events) known) → AreKnown 0 names (event_rows x) given
event_known names [] k x known given within is which first = let no : ⊥ = omega (arith, within) in absurd no
event_known names (y ∷ events) zero x known given within is which first =
    subst (λ (it : Event). AreKnown 0 names (event_rows it) given) (sym is) (subst (λ (them : List (Option ℕ)). AreKnown 0 names (event_rows y) them) (sym which) (first refl))
event_known names (y ∷ events) (suc k) x known given within is which first =
    let other : (suc k == 0) ≡ false = grind arith in
    subst (λ (them : List (Option ℕ)). AreKnown 0 names (event_rows x) them) (sym (which ∙ ap (λ b. cond b known []) other)) (nothing_known 0 names (event_rows x))

-- what the index has is the type number of a row with that name
pub recalled_type : (uris : List (List ℕ)) (names : List Name) (row : Row) (number : ℕ) (local : List ℕ) (n : ℕ) → local ≡ row.local → IsRecalled uris names row.kind number local n
    → slice_get uris number ≡ Some row.uri
    → IsTypeIn names (name_of_row row) n
recalled_type uris names row number local n same it here =
    let uri : it.uri ≡ row.uri = same_Some it.uri row.uri (sym it.there ∙ here) in
    let name : record { kind = row.kind; uri = it.uri; local = local } ≡ name_of_row row = λ i. record { kind = row.kind; uri = uri i; local = same i } in
    subst (λ (x : Name). IsTypeIn names x n) name it.is

-- one more name is kept
pub kept_recalls : (uris : List (List ℕ)) (names : List Name) (old new : Index) (row : Row) (number : ℕ) (local : List ℕ) (known : ℕ) → local ≡ row.local → Recalls old uris names
    → slice_get uris number ≡ Some row.uri
    → IsTypeIn names (name_of_row row) known
    → ((k : Kind) (u : ℕ) (text : List ℕ) (n : ℕ) → Knows new k u text n → Knows old k u text n ⊎ ((k ≡ row.kind) × (u ≡ number) × (text ≡ local) × (n ≡ known)))
    → Recalls new uris names
kept_recalls uris names old new row number local known same recalls here is only k u text n knows = elim (only k u text n knows) [
  | inl before ↦ recalls k u text n before
  | inr put ↦
      let name : record { kind = k; uri = row.uri; local = text } ≡ name_of_row row = λ i. record { kind = put.0 i; uri = row.uri; local = (put.2 ∙ same) i } in
      record {
        uri = row.uri;
        there = ap (slice_get uris) put.1 ∙ here;
        is = subst (λ (m : ℕ). IsTypeIn names (record { kind = k; uri = row.uri; local = text }) m) (sym put.3) (subst (λ (x : Name). IsTypeIn names x known) (sym name) is);
      }
]

-- it stays so as more URIs and names come
pub recalls_still : (index : Index) (uris more : List (List ℕ)) (names all : List Name) → Keeps uris more → Keeps names all → Recalls index uris names → Recalls index more all
recalls_still index uris more names all keeps names_keep recalls kind number local n knows =
    let it = recalls kind number local n knows in
    record {
      uri = it.uri;
      there = keeps it.uri number it.there;
      is = (it.is.0, it.is.1, names_keep (record { kind = kind; uri = it.uri; local = local }) (n - 3) it.is.2);
    }

pub names_keep : (old new : NodeWriter) (limits later : Limits) (cells now : Cells) (more : List Step) → writing.Stands old limits cells → writing.Stands new later now
    → now.steps ≡ cells.steps ++ more → Keeps (names_in old) (names_in new)
names_keep old new limits later cells now more s t is x k h =
    let all : names_in new ≡ names_from (names_in old) (rows_given more) =
    t.names
    ∙ ap (λ (steps : List Step). names_of (rows_of steps)) is
    ∙ ap names_of (rows-append cells.steps more)
    ∙ names_from-append [] (rows_of cells.steps) (rows_given more)
    ∙ ap (λ (names : List Name). names_from names (rows_given more)) (sym s.names) in
    subst (λ (names : List Name). slice_get names k ≡ Some x) (sym all) (names_kept (names_in old) (rows_given more) x k h)

-- the number at a place is that of the URI of the row there
pub number_here : (uris : List (List ℕ)) (rows : List Row) (numbers : List ℕ) (k d : ℕ) (x : Row) → AreNumbered uris rows numbers → k < length rows → slice_get rows k ≡ Some x
    → slice_get uris (get_or numbers k d) ≡ Some x.uri
number_here uris rows numbers k d x are within here =
    let same : get_or rows k x ≡ x = get_or_from_slice_get rows k x x here in
    numbered_at uris rows numbers k x d are within ∙ ap (λ (r : Row). Some r.uri) same

pub node_numbered : (uris : List (List ℕ)) (events rest : List Event) (row : Row) (attributes : List Row) (declarations : List Binding) (numbers : List ℕ) (line : ℕ)
    → events ≡ Node row attributes declarations numbers line ∷ rest
    → is_element row.kind ≡ true → IsNumbered uris events → AreNumbered uris (row ∷ attributes) numbers
node_numbered uris events rest row attributes declarations numbers line e is numbered = subst (IsNumbered uris) e numbered is

pub ok_known : {E : Type 0} (names : List Name) (rows : List Row) (answer : Result (List (Option ℕ)) E) → IfOk answer (λ found. AreFound names rows found)
    → IfOk answer (λ found. AreKnown 0 names rows found)
ok_known names rows (Ok found) h = all_known names rows found h
ok_known names rows (Err e) h = tt
