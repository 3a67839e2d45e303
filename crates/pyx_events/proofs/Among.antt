-- The URIs of nodes stand among those that were bound so far, and these keep their numbers. The lines are given with the latest first.
use Rattle.std.proofs.Common.{◌≡◌, ◌||◌, ◌+◌, ◌==◌, ℕ, length, zero, suc, List, [], ◌∷◌, ◌++◌, true, Option, Some, None, refl, ap, sym, ◌∙◌, inl, inr}
use Rattle.std.specs.Prelude.{slice_get, unwrap_or}
use Rattle.std.specs.List.{list_any}
use Rattle.std.specs.Option.{option_to_list}
use Rattle.std.specs.Str.{bytes_eq}
use Rattle.std.specs.Cmp.Lexicographic.{bytes_decides}
use Rattle.std.proofs.lemmas.Bool.{cases_Bool, false≢true}
use Rattle.std.proofs.lemmas.Option.{same_Some, none-some}
use Rattle.doc_model.specs.declared.row.Row.{Row}
use Rattle.pyx_lines.specs.declared.line.Line.{Line}
use Rattle.pyx_lines.specs.declared.line.Line.TheVariants.{Start, End, Attr, Text, Instruction, Comment, Passed}
use Rattle.name_grammar.specs.Names.{prefix_of}
use Rattle.shared_texts.specs.Numbers.{Keeps, with_text, number_in}
use Rattle.xml_names.specs.declared.scopes.Binding.{Binding}
use Rattle.xml_names.specs.Bindings.{unless_empty}
use Rattle.pyx_events.specs.declared.pending_start.Attribute.{Attribute}
use Rattle.pyx_events.specs.declared.pending_start.PendingStart.{PendingStart}
use Rattle.pyx_events.specs.Before.{depth, is_declaration, binding_of, bindings, with_uri, uris_to}
use Rattle.pyx_events.specs.Nodes.{uri_of, attribute_uri, element_row, attribute_rows, numbers_of, completed}
use Rattle.pyx_events.specs.Numbered.{AreNumbered, AreNodesNumbered}

abbrev IsAmong : List (List ℕ) → List ℕ → Type 0
IsAmong uris text = (n : ℕ) × (slice_get uris n ≡ Some text)

-- a text stands at its number
at_number : (uris : List (List ℕ)) (text : List ℕ) (n : ℕ) → slice_get uris n ≡ Some text → slice_get uris (number_in uris text) ≡ Some text
at_number [] text n at = absurd (none-some text at)
at_number (first ∷ uris) text zero at = rw ((bytes_decides text first).1 (sym (same_Some first text at))) at
at_number (first ∷ uris) text (suc n) at = elim (cases_Bool (bytes_eq text first)) [
  | inl e ↦ rw e (ap (λ (x : List ℕ). Some x) (sym ((bytes_decides text first).0 e)))
  | inr e ↦ rw e (at_number uris text n at)
]

keeps_push : (uris : List (List ℕ)) (text : List ℕ) → Keeps uris (uris ++ text ∷ [])
keeps_push [] text x k at = absurd (none-some x at)
keeps_push (first ∷ uris) text x zero at = at
keeps_push (first ∷ uris) text x (suc k) at = keeps_push uris text x k at

last_at : (uris : List (List ℕ)) (text : List ℕ) → IsAmong (uris ++ text ∷ []) text
last_at [] text = (0, refl)
last_at (first ∷ uris) text = let rest = last_at uris text in (suc rest.0, rest.1)

found_at : (uris : List (List ℕ)) (text : List ℕ) → list_any (bytes_eq text) uris ≡ true → IsAmong uris text
found_at [] text any = absurd (false≢true any)
found_at (first ∷ uris) text any = elim (cases_Bool (bytes_eq text first)) [
  | inl e ↦ (0, ap (λ (x : List ℕ). Some x) (sym ((bytes_decides text first).0 e)))
  | inr e ↦
      let rest = found_at uris text (sym (ap (λ b. b || list_any (bytes_eq text) uris) e) ∙ any) in (suc rest.0, rest.1)
]

text_keeps : (uris : List (List ℕ)) (text : List ℕ) → Keeps uris (with_text uris text)
text_keeps uris text x k at = elim (cases_Bool (list_any (bytes_eq text) uris)) [
  | inl e ↦ rw e at
  | inr e ↦ rw e (keeps_push uris text x k at)
]

text_among : (uris : List (List ℕ)) (text : List ℕ) → IsAmong (with_text uris text) text
text_among uris text = elim (cases_Bool (list_any (bytes_eq text) uris)) [
  | inl e ↦ rw e (found_at uris text e)
  | inr e ↦ rw e (last_at uris text)
]

uri_keeps : (made : Option Binding) (uris : List (List ℕ)) → Keeps uris (with_uri made uris)
uri_keeps None uris x k at = at
uri_keeps (Some binding) uris x k at = text_keeps uris binding.uri x k at

pub line_keeps : (before : List Line) (line : Line) → Keeps (uris_to before) (uris_to (line ∷ before))
line_keeps before (Start name) x k at = at
line_keeps before (End name) x k at = at
line_keeps before (Attr name value) x k at = uri_keeps (binding_of name value) (uris_to before) x k at
line_keeps before (Text text) x k at = at
line_keeps before (Instruction target value) x k at = at
line_keeps before (Comment text) x k at = at
line_keeps before Passed x k at = at

empty_first : (before : List Line) → slice_get (uris_to before) 0 ≡ Some []
empty_first [] = refl
empty_first (line ∷ before) = line_keeps before line [] 0 (empty_first before)

abbrev AllAmong : List (List ℕ) → List Binding → Type 0
AllAmong uris [] = Unit {0}
AllAmong uris (binding ∷ bound) = IsAmong uris binding.uri × AllAmong uris bound

all_kept : (uris more : List (List ℕ)) (bound : List Binding) → Keeps uris more → AllAmong uris bound → AllAmong more bound
all_kept uris more [] keeps all = tt
all_kept uris more (binding ∷ bound) keeps all = ((all.0.0, keeps binding.uri all.0.0 all.0.1), all_kept uris more bound keeps all.1)

made_among : (made : Option Binding) (uris : List (List ℕ)) (bound : List Binding) → AllAmong uris bound → AllAmong (with_uri made uris) (option_to_list made ++ bound)
made_among None uris bound all = all
made_among (Some binding) uris bound all = (text_among uris binding.uri, all_kept uris (with_text uris binding.uri) bound (text_keeps uris binding.uri) all)

bound_among : (k : ℕ) (before : List Line) → AllAmong (uris_to before) (bindings k before)
bound_among zero [] = ((1, refl), tt)
bound_among (suc k) [] = tt
bound_among zero (Start name ∷ before) = bound_among zero before
bound_among (suc k) (Start name ∷ before) = bound_among k before
bound_among k (End name ∷ before) = bound_among (suc k) before
bound_among zero (Attr name value ∷ before) = made_among (binding_of name value) (uris_to before) (bindings zero before) (bound_among zero before)
bound_among (suc k) (Attr name value ∷ before) =
    all_kept (uris_to before) (with_uri (binding_of name value) (uris_to before)) (bindings (suc k) before) (uri_keeps (binding_of name value) (uris_to before)) (bound_among (suc k) before)
bound_among k (Text text ∷ before) = bound_among k before
bound_among k (Instruction target value ∷ before) = bound_among k before
bound_among k (Comment text ∷ before) = bound_among k before
bound_among k (Passed ∷ before) = bound_among k before

unless_empty_among : (uris : List (List ℕ)) (uri : List ℕ) → IsAmong uris [] → IsAmong uris uri → IsAmong uris (unwrap_or (unless_empty (Some uri)) [])
unless_empty_among uris [] empty among = empty
unless_empty_among uris (b ∷ uri) empty among = among

resolved_among : (uris : List (List ℕ)) (bound : List Binding) (prefix : List ℕ) → IsAmong uris [] → AllAmong uris bound → IsAmong uris (uri_of bound prefix)
resolved_among uris [] prefix empty all = empty
resolved_among uris (binding ∷ bound) prefix empty all = elim (cases_Bool (bytes_eq binding.prefix prefix)) [
  | inl e ↦ rw e (unless_empty_among uris binding.uri empty all.0)
  | inr e ↦ rw e (resolved_among uris bound prefix empty all.1)
]

attribute_among : (uris : List (List ℕ)) (bound : List Binding) (prefix : List ℕ) → IsAmong uris [] → AllAmong uris bound → IsAmong uris (attribute_uri bound prefix)
attribute_among uris bound prefix empty all = elim (cases_Bool (length prefix == 0)) [
  | inl e ↦ rw e empty
  | inr e ↦ rw e (resolved_among uris bound prefix empty all)
]

one_numbered : (uris : List (List ℕ)) (row : Row) (rows : List Row) → IsAmong uris row.uri → AreNumbered uris rows (numbers_of uris rows) → AreNumbered uris (row ∷ rows) (numbers_of uris (row ∷ rows))
one_numbered uris row rows among rest = (at_number uris row.uri among.0 among.1, rest)

attributes_numbered : (uris : List (List ℕ)) (bound : List Binding) (deep : ℕ) (lines : List Attribute) → IsAmong uris [] → AllAmong uris bound
    → AreNumbered uris (attribute_rows bound deep lines) (numbers_of uris (attribute_rows bound deep lines))
attributes_numbered uris bound deep [] empty all = tt
attributes_numbered uris bound deep (it ∷ lines) empty all = elim (cases_Bool (is_declaration it.name)) [
  | inl e ↦ rw e (attributes_numbered uris bound deep lines empty all)
  | inr e ↦ rw e (
    at_number uris _ (attribute_among uris bound (prefix_of it.name) empty all).0
        (attribute_among uris bound (prefix_of it.name) empty all).1,
    attributes_numbered uris bound deep lines empty all,
  )
]

-- the node of a start that is completed has the numbers of its URIs
pub completed_numbered : (before : List Line) (start : Option PendingStart) → AreNodesNumbered (uris_to before) (completed before start)
completed_numbered before None = tt
completed_numbered before (Some it) =
    let uris = uris_to before in
    let bound = bindings 0 before in
    let empty : IsAmong uris [] = (0, empty_first before) in
    let all = bound_among 0 before in (
      one_numbered uris (element_row bound (depth before) it.name) (attribute_rows bound (depth before + 1) it.attributes) (resolved_among uris bound (prefix_of it.name) empty all)
          (attributes_numbered uris bound (depth before + 1) it.attributes empty all),
      tt,
    )
