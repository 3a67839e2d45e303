-- The element whose node stands first among events. The lines before are given with the latest first.
use Rattle.std.proofs.Common.{◌≡◌, ℕ, ◌+◌, ◌==◌, true, cond, List, [], ◌∷◌, ◌++◌, length, Option, Some, None, refl, ap, sym, ◌∙◌, inl, inr, append-nil, subst}
use Rattle.std.specs.Prelude.{slice_get}
use Rattle.std.proofs.lemmas.Bool.{cases_Bool, false≢true}
use Rattle.doc_model.specs.declared.flaw.FlawKind.{FlawKind}
use Rattle.doc_model.specs.declared.row.Row.{Row}
use Rattle.xml_names.specs.declared.scopes.Binding.{Binding}
use Rattle.pyx_lines.specs.declared.line.Line.{Line}
use Rattle.pyx_lines.specs.declared.line.Line.TheVariants.{Start, End, Attr, Text, Instruction, Comment, Passed}
use Rattle.pyx_events.specs.declared.event.Event.{Event}
use Rattle.pyx_events.specs.declared.event.Event.TheVariants.{Node, Shut}
use Rattle.pyx_events.specs.declared.pending_start.PendingStart.{PendingStart}
use Rattle.pyx_events.specs.Before.{completed_start, depth, pending_text, bindings, uris_to}
use Rattle.pyx_events.specs.Flaw.{at_line, if_pending, start_line}
use Rattle.pyx_events.specs.Nodes.{element_row, start_node, completed, plain_node, instruction_row, comment_row, text_node, ended_text, own_events, line_events, node_rows, attribute_rows}
use Rattle.pyx_events.specs.Numbered.{AreNodesNumbered}
use Rattle.node_writer.specs.declared.new_names.NewNames.{NewNames}
use Rattle.node_writer.specs.New.{AddsNames}
use Rattle.dtm_builder.specs.Judging.{table_names, Adds, is_element, element_rows, element_flaw}
use Rattle.dtm_builder.specs.Recalled.{IsNumbered}

none_some : {X : Type 0} (x : X) → None ≡ Some x → ⊥
none_some x h = cc

some_is : {X : Type 0} (x y : X) → Some x ≡ Some y → x ≡ y
some_is x y h = cc

pub at_first : (events : List Event) (x : Event) → slice_get events 0 ≡ Some x → (rest : List Event) × (events ≡ x ∷ rest)
at_first [] x h = absurd (none_some x h)
at_first (y ∷ rest) x h = (rest, ap (λ z. z ∷ rest) (some_is y x h))

pub rows_first : (events rest : List Event) (row : Row) (attributes : List Row) (declarations : List Binding) (uris : List ℕ) (line : ℕ)
    → events ≡ Node row attributes declarations uris line ∷ rest → is_element row.kind ≡ true → element_rows events ≡ row ∷ attributes
rows_first events rest row attributes declarations uris line e h = ap element_rows e ∙ ap (λ b. cond b (row ∷ attributes) []) h

pub flaw_first : (events rest : List Event) (row : Row) (attributes : List Row) (declarations : List Binding) (uris : List ℕ) (line : ℕ) (kind : Option FlawKind)
    → events ≡ Node row attributes declarations uris line ∷ rest → is_element row.kind ≡ true → element_flaw events kind ≡ at_line line kind None
flaw_first events rest row attributes declarations uris line kind e h = ap (λ all. element_flaw all kind) e ∙ ap (λ b. cond b (at_line line kind None) None) h

pub adds_of : (rows more : List Row) (new : NewNames) → AddsNames rows more new → Adds (table_names rows) new (table_names (rows ++ more))
adds_of rows more new a = record { count_added = a.count_added; bytes_added = a.bytes_added; all_counted = a.all_counted; all_bytes = a.all_bytes; count = a.count; bytes = a.bytes }

-- no element stands first
pub record HasNone (events : List Event) : Type 0 where
  pub rows : element_rows events ≡ []
  pub flaw : (kind : Option FlawKind) → element_flaw events kind ≡ None
  pub numbered : (uris : List (List ℕ)) → IsNumbered uris events

nothing : HasNone []
nothing = record { rows = refl; flaw = λ kind. refl; numbered = λ uris. tt }

text_none : (n line : ℕ) (text : List ℕ) (more : List Event) → HasNone more → HasNone (text_node n text line ++ more)
text_none n line text more h = elim (cases_Bool (length text == 0)) [
  | inl e ↦ rw e h
  | inr e ↦ rw e (record { rows = refl; flaw = λ kind. refl; numbered = λ uris is. absurd (false≢true is) })
]

own_none : (before : List Line) (line : Line) → HasNone (own_events before line)
own_none before (Start name) = subst HasNone (append-nil (ended_text before)) (text_none (depth before + 1) (length before + 1) (pending_text before) [] nothing)
own_none before (End name) = text_none (depth before + 1) (length before + 1) (pending_text before) (Shut ∷ []) (record { rows = refl; flaw = λ kind. refl; numbered = λ uris. tt })
own_none before (Attr name value) = nothing
own_none before (Text text) = nothing
own_none before (Instruction target value) =
    text_none (depth before + 1) (length before + 1) (pending_text before) (plain_node (instruction_row (depth before + 1) target value) (length before + 1) ∷ [])
    (record { rows = refl; flaw = λ kind. refl; numbered = λ uris is. absurd (false≢true is) })
own_none before (Comment text) =
    text_none (depth before + 1) (length before + 1) (pending_text before) (plain_node (comment_row (depth before + 1) text) (length before + 1) ∷ [])
    (record { rows = refl; flaw = λ kind. refl; numbered = λ uris is. absurd (false≢true is) })
own_none before Passed = nothing

-- the first of a line's events is the node of the start that it completes, if there is one
pub record IsFirst (events node : List Event) (start : Option PendingStart) : Type 0 where
  pub rows : element_rows events ≡ node_rows node
  pub flaw : (kind : Option FlawKind) → element_flaw events kind ≡ at_line (start_line start) (if_pending start kind) None
  pub numbered : (uris : List (List ℕ)) → AreNodesNumbered uris node → IsNumbered uris events

start_first : (uris : List (List ℕ)) (bound : List Binding) (deep : ℕ) (start : Option PendingStart) (more : List Event) → HasNone more
    → IsFirst (start_node uris bound deep start ++ more) (start_node uris bound deep start) start
start_first uris bound deep None more h = record { rows = h.rows; flaw = h.flaw; numbered = λ among are. h.numbered among }
start_first uris bound deep (Some it) more h =
    record {
      rows = ap (λ (rows : List Row). element_row bound deep it.name ∷ rows) (sym (append-nil (attribute_rows bound (deep + 1) it.attributes)));
      flaw =
          λ kind. refl;
      numbered = λ among are is. are.0;
    }

pub line_first : (before : List Line) (line : Line) → IsFirst (line_events before line) (completed before (completed_start before line)) (completed_start before line)
line_first before line = start_first (uris_to before) (bindings 0 before) (depth before) (completed_start before line) (own_events before line) (own_none before line)

pub node_first : (before : List Line) (start : Option PendingStart) → IsFirst (completed before start) (completed before start) start
node_first before start = subst (λ (events : List Event). IsFirst events (completed before start) start) (append-nil (completed before start))
    (start_first (uris_to before) (bindings 0 before) (depth before) start [] nothing)
