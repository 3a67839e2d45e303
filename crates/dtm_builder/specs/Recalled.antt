-- What is kept of the names that were looked up, by the numbers of their URIs.
use Rattle.std.specs.Prelude.{◌≡◌, ℕ, true, ⊤, List, [], ◌∷◌, Some, slice_get}
use Rattle.doc_model.specs.declared.row.Kind.{Kind}
use Rattle.doc_model.specs.declared.row.Row.{Row}
use Rattle.name_pool.specs.Known.{Index, Knows}
use Rattle.name_pool.specs.Names.{Name}
use Rattle.node_writer.specs.Known.{IsTypeIn}
use Rattle.pyx_events.specs.declared.event.Event.{Event}
use Rattle.pyx_events.specs.declared.event.Event.TheVariants.{Node, Shut}
use Rattle.pyx_events.specs.Nodes.{event_rows}
use Rattle.pyx_events.specs.Numbered.{AreNumbered}
use Rattle.dtm_builder.specs.Judging.{is_element}

-- this is the type number, among these names, of the name with the URI of this number among these URIs
pub record IsRecalled (uris : List (List ℕ)) (names : List Name) (kind : Kind) (number : ℕ) (local : List ℕ) (n : ℕ) : Type 0 where
  pub uri : List ℕ
  pub there : slice_get uris number ≡ Some uri
  pub is : IsTypeIn names (record { kind = kind; uri = uri; local = local }) n

-- each type number that the index has is that of its name
abbrev pub Recalls : Index → List (List ℕ) → List Name → Type 0
Recalls index uris names = (kind : Kind) (number : ℕ) (local : List ℕ) (n : ℕ) → Knows index kind number local n → IsRecalled uris names kind number local n

-- the rows of the first event, if there is one
abbrev pub first_rows : List Event → List Row
first_rows [] = []
first_rows (event ∷ events) = event_rows event

-- the element whose node stands first among the events, if one does, has the numbers of its URIs
abbrev pub IsNumbered : List (List ℕ) → List Event → Type 0
IsNumbered uris [] = ⊤
IsNumbered uris (Node row attributes declarations numbers line ∷ events) = is_element row.kind ≡ true → AreNumbered uris (row ∷ attributes) numbers
IsNumbered uris (Shut ∷ events) = ⊤
