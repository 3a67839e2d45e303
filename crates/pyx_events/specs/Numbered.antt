-- Rows with the numbers of their URIs.
use Rattle.std.specs.Prelude.{◌≡◌, ℕ, List, [], ◌∷◌, Some, slice_get}
use Rattle.doc_model.specs.declared.row.Row.{Row}
use Rattle.pyx_events.specs.declared.event.Event.{Event}
use Rattle.pyx_events.specs.declared.event.Event.TheVariants.{Node, Shut}

-- each row has its number, at which its URI stands
abbrev pub AreNumbered : List (List ℕ) → List Row → List ℕ → Type 0
AreNumbered uris [] [] = Unit {0}
AreNumbered uris [] (number ∷ numbers) = ⊥
AreNumbered uris (row ∷ rows) [] = ⊥
AreNumbered uris (row ∷ rows) (number ∷ numbers) = (slice_get uris number ≡ Some row.uri) × AreNumbered uris rows numbers

-- each node has the numbers of the URIs of its row and then of its attributes
abbrev pub AreNodesNumbered : List (List ℕ) → List Event → Type 0
AreNodesNumbered uris [] = Unit {0}
AreNodesNumbered uris (Node row attributes declarations numbers line ∷ events) = AreNumbered uris (row ∷ attributes) numbers × AreNodesNumbered uris events
AreNodesNumbered uris (Shut ∷ events) = AreNodesNumbered uris events
