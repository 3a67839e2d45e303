-- What is to become of the open elements with the events still to come.
use Rattle.std.specs.Prelude.{◌≡◌, ℕ, List, [], ◌∷◌, ◌++◌, length, map, reverse}
use Rattle.std.specs.List.{flat_map}
use Rattle.pyx_events.specs.declared.event.Event.{Event}
use Rattle.sheet_scopes.specs.declared.scope.ScopeEntry.{ScopeEntry}
use Rattle.sheet_source.specs.declared.tree.Start.{Start}
use Rattle.sheet_source.specs.declared.tree.Node.{Node}
use Rattle.sheet_source.specs.declared.tree.Node.TheVariants as node
use Rattle.sheet_source.specs.declared.tree.Element.{Element}
use Rattle.sheet_source.specs.declared.tree.Document.{Document}
use Rattle.sheet_source.specs.declared.building.Building.{Building}
use Rattle.sheet_source.specs.Nodes.{in_front, nodes_from, scopes_from}

-- the starts of open elements, of which the innermost stands last, with the innermost first
abbrev pub starts_of : List Element → List Start
starts_of stack = map (λ (e : Element). e.start) (reverse stack)

abbrev pub with_children : Element → List Node → Element
with_children e nodes = record { start = e.start; children = e.children ++ nodes }

-- what stands outside of all elements once each of these, the innermost first, has got its list and is shut
abbrev pub shut_all : List Node → List Element → List (List Node) → List Node
shut_all nodes [] lists = nodes ++ flat_map (λ more. more) lists
shut_all nodes (e ∷ stack) [] = shut_all nodes stack (in_front (node.Element e) [])
shut_all nodes (e ∷ stack) (more ∷ lists) = shut_all nodes stack (in_front (node.Element (with_children e more)) lists)

-- what is to become of these with the events still to come; the open elements are given with the innermost first
abbrev pub whole : List Node → List Element → List ScopeEntry → ℕ → List Event → Document
whole nodes stack scopes count events = record {
  nodes = shut_all nodes stack (nodes_from (map (λ (e : Element). e.start) stack) count events);
  scopes = scopes ++ scopes_from (map (λ (e : Element). e.start) stack) count events;
}

abbrev pub completed : Building → List Event → Document
completed it events = whole it.nodes (reverse it.stack) it.scopes (length it.scopes) events

-- a node was added to the innermost open element, or outside of all
pub record Adds (n : Node) (old new : Building) : Type 0 where
  pub added : (lists : List (List Node)) → shut_all new.nodes (reverse new.stack) lists ≡ shut_all old.nodes (reverse old.stack) (in_front n lists)
  pub starts : starts_of new.stack ≡ starts_of old.stack
  pub deep : length new.stack ≡ length old.stack
  pub scopes : new.scopes ≡ old.scopes
