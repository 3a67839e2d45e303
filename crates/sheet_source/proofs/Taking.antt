-- What becomes of the open element with one more event.
use Rattle.std.proofs.Common.{◌≡◌, refl, sym, ap, ◌∙◌, ℕ, suc, ◌+◌, List, [], ◌∷◌, ◌++◌, true, false, length, length-append, map, append_assoc, append-nil}
use Rattle.std.specs.Prelude.{reverse}
use Rattle.std.specs.List.{flat_map}
use Rattle.std.proofs.lemmas.List.{reverse-append}
use Rattle.doc_model.specs.declared.row.Row.{Row}
use Rattle.doc_model.specs.Strip.{is_element}
use Rattle.xml_names.specs.declared.scopes.Binding.{Binding}
use Rattle.pyx_events.specs.declared.event.Event.{Event}
use Rattle.pyx_events.specs.declared.event.Event.TheVariants as event
use Rattle.sheet_scopes.specs.declared.scope.ScopeEntry.{ScopeEntry}
use Rattle.sheet_source.specs.declared.tree.Start.{Start}
use Rattle.sheet_source.specs.declared.tree.Node.{Node}
use Rattle.sheet_source.specs.declared.tree.Node.TheVariants as node
use Rattle.sheet_source.specs.declared.tree.Element.{Element}
use Rattle.sheet_source.specs.declared.building.Building.{Building}
use Rattle.sheet_source.specs.Nodes.{in_front, enclosed, opened, start_of, keeps, nodes_from, scopes_from}
use Rattle.sheet_source.specs.Scopes.{entries_of, innermost}
use Rattle.sheet_source.specs.Building.{starts_of, with_children, shut_all, whole, completed, Adds}

abbrev starts : List Element → List Start
starts stack = map (λ (e : Element). e.start) stack

-- the last is the first of the reversed
pub last_first : (stack : List Element) (e : Element) → reverse (stack ++ e ∷ []) ≡ e ∷ reverse stack
last_first stack e = reverse-append stack (e ∷ [])

pub adds_inside : (nodes : List Node) (stack : List Element) (e : Element) (n : Node) (lists : List (List Node))
    → shut_all nodes (with_children e (n ∷ []) ∷ stack) lists ≡ shut_all nodes (e ∷ stack) (in_front n lists)
adds_inside nodes stack e n [] = refl
adds_inside nodes stack e n (more ∷ lists) =
    ap (λ (children : List Node). shut_all nodes stack (in_front (node.Element (record { start = e.start; children = children })) lists)) (append_assoc e.children (n ∷ []) more)

pub adds_outside : (nodes : List Node) (n : Node) (lists : List (List Node)) → shut_all (nodes ++ n ∷ []) [] lists ≡ shut_all nodes [] (in_front n lists)
adds_outside nodes n [] = append_assoc nodes (n ∷ []) []
adds_outside nodes n (more ∷ lists) = append_assoc nodes (n ∷ []) (more ++ flat_map (λ more. more) lists)

encloses : (nodes : List Node) (stack : List Element) (start : Start) (lists : List (List Node)) → shut_all nodes (opened start ∷ stack) lists ≡ shut_all nodes stack (enclosed start lists)
encloses nodes stack start [] = refl
encloses nodes stack start (more ∷ lists) = refl

-- an element begins
opened_event : (nodes : List Node) (stack : List Element) (scopes : List ScopeEntry) (count : ℕ) (row : Row) (attributes : List Row) (declared : List Binding) (uris : List ℕ)
    (line : ℕ) (events : List Event)
    → is_element row.kind ≡ true
    → whole nodes (opened (start_of (starts stack) count row attributes declared line) ∷ stack) (scopes ++ entries_of (innermost (starts stack)) count declared) (count + length declared) events
    ≡ whole nodes stack scopes count (event.Node row attributes declared uris line ∷ events)
opened_event nodes stack scopes count row attributes declared uris line events is = rw is (
    ap (λ (all : List Node). record {
      nodes = all;
      scopes = (scopes ++ entries_of (innermost (starts stack)) count declared)
          ++ scopes_from (start_of (starts stack) count row attributes declared line ∷ starts stack) (count + length declared) events;
    }) (encloses nodes stack (start_of (starts stack) count row attributes declared line)
    (nodes_from (start_of (starts stack) count row attributes declared line ∷ starts stack) (count + length declared) events))
    ∙ ap (λ (all : List ScopeEntry). record {
      nodes = shut_all nodes stack (enclosed (start_of (starts stack) count row attributes declared line)
          (nodes_from (start_of (starts stack) count row attributes declared line ∷ starts stack) (count + length declared) events));
      scopes = all;
    }) (append_assoc scopes (entries_of (innermost (starts stack)) count declared)
    (scopes_from (start_of (starts stack) count row attributes declared line ∷ starts stack) (count + length declared) events)))

-- each declaration gives an entry
pub entry_each : (outer count : ℕ) (declared : List Binding) → length (entries_of outer count declared) ≡ length declared
entry_each outer count [] = refl
entry_each outer count (binding ∷ declared) = ap suc (entry_each (count + 1) (count + 1) declared)

pub opens : (old new : Building) (row : Row) (attributes : List Row) (declared : List Binding) (uris : List ℕ) (line : ℕ) (events : List Event) → is_element row.kind ≡ true
    → new.stack ≡ old.stack ++ opened (start_of (starts_of old.stack) (length old.scopes) row attributes declared line) ∷ []
    → new.scopes ≡ old.scopes ++ entries_of (innermost (starts_of old.stack)) (length old.scopes) declared
    → new.nodes ≡ old.nodes
    → completed new events ≡ completed old (event.Node row attributes declared uris line ∷ events)
opens old new row attributes declared uris line events is stack scopes nodes =
    let start = start_of (starts_of old.stack) (length old.scopes) row attributes declared line in
    let entries = entries_of (innermost (starts_of old.stack)) (length old.scopes) declared in
    let count : length new.scopes ≡ length old.scopes + length declared =
    ap (λ (all : List ScopeEntry). length all) scopes ∙ length-append old.scopes entries ∙ ap (λ (n : ℕ). length old.scopes + n) (entry_each _ _ declared) in
    let within : reverse new.stack ≡ opened start ∷ reverse old.stack = ap (λ (all : List Element). reverse all) stack ∙ last_first old.stack (opened start) in
    ap (λ (all : List Node). whole all (reverse new.stack) new.scopes (length new.scopes) events) nodes
    ∙ ap (λ (all : List Element). whole old.nodes all new.scopes (length new.scopes) events) within
    ∙ ap (λ (n : ℕ). whole old.nodes (opened start ∷ reverse old.stack) new.scopes n events) count
    ∙ ap (λ (all : List ScopeEntry). whole old.nodes (opened start ∷ reverse old.stack) all (length old.scopes + length declared) events) scopes
    ∙ opened_event old.nodes (reverse old.stack) old.scopes (length old.scopes) row attributes declared uris line events is

-- with a node added, what the events to come make is what they make behind it
added : (n : Node) (old new : Building) (events : List Event) → Adds n old new
    → completed new events ≡ record {
      nodes = shut_all old.nodes (reverse old.stack) (in_front n (nodes_from (starts_of old.stack) (length old.scopes) events));
      scopes = old.scopes ++ scopes_from (starts_of old.stack) (length old.scopes) events;
    }
added n old new events adds =
    ap (λ (all : List Start). record {
      nodes = shut_all new.nodes (reverse new.stack) (nodes_from all (length new.scopes) events);
      scopes = new.scopes ++ scopes_from all (length new.scopes) events;
    }) adds.starts
    ∙ ap (λ (all : List ScopeEntry). record {
      nodes = shut_all new.nodes (reverse new.stack) (nodes_from (starts_of old.stack) (length all) events);
      scopes = all ++ scopes_from (starts_of old.stack) (length all) events;
    }) adds.scopes
    ∙ ap (λ (all : List Node). record {
      nodes = all;
      scopes = old.scopes ++ scopes_from (starts_of old.stack) (length old.scopes) events;
    }) (adds.added (nodes_from (starts_of old.stack) (length old.scopes) events))

-- a text that stays
pub text_event : (old new : Building) (row : Row) (attributes : List Row) (declared : List Binding) (uris : List ℕ) (line : ℕ) (events : List Event)
    → is_element row.kind ≡ false → keeps (starts_of old.stack) row ≡ true → Adds (node.Text row.value) old new
    → completed new events ≡ completed old (event.Node row attributes declared uris line ∷ events)
text_event old new row attributes declared uris line events other stays adds = rw (other, stays) (added (node.Text row.value) old new events adds)

-- any other row
pub other_event : (it : Building) (row : Row) (attributes : List Row) (declared : List Binding) (uris : List ℕ) (line : ℕ) (events : List Event)
    → is_element row.kind ≡ false → keeps (starts_of it.stack) row ≡ false
    → completed it events ≡ completed it (event.Node row attributes declared uris line ∷ events)
other_event it row attributes declared uris line events other goes = rw (other, goes) refl

nothing_more : (e : Element) → with_children e [] ≡ e
nothing_more e = ap (λ (children : List Node). record { start = e.start; children = children }) (append-nil e.children)

-- the innermost element ends
pub shut_event : (old mid new : Building) (e : Element) (events : List Event) → old.stack ≡ mid.stack ++ e ∷ [] → mid.nodes ≡ old.nodes → mid.scopes ≡ old.scopes
    → Adds (node.Element e) mid new → completed new events ≡ completed old (event.Shut ∷ events)
shut_event old mid new e events stack nodes scopes adds =
    let within : reverse old.stack ≡ e ∷ reverse mid.stack = ap (λ (all : List Element). reverse all) stack ∙ last_first mid.stack e in
    added (node.Element e) mid new events adds
    ∙ ap (λ (it : Element). record {
      nodes = shut_all mid.nodes (reverse mid.stack) (in_front (node.Element it) (nodes_from (starts_of mid.stack) (length mid.scopes) events));
      scopes = mid.scopes ++ scopes_from (starts_of mid.stack) (length mid.scopes) events;
    }) (sym (nothing_more e))
    ∙ ap (λ (all : List Node). whole all (e ∷ reverse mid.stack) mid.scopes (length mid.scopes) (event.Shut ∷ events)) nodes
    ∙ ap (λ (all : List ScopeEntry). whole old.nodes (e ∷ reverse mid.stack) all (length all) (event.Shut ∷ events)) scopes
    ∙ ap (λ (all : List Element). whole old.nodes all old.scopes (length old.scopes) (event.Shut ∷ events)) (sym within)

-- no element is open
pub none_shut : (it : Building) (events : List Event) → it.stack ≡ [] → completed it events ≡ completed it (event.Shut ∷ events)
none_shut it events none =
    let inner : reverse it.stack ≡ [] = ap (λ (all : List Element). reverse all) none in
    ap (λ (all : List Element). whole it.nodes all it.scopes (length it.scopes) events) inner
    ∙ ap (λ (all : List Element). whole it.nodes all it.scopes (length it.scopes) (event.Shut ∷ events)) (sym inner)

unclosed : (nodes : List Node) (stack : List Element) (scopes : List ScopeEntry) (count : ℕ) → whole nodes stack scopes count (event.Shut ∷ []) ≡ whole nodes stack scopes count []
unclosed nodes [] scopes count = refl
unclosed nodes (e ∷ stack) scopes count = refl

-- at the end an element that is open may as well be shut
pub shut_at_end : (it : Building) → completed it (event.Shut ∷ []) ≡ completed it []
shut_at_end it = unclosed it.nodes (reverse it.stack) it.scopes (length it.scopes)

pub all_shut : (it : Building) → it.stack ≡ [] → record { nodes = it.nodes; scopes = it.scopes } ≡ completed it []
all_shut it none =
    let inner : reverse it.stack ≡ [] = ap (λ (all : List Element). reverse all) none in
    ap (λ (all : List Node). record { nodes = all; scopes = it.scopes }) (sym (append-nil it.nodes))
    ∙ ap (λ (all : List ScopeEntry). record { nodes = it.nodes ++ []; scopes = all }) (sym (append-nil it.scopes))
    ∙ ap (λ (all : List Element). whole it.nodes all it.scopes (length it.scopes) []) (sym inner)
