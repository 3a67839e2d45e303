-- The elements and texts of a stylesheet, by the events that its lines give. The elements that are open at an event are given with the innermost first, and the count is that of the scopes before it.
use Rattle.std.specs.Prelude.{ℕ, ◌+◌, List, [], ◌∷◌, ◌++◌, Bool, false, ◌&&◌, ◌||◌, not, if◌then◌else◌, length, codes, Option, Some, None, Result, Ok, Err}
use Rattle.std.specs.List.{flat_map, list_all}
use Rattle.std.specs.Str.{bytes_eq}
use Rattle.doc_model.specs.declared.row.Row.{Row}
use Rattle.doc_model.specs.declared.flaw.Flaw.{Flaw}
use Rattle.doc_model.specs.declared.limits.Limits.{Limits}
use Rattle.doc_model.specs.Strip.{is_element, is_text, is_white}
use Rattle.xml_names.specs.declared.scopes.Binding.{Binding}
use Rattle.pyx_lines.specs.declared.line.Line.{Line}
use Rattle.pyx_lines.specs.Lines.{Refusal, judged_lines}
use Rattle.pyx_events.specs.declared.event.Event.{Event}
use Rattle.pyx_events.specs.declared.event.Event.TheVariants as event
use Rattle.pyx_events.specs.Flaw.{flaw_free_of}
use Rattle.pyx_events.specs.Nodes.{line_events}
use Rattle.sheet_elements.specs.Names.{is_xsl}
use Rattle.sheet_scopes.specs.declared.scope.ScopeEntry.{ScopeEntry}
use Rattle.sheet_source.specs.declared.tree.Start.{Start}
use Rattle.sheet_source.specs.declared.tree.Node.{Node}
use Rattle.sheet_source.specs.declared.tree.Node.TheVariants as node
use Rattle.sheet_source.specs.declared.tree.Element.{Element}
use Rattle.sheet_source.specs.declared.tree.Document.{Document}
use Rattle.sheet_source.specs.Scopes.{entries_of, scope_of, innermost}

-- whether the innermost element is xsl:text
abbrev pub in_text : List Start → Bool
in_text [] = false
in_text (start ∷ stack) = is_xsl start.row.uri && bytes_eq start.row.local (codes "text")

-- a text that stays: whitespace texts are dropped except in xsl:text (XSLT 1.0, section 3.4)
abbrev pub keeps : List Start → Row → Bool
keeps stack row = is_text row.kind && (not (list_all is_white row.value) || in_text stack)

abbrev pub start_of : List Start → ℕ → Row → List Row → List Binding → ℕ → Start
start_of stack count row attributes declared line =
    record { line = line; row = row; attributes = attributes; declarations = declared; scope = scope_of (innermost stack) count declared }

-- an element that nothing stands in yet
abbrev pub opened : Start → Element
opened start = record { start = start; children = [] }

-- the elements around the innermost
abbrev pub around : List Start → List Start
around [] = []
around (start ∷ stack) = stack

-- a node in front of the first list
abbrev pub in_front : Node → List (List Node) → List (List Node)
in_front n [] = (n ∷ []) ∷ []
in_front n (nodes ∷ lists) = (n ∷ nodes) ∷ lists

-- the first list is an element's content
abbrev pub enclosed : Start → List (List Node) → List (List Node)
enclosed start [] = in_front (node.Element (opened start)) []
enclosed start (nodes ∷ lists) = in_front (node.Element (record { start = start; children = nodes })) lists

-- what these events add to each element that is open before them, the innermost first, and last to what stands outside of all
abbrev pub nodes_from : List Start → ℕ → List Event → List (List Node)
nodes_from stack count [] = [] ∷ []
nodes_from stack count (event.Shut ∷ events) = [] ∷ nodes_from (around stack) count events
nodes_from stack count (event.Node row attributes declared uris line ∷ events) =
    if is_element row.kind then enclosed (start_of stack count row attributes declared line)
    (nodes_from (start_of stack count row attributes declared line ∷ stack) (count + length declared) events) else
    if keeps stack row then in_front (node.Text row.value) (nodes_from stack count events) else
    nodes_from stack count events

-- the scopes that these events add
abbrev pub scopes_from : List Start → ℕ → List Event → List ScopeEntry
scopes_from stack count [] = []
scopes_from stack count (event.Shut ∷ events) = scopes_from (around stack) count events
scopes_from stack count (event.Node row attributes declared uris line ∷ events) =
    if is_element row.kind then entries_of (innermost stack) count declared
    ++ scopes_from (start_of stack count row attributes declared line ∷ stack) (count + length declared) events else
    scopes_from stack count events

-- what all events of a source give
abbrev pub document_of : List Event → Document
document_of events = record { nodes = flat_map (λ more. more) (nodes_from [] 0 events); scopes = scopes_from [] 0 events }

-- the limits of a stylesheet's lines: rows, bytes of text, and no names
abbrev pub sheet_limits : Limits
sheet_limits = record { rows = 200000; text = 8388608; names = 0 }

abbrev pub unless_flawed : Option Flaw → Document → Result Document Flaw
unless_flawed None document = Ok document
unless_flawed (Some flaw) document = Err flaw

-- the events that lines give after those before them, the latest first
abbrev pub events_from : List Line → List (Result Line Refusal) → List Event
events_from before [] = []
events_from before (Err refusal ∷ lines) = []
events_from before (Ok line ∷ lines) = line_events before line ++ events_from (line ∷ before) lines

-- what the bytes of a stylesheet give: the first flaw of its lines, or else its elements
unfoldable pub source_of : List ℕ → Result Document Flaw
source_of bytes = unless_flawed (flaw_free_of sheet_limits bytes) (document_of (events_from [] (judged_lines bytes)))
