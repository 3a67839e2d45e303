-- The nodes and ends that lines give. The lines before are given with the latest first.
use Rattle.std.specs.Prelude.{ℕ, ◌+◌, List, [], ◌∷◌, ◌++◌, ◌==◌, if◌then◌else◌, length, map, Option, Some, None, unwrap_or}
use Rattle.std.specs.List.{flat_map}
use Rattle.std.specs.Option.{option_to_list}
use Rattle.doc_model.specs.declared.row.Kind.TheVariants as kind
use Rattle.doc_model.specs.declared.row.Row.{Row}
use Rattle.name_grammar.specs.Names.{prefix_of, local_of}
use Rattle.pyx_lines.specs.declared.line.Line.{Line}
use Rattle.pyx_lines.specs.declared.line.Line.TheVariants.{Start, End, Attr, Text, Instruction, Comment, Passed}
use Rattle.shared_texts.specs.Numbers.{number_in}
use Rattle.xml_names.specs.declared.scopes.Binding.{Binding}
use Rattle.xml_names.specs.Bindings.{unless_empty, uri_in}
use Rattle.pyx_events.specs.declared.event.Event.{Event}
use Rattle.pyx_events.specs.declared.event.Event.TheVariants.{Node, Shut}
use Rattle.pyx_events.specs.declared.pending_start.Attribute.{Attribute}
use Rattle.pyx_events.specs.declared.pending_start.PendingStart.{PendingStart}
use Rattle.pyx_events.specs.Before.{depth, completed_start, pending_text, is_declaration, binding_of, bindings, uris_to}

-- what these bindings, the latest first, bind the prefix to: the innermost counts, and an empty URI binds to nothing
abbrev pub resolve : List Binding → List ℕ → Option (List ℕ)
resolve bound prefix = unless_empty (uri_in prefix bound)

-- the URI of a prefix, empty where it is unbound
abbrev pub uri_of : List Binding → List ℕ → List ℕ
uri_of bound prefix = unwrap_or (resolve bound prefix) []

-- the URI of an attribute's prefix: the default namespace doesn't hold for attributes (Namespaces in XML 1.0, section 6.2)
abbrev pub attribute_uri : List Binding → List ℕ → List ℕ
attribute_uri bound prefix = if length prefix == 0 then [] else uri_of bound prefix

abbrev pub element_row : List Binding → ℕ → List ℕ → Row
element_row bound depth name = record { kind = kind.Element; prefix = prefix_of name; uri = uri_of bound (prefix_of name); local = local_of name; value = []; depth = depth }

abbrev pub attribute_row : List Binding → ℕ → Attribute → Row
attribute_row bound depth it = record { kind = kind.Attribute; prefix = prefix_of it.name; uri = attribute_uri bound (prefix_of it.name); local = local_of it.name; value = it.value; depth = depth }

abbrev pub text_row : ℕ → List ℕ → Row
text_row depth text = record { kind = kind.Text; prefix = []; uri = []; local = []; value = text; depth = depth }

abbrev pub instruction_row : ℕ → List ℕ → List ℕ → Row
instruction_row depth target value = record { kind = kind.Instruction; prefix = []; uri = []; local = target; value = value; depth = depth }

abbrev pub comment_row : ℕ → List ℕ → Row
comment_row depth text = record { kind = kind.Comment; prefix = []; uri = []; local = []; value = text; depth = depth }

-- the rows of the attribute lines that aren't declarations, in line order
abbrev pub attribute_rows : List Binding → ℕ → List Attribute → List Row
attribute_rows bound depth lines = flat_map (λ it. if is_declaration it.name then [] else attribute_row bound depth it ∷ []) lines

-- the bindings that attribute lines make, in line order
abbrev pub declarations : List Attribute → List Binding
declarations lines = flat_map (λ it. option_to_list (binding_of it.name it.value)) lines

-- the numbers of the URIs of rows
abbrev pub numbers_of : List (List ℕ) → List Row → List ℕ
numbers_of uris rows = map (λ row. number_in uris row.uri) rows

-- the node of a row and its attributes, with the numbers of their URIs among these
abbrev pub numbered_node : List (List ℕ) → Row → List Row → List Binding → ℕ → Event
numbered_node uris row attributes declared line = Node row attributes declared (numbers_of uris (row ∷ attributes)) line

-- the node of an element with these URIs known and these bindings in force, its own counted
abbrev pub element_node : List (List ℕ) → List Binding → ℕ → PendingStart → Event
element_node uris bound depth start =
    numbered_node uris (element_row bound depth start.name) (attribute_rows bound (depth + 1) start.attributes) (declarations start.attributes) start.line

-- the node of a row without a URI, which has no number
abbrev pub plain_node : Row → ℕ → Event
plain_node row line = Node row [] [] [] line

-- the node of a start, if there is one
abbrev pub start_node : List (List ℕ) → List Binding → ℕ → Option PendingStart → List Event
start_node uris bound depth None = []
start_node uris bound depth (Some start) = element_node uris bound depth start ∷ []

-- the node of a start that is completed after these lines
abbrev pub completed : List Line → Option PendingStart → List Event
completed before start = start_node (uris_to before) (bindings 0 before) (depth before) start

-- the node of a text that ends at this line; an empty text makes none
abbrev pub text_node : ℕ → List ℕ → ℕ → List Event
text_node depth text line = if length text == 0 then [] else plain_node (text_row depth text) line ∷ []

-- the node of the text that the next line ends
abbrev pub ended_text : List Line → List Event
ended_text before = text_node (depth before + 1) (pending_text before) (length before + 1)

-- what the line gives after the node of the start that it completes: the node of the text that it ends, and its own node or end
abbrev pub own_events : List Line → Line → List Event
own_events before (Start name) = ended_text before
own_events before (End name) = ended_text before ++ Shut ∷ []
own_events before (Attr name value) = []
own_events before (Text text) = []
own_events before (Instruction target value) = ended_text before ++ plain_node (instruction_row (depth before + 1) target value) (length before + 1) ∷ []
own_events before (Comment text) = ended_text before ++ plain_node (comment_row (depth before + 1) text) (length before + 1) ∷ []
own_events before Passed = []

-- what the line gives
abbrev pub line_events : List Line → Line → List Event
line_events before line = completed before (completed_start before line) ++ own_events before line

-- what the lines give
abbrev pub events_to : List Line → List Event
events_to [] = []
events_to (line ∷ before) = events_to before ++ line_events before line

-- the rows that an event gives, and those of events
abbrev pub event_rows : Event → List Row
event_rows (Node row attributes declarations uris line) = row ∷ attributes
event_rows Shut = []

abbrev pub node_rows : List Event → List Row
node_rows events = flat_map event_rows events
