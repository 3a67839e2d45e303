-- What is open, pending, bound and counted after some lines, each counted anew on them. The lines are given with the latest first.
use Rattle.std.specs.Prelude.{ℕ, zero, suc, ◌+◌, ◌-◌, List, [], ◌∷◌, ◌++◌, Bool, true, false, ◌&&◌, ◌==◌, not, if◌then◌else◌, length, Option, Some, None, count_by, is_some, codes}
use Rattle.std.specs.List.{list_any}
use Rattle.std.specs.Option.{option_to_list}
use Rattle.std.specs.Str.{bytes_eq}
use Rattle.name_grammar.specs.Names.{prefix_of, local_of}
use Rattle.pyx_lines.specs.declared.line.Line.{Line}
use Rattle.pyx_lines.specs.declared.line.Line.TheVariants.{Start, End, Attr, Text, Instruction, Comment, Passed}
use Rattle.xml_names.specs.declared.scopes.Binding.{Binding}
use Rattle.xml_names.specs.Bindings.{xml_binding, first_uris, is_fixed}
use Rattle.shared_texts.specs.Numbers.{with_text}
use Rattle.pyx_events.specs.declared.pending_start.PendingStart.{PendingStart}

abbrev pub is_start : Line → Bool
is_start (Start name) = true
is_start (End name) = false
is_start (Attr name value) = false
is_start (Text text) = false
is_start (Instruction target value) = false
is_start (Comment text) = false
is_start Passed = false

abbrev pub is_end : Line → Bool
is_end (Start name) = false
is_end (End name) = true
is_end (Attr name value) = false
is_end (Text text) = false
is_end (Instruction target value) = false
is_end (Comment text) = false
is_end Passed = false

-- a line that completes a pending start: a start, end, character data, instruction or comment line
abbrev pub completes : Line → Bool
completes (Start name) = true
completes (End name) = true
completes (Attr name value) = false
completes (Text text) = true
completes (Instruction target value) = true
completes (Comment text) = true
completes Passed = false

-- how many elements are open: starts less ends
abbrev pub depth : List Line → ℕ
depth before = count_by is_start before - count_by is_end before

-- a root element was there
abbrev pub has_root : List Line → Bool
has_root before = list_any is_start before

-- the name of the innermost open element, as written; going back past k ends whose starts are still to be met
abbrev pub innermost : ℕ → List Line → Option (List ℕ)
innermost k [] = None
innermost zero (Start name ∷ before) = Some name
innermost (suc k) (Start name ∷ before) = innermost k before
innermost k (End name ∷ before) = innermost (suc k) before
innermost k (Attr name value ∷ before) = innermost k before
innermost k (Text text ∷ before) = innermost k before
innermost k (Instruction target value ∷ before) = innermost k before
innermost k (Comment text ∷ before) = innermost k before
innermost k (Passed ∷ before) = innermost k before

-- a pending start with one more attribute line
abbrev pub with_attribute : List ℕ → List ℕ → Option PendingStart → Option PendingStart
with_attribute name value None = None
with_attribute name value (Some start) = Some (record start { attributes = start.attributes ++ record { name = name; value = value } ∷ [] })

-- the start that is pending, with its line and its attribute lines in line order: only attribute and passed-over lines follow it
abbrev pub pending_start : List Line → Option PendingStart
pending_start [] = None
pending_start (Start name ∷ before) = Some (record { name = name; line = length before + 1; attributes = [] })
pending_start (End name ∷ before) = None
pending_start (Attr name value ∷ before) = with_attribute name value (pending_start before)
pending_start (Text text ∷ before) = None
pending_start (Instruction target value ∷ before) = None
pending_start (Comment text ∷ before) = None
pending_start (Passed ∷ before) = pending_start before

-- the start that the line completes, if one is pending
abbrev pub completed_start : List Line → Line → Option PendingStart
completed_start before line = if completes line then pending_start before else None

-- the prefix that an attribute line of this name declares, the empty one for the default namespace (Namespaces in XML 1.0, section 3)
abbrev pub declared_prefix : List ℕ → Option (List ℕ)
declared_prefix name =
    if bytes_eq name (codes "xmlns") then Some [] else
    if bytes_eq (prefix_of name) (codes "xmlns") then Some (local_of name) else None

abbrev pub is_declaration : List ℕ → Bool
is_declaration name = is_some (declared_prefix name)

-- the binding that an attribute line makes: none where it is no declaration, or one of `xml` or `xmlns`, which has no effect
abbrev pub binding_of : List ℕ → List ℕ → Option Binding
binding_of name value = made (declared_prefix name)
  where
    made : Option (List ℕ) → Option Binding
    made None = None
    made (Some prefix) = if is_fixed prefix then None else Some (record { prefix = prefix; uri = value })

-- the bindings of the open elements, the latest first; going back past k ends whose starts are still to be met
abbrev pub bindings : ℕ → List Line → List Binding
bindings zero [] = xml_binding ∷ []
bindings (suc k) [] = []
bindings zero (Start name ∷ before) = bindings zero before
bindings (suc k) (Start name ∷ before) = bindings k before
bindings k (End name ∷ before) = bindings (suc k) before
bindings zero (Attr name value ∷ before) = option_to_list (binding_of name value) ++ bindings zero before
bindings (suc k) (Attr name value ∷ before) = bindings (suc k) before
bindings k (Text text ∷ before) = bindings k before
bindings k (Instruction target value ∷ before) = bindings k before
bindings k (Comment text ∷ before) = bindings k before
bindings k (Passed ∷ before) = bindings k before

-- the URIs with that of one more binding, if there is one
abbrev pub with_uri : Option Binding → List (List ℕ) → List (List ℕ)
with_uri None uris = uris
with_uri (Some binding) uris = with_text uris binding.uri

-- the URIs that were bound so far, also in scopes that have ended, each once and numbered by its place: the first ones, then each in line order
abbrev pub uris_to : List Line → List (List ℕ)
uris_to [] = first_uris
uris_to (Start name ∷ before) = uris_to before
uris_to (End name ∷ before) = uris_to before
uris_to (Attr name value ∷ before) = with_uri (binding_of name value) (uris_to before)
uris_to (Text text ∷ before) = uris_to before
uris_to (Instruction target value ∷ before) = uris_to before
uris_to (Comment text ∷ before) = uris_to before
uris_to (Passed ∷ before) = uris_to before

-- the text that the run of character data lines up to here makes; attribute and passed-over lines don't end a run, and what stands outside the root element is dropped
abbrev pub pending_text : List Line → List ℕ
pending_text [] = []
pending_text (Start name ∷ before) = []
pending_text (End name ∷ before) = []
pending_text (Attr name value ∷ before) = pending_text before
pending_text (Text text ∷ before) = if depth before == 0 then pending_text before else pending_text before ++ text
pending_text (Instruction target value ∷ before) = []
pending_text (Comment text ∷ before) = []
pending_text (Passed ∷ before) = pending_text before

-- this character data begins a text node: it stands inside an element, isn't empty, and no nonempty text is pending
abbrev pub begins_text : List Line → List ℕ → Bool
begins_text before text = not (depth before == 0) && not (length text == 0) && length (pending_text before) == 0

-- how many rows the line adds
abbrev pub line_rows : List Line → Line → ℕ
line_rows before (Start name) = 1
line_rows before (End name) = 0
line_rows before (Attr name value) = if is_declaration name then 0 else 1
line_rows before (Text text) = if begins_text before text then 1 else 0
line_rows before (Instruction target value) = 1
line_rows before (Comment text) = 1
line_rows before Passed = 0

-- the rows so far, pending ones counted: the root, starts, attributes that aren't declarations, instructions, comments, and nonempty runs of text inside elements
abbrev pub row_count : List Line → ℕ
row_count [] = 1
row_count (line ∷ before) = row_count before + line_rows before line

-- how many bytes of a value the line adds
abbrev pub line_bytes : List Line → Line → ℕ
line_bytes before (Start name) = 0
line_bytes before (End name) = 0
line_bytes before (Attr name value) = if is_declaration name then 0 else length value
line_bytes before (Text text) = if depth before == 0 then 0 else length text
line_bytes before (Instruction target value) = length value
line_bytes before (Comment text) = length text
line_bytes before Passed = 0

-- the bytes of values so far, pending ones counted
abbrev pub value_bytes : List Line → ℕ
value_bytes [] = 0
value_bytes (line ∷ before) = value_bytes before + line_bytes before line
