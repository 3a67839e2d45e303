-- The first flaw of a source. The lines before are given with the latest first; where `free` is true, no name and no name's bytes are counted.
use Rattle.std.specs.Prelude.{ℕ, ◌+◌, List, [], ◌∷◌, ◌++◌, Bool, true, false, ◌&&◌, ◌||◌, ◌==◌, not, nat_lt, nat_le, if◌then◌else◌, length, Option, Some, None, Result, Ok, Err, is_some}
use Rattle.std.specs.List.{list_any, list_all}
use Rattle.std.specs.Str.{bytes_eq}
use Rattle.doc_model.specs.declared.row.Row.{Row}
use Rattle.doc_model.specs.declared.limits.Limits.{Limits}
use Rattle.doc_model.specs.declared.flaw.Flaw.{Flaw}
use Rattle.doc_model.specs.declared.flaw.FlawKind.{FlawKind}
use Rattle.doc_model.specs.declared.flaw.FlawKind.TheVariants as kind
use Rattle.doc_model.specs.Strip.{is_white}
use Rattle.name_grammar.specs.Names.{prefix_of}
use Rattle.pyx_lines.specs.declared.line.Line.{Line}
use Rattle.pyx_lines.specs.declared.line.Line.TheVariants.{Start, End, Attr, Text, Instruction, Comment, Passed}
use Rattle.pyx_lines.specs.Lines.{Refusal, TooManyLines, LongLine, NotUtf8, UnknownLine, NoSpace, BadName, judged_lines}
use Rattle.xml_names.specs.declared.scopes.Binding.{Binding}
use Rattle.pyx_events.specs.declared.pending_start.Attribute.{Attribute}
use Rattle.pyx_events.specs.declared.pending_start.PendingStart.{PendingStart}
use Rattle.pyx_events.specs.Before.{completed_start, depth, has_root, innermost, pending_start, is_declaration, bindings, begins_text, row_count, value_bytes}
use Rattle.pyx_events.specs.Nodes.{resolve, attribute_rows, completed, events_to}
use Rattle.pyx_events.specs.Counted.{Names, names_of, same_expanded}

-- two rows have one expanded name
abbrev pub repeats : List Row → Bool
repeats [] = false
repeats (row ∷ rows) = list_any (same_expanded row) rows || repeats rows

-- a nonempty prefix that these bindings bind to nothing
abbrev pub is_unbound : List Binding → List ℕ → Bool
is_unbound bound prefix = not (length prefix == 0) && not (is_some (resolve bound prefix))

-- an attribute, and no declaration, whose prefix is unbound
abbrev pub attribute_unbound : List Binding → Attribute → Bool
attribute_unbound bound it = not (is_declaration it.name) && is_unbound bound (prefix_of it.name)

-- the flaw of an element with these bindings in force, names aside
abbrev pub element_flaw : List Binding → ℕ → PendingStart → Option FlawKind
element_flaw bound depth start =
    if is_unbound bound (prefix_of start.name) then Some kind.UnboundPrefix else
    if list_any (attribute_unbound bound) start.attributes then Some kind.UnboundPrefix else
    if repeats (attribute_rows bound (depth + 1) start.attributes) then Some kind.DuplicateAttr else None

-- the flaw of a start, names aside, if there is one
abbrev pub start_flaw : List Binding → ℕ → Option PendingStart → Option FlawKind
start_flaw bound depth None = None
start_flaw bound depth (Some start) = element_flaw bound depth start

-- the flaw of new names, judged together, where the values have this many bytes
abbrev pub names_flaw : Limits → Names → ℕ → Option FlawKind
names_flaw limits names bytes =
    if nat_lt limits.names names.count then Some kind.TooManyNames else
    if nat_lt limits.text (bytes + names.bytes) then Some kind.TooMuchText else None

-- the first kind, or else the later one
abbrev pub or_kind : Option FlawKind → Option FlawKind → Option FlawKind
or_kind None later = later
or_kind (Some first) later = Some first

-- no flaw where none is pending
abbrev pub if_pending : Option PendingStart → Option FlawKind → Option FlawKind
if_pending None flaw = None
if_pending (Some start) flaw = flaw

-- the flaw of a start, if there is one, that is completed after these lines
abbrev pub completed_flaw : Limits → Bool → List Line → Option PendingStart → Option FlawKind
completed_flaw limits free before start =
    or_kind (start_flaw (bindings 0 before) (depth before) start)
    (if_pending start (names_flaw limits (names_of free (events_to before ++ completed before start)) (value_bytes before)))

-- the name as written is that of the open element, if one is open
abbrev pub is_named : Option (List ℕ) → List ℕ → Bool
is_named None name = false
is_named (Some inner) name = bytes_eq inner name

-- the element of a pending start has 256 attribute lines
abbrev pub is_full : Option PendingStart → Bool
is_full None = false
is_full (Some start) = length start.attributes == 256

-- the flaw of a line's own event; the names are those of the nodes up to this line's own
abbrev pub own_flaw : Limits → Names → List Line → Line → Option FlawKind
own_flaw limits names before (Start name) =
    if depth before == 0 && has_root before then Some kind.SecondRoot else
    if nat_le 1000 (depth before) then Some kind.TooDeep else
    if row_count before == limits.rows then Some kind.TooManyNodes else None
own_flaw limits names before (End name) = if is_named (innermost 0 before) name then None else Some kind.WrongEnd
own_flaw limits names before (Attr name value) =
    if not (is_some (pending_start before)) then Some kind.AttrPlace else
    if is_full (pending_start before) then Some kind.TooManyAttrs else
    if is_declaration name then None else
    if row_count before == limits.rows then Some kind.TooManyNodes else
    if nat_lt limits.text (value_bytes before + names.bytes + length value) then Some kind.TooMuchText else None
own_flaw limits names before (Text text) =
    if depth before == 0 && not (list_all is_white text) then Some kind.TextOutside else
    if begins_text before text && row_count before == limits.rows then Some kind.TooManyNodes else
    if nat_lt limits.text (value_bytes before + names.bytes + length text) then Some kind.TooMuchText else None
own_flaw limits names before (Instruction target value) =
    if row_count before == limits.rows then Some kind.TooManyNodes else
    if nat_lt limits.names names.count then Some kind.TooManyNames else
    if nat_lt limits.text (value_bytes before + names.bytes + length value) then Some kind.TooMuchText else None
own_flaw limits names before (Comment text) =
    if row_count before == limits.rows then Some kind.TooManyNodes else
    if nat_lt limits.text (value_bytes before + names.bytes + length text) then Some kind.TooMuchText else None
own_flaw limits names before Passed = None

-- the flaw of the input's end itself
abbrev pub own_end_flaw : List Line → Option FlawKind
own_end_flaw before = if not (has_root before) then Some kind.NoRoot else if not (depth before == 0) then Some kind.Unclosed else None

-- the line of a start
abbrev pub start_line : Option PendingStart → ℕ
start_line None = 0
start_line (Some start) = start.line

-- a flaw of this kind at this line, or else what comes later
abbrev pub at_line : ℕ → Option FlawKind → Option Flaw → Option Flaw
at_line line (Some kind) later = Some (record { line = line; kind = kind })
at_line line None later = later

-- the flaw of a start that is completed, which carries the start's line, or else this flaw of the next line
abbrev pub in_order : Limits → Bool → List Line → Option PendingStart → Option FlawKind → Option Flaw
in_order limits free before start own = at_line (start_line start) (completed_flaw limits free before start) (at_line (length before + 1) own None)

-- the flaw of the next line: first of the start that it completes, then its own
abbrev pub line_flaw : Limits → Bool → List Line → Line → Option Flaw
line_flaw limits free before line = in_order limits free before (completed_start before line) (own_flaw limits (names_of free (events_to (line ∷ before))) before line)

-- the flaw of the input's end, which completes a pending start first
abbrev pub end_flaw : Limits → Bool → List Line → Option Flaw
end_flaw limits free before = in_order limits free before (pending_start before) (own_end_flaw before)

-- the kind of a line that is no event
abbrev pub kind_of : Refusal → FlawKind
kind_of TooManyLines = kind.TooManyLines
kind_of LongLine = kind.LongLine
kind_of NotUtf8 = kind.NotUtf8
kind_of UnknownLine = kind.UnknownLine
kind_of NoSpace = kind.NoSpace
kind_of BadName = kind.BadName

-- the first flaw, or else the later one
abbrev pub or_flaw : Option Flaw → Option Flaw → Option Flaw
or_flaw None later = later
or_flaw (Some flaw) later = Some flaw

-- the first flaw of these lines and of the end after them, lines judged in order
abbrev pub flaw_from : Limits → Bool → List Line → List (Result Line Refusal) → Option Flaw
flaw_from limits free before [] = end_flaw limits free before
flaw_from limits free before (Err refusal ∷ lines) = Some (record { line = length before + 1; kind = kind_of refusal })
flaw_from limits free before (Ok line ∷ lines) = or_flaw (line_flaw limits free before line) (flaw_from limits free (line ∷ before) lines)

-- the first flaw of a source of these bytes
abbrev pub flaw_of : Limits → List ℕ → Option Flaw
flaw_of limits bytes = flaw_from limits false [] (judged_lines bytes)

-- the same where no name and no name's bytes are counted
abbrev pub flaw_free_of : Limits → List ℕ → Option Flaw
flaw_free_of limits bytes = flaw_from limits true [] (judged_lines bytes)
