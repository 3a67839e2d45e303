-- How the names of lines are counted and judged, and how a table ends.
use Rattle.std.specs.Prelude.{◌≡◌, ℕ, ◌+◌, ◌==◌, Bool, List, [], ◌∷◌, ◌++◌, if◌then◌else◌, Option, None}
use Rattle.doc_model.specs.declared.flaw.Flaw.{Flaw}
use Rattle.doc_model.specs.declared.flaw.FlawKind.{FlawKind}
use Rattle.doc_model.specs.declared.flaw.FlawKind.TheVariants.{TooMuchText, TooManyNames}
use Rattle.doc_model.specs.declared.limits.Limits.{Limits}
use Rattle.doc_model.specs.declared.row.Kind.{Kind}
use Rattle.doc_model.specs.declared.row.Row.{Row}
use Rattle.doc_model.specs.declared.step.Verdict.{Verdict}
use Rattle.doc_model.specs.declared.step.Verdict.TheVariants.{Bad, Starved}
use Rattle.pyx_lines.specs.declared.line.Line.{Line}
use Rattle.pyx_lines.specs.declared.line.Line.TheVariants.{Start, End, Attr, Text, Instruction, Comment, Passed}
use Rattle.pyx_events.specs.declared.event.Event.{Event}
use Rattle.pyx_events.specs.declared.event.Event.TheVariants.{Node, Shut}
use Rattle.doc_model.specs.Numbers.{kind_number}
use Rattle.pyx_events.specs.Counted.{Names}
use Rattle.pyx_events.specs.Flaw.{names_flaw, at_line}
use Rattle.pyx_events.specs.Nodes.{instruction_row}
use Rattle.node_writer.specs.declared.new_names.NewNames.{NewNames}
use Rattle.node_writer.specs.New.{capped, names_bytes}
use Rattle.node_writer.specs.Taken.{name_count}
use Rattle.dtm_builder.specs.declared.build_error.BuildError.{BuildError}
use Rattle.dtm_builder.specs.declared.build_error.BuildError.TheVariants.{Refused, Memory}
use Rattle.dtm_builder.specs.declared.names.NameCount.{NameCount}

-- the names of a table with these rows
abbrev pub table_names : List Row → Names
table_names rows = record { count = name_count rows; bytes = names_bytes rows }

-- what is kept counts these names, as far as they fit
pub record IsCount (kept : NameCount) (names : Names) : Type 0 where
  pub count : kept.count ≡ capped names.count
  pub bytes : kept.bytes ≡ capped names.bytes

-- with the new ones these names make all
pub record Adds (names : Names) (new : NewNames) (all : Names) : Type 0 where
  pub count_added : ℕ
  pub bytes_added : ℕ
  pub all_counted : names.count + count_added ≡ all.count
  pub all_bytes : names.bytes + bytes_added ≡ all.bytes
  pub count : new.count ≡ capped count_added
  pub bytes : new.bytes ≡ capped bytes_added

-- a row with the name that the line's own node has: an instruction's target; a comment has none
abbrev pub own_rows : Line → List Row
own_rows (Start name) = []
own_rows (End name) = []
own_rows (Attr name value) = []
own_rows (Text text) = []
own_rows (Instruction target value) = instruction_row 0 target [] ∷ []
own_rows (Comment text) = []
own_rows Passed = []

abbrev pub is_element : Kind → Bool
is_element kind = kind_number kind == 1

-- the rows of the element whose node stands first among the events, if one does
abbrev pub element_rows : List Event → List Row
element_rows [] = []
element_rows (Node row attributes declarations uris line ∷ events) = if is_element row.kind then row ∷ attributes else []
element_rows (Shut ∷ events) = []

-- a flaw of this kind at the line of that element
abbrev pub element_flaw : List Event → Option FlawKind → Option Flaw
element_flaw [] kind = None
element_flaw (Node row attributes declarations uris line ∷ events) kind = if is_element row.kind then at_line line kind None else None
element_flaw (Shut ∷ events) kind = None

-- the flaw of the names of that element after a table with these rows, where the values have so many bytes
abbrev pub started_flaw : Limits → List Row → List Event → ℕ → Option Flaw
started_flaw limits rows events values = element_flaw events (names_flaw limits (table_names (rows ++ element_rows events)) values)

-- too much text is too many names where these are over the limit
abbrev pub kind_with : Bool → FlawKind → FlawKind
kind_with many TooMuchText = if many then TooManyNames else TooMuchText
kind_with many kind = kind

abbrev pub flaw_with : Bool → Flaw → Flaw
flaw_with many flaw = record { line = flaw.line; kind = kind_with many flaw.kind }

-- what a table that is built no further ends with
abbrev pub verdict_of : BuildError → Verdict
verdict_of (Refused flaw) = Bad flaw
verdict_of Memory = Starved
