-- What a copy of a node is (XSLT 1.0, section 11.3).
use Rattle.std.specs.Prelude.{ℕ, zero, suc, List, [], ◌∷◌, ◌++◌, length, map, filter, flat_map, Option, Some, None, if◌then◌else◌}
use Rattle.doc_model.specs.declared.row.Kind.{Kind}
use Rattle.doc_model.specs.declared.row.Kind.TheVariants as kind
use Rattle.doc_model.specs.declared.row.Row.{Row}
use Rattle.doc_model.specs.declared.step.Step.{Step}
use Rattle.doc_model.specs.declared.strip_rule.StripRule.{StripRule}
use Rattle.doc_model.specs.Answers.{Answer, once_shut, once_joined}
use Rattle.doc_model.specs.Axes.{is_attribute_of}
use Rattle.doc_model.specs.Document.{is_parent}
use Rattle.doc_model.specs.Relations.{numbers}
use Rattle.doc_model.specs.Rows.{rows_of, row_at}
use Rattle.doc_model.specs.Shown.{shown_of}
use Rattle.result_events.specs.declared.event.Name.{Name}
use Rattle.result_events.specs.declared.event.ResultEvent.{ResultEvent}
use Rattle.result_events.specs.declared.event.ResultEvent.TheVariants.{Start, Attr, Text, Instruction, Comment, End}

-- the expanded name of a row, with its prefix
abbrev pub result_name : Row → Name
result_name row = record { prefix = row.prefix; uri = row.uri; local = row.local }

-- a text; an empty one is no event
abbrev pub text_events : List ℕ → List ResultEvent
text_events [] = []
text_events (byte ∷ bytes) = Text (byte ∷ bytes) ∷ []

-- a row as a result that gets these attributes and this content: of the root the content alone; of an element its start, both, and its end; any other row by itself, without either
abbrev pub made_of : Kind → Row → List ResultEvent → List ResultEvent → List ResultEvent
made_of kind.Root row attributes content = content
made_of kind.Element row attributes content = Start (result_name row) ∷ attributes ++ content ++ End ∷ []
made_of kind.Attribute row attributes content = Attr (result_name row) row.value ∷ []
made_of kind.Text row attributes content = text_events row.value
made_of kind.Instruction row attributes content = Instruction row.local row.value ∷ []
made_of kind.Comment row attributes content = Comment row.value ∷ []

abbrev pub attribute_event : List Row → ℕ → ResultEvent
attribute_event rows k = Attr (result_name (row_at rows k)) (row_at rows k).value

-- the attributes of row n in their order
abbrev pub attributes_of : List Row → ℕ → List ResultEvent
attributes_of rows n = map (attribute_event rows) (filter (is_attribute_of rows n) (numbers 0 (length rows)))

-- the copy of row n, where no row is nested in it deeper than so many levels: made of its attributes and the copies of its visible children
abbrev pub copy_within : List StripRule → List Row → ℕ → ℕ → List ResultEvent
copy_within rules rows zero n = []
copy_within rules rows (suc levels) n = made_of (row_at rows n).kind (row_at rows n) (attributes_of rows n) (flat_map (copy_within rules rows levels) (shown_of rules rows n))

-- the copy of row n: rows are never nested deeper than there are rows
unfoldable pub copy_in : List StripRule → List Row → ℕ → List ResultEvent
copy_in rules rows n = copy_within rules rows (length rows) n

-- the row that must be shut before the copy of row n is known: an element or the root itself
abbrev pub copy_need : List Row → ℕ → Option ℕ
copy_need rows n = if is_parent (row_at rows n).kind then Some n else None

-- the copy of row n, once it is known
abbrev pub copy_of : List StripRule → List Step → ℕ → Answer ⊥ (List ResultEvent)
copy_of rules steps n = once_joined steps n (once_shut steps (copy_need (rows_of steps) n) (copy_in rules (rows_of steps) n))
