-- A copy as one pass through the rows of a subtree, by their depths.
use Rattle.std.specs.Prelude.{ℕ, zero, suc, ◌-◌, List, [], ◌∷◌, ◌++◌, replicate, if◌then◌else◌}
use Rattle.doc_model.specs.declared.row.Kind.{Kind}
use Rattle.doc_model.specs.declared.row.Kind.TheVariants as kind
use Rattle.doc_model.specs.declared.row.Row.{Row}
use Rattle.doc_model.specs.declared.strip_rule.StripRule.{StripRule}
use Rattle.doc_model.specs.Document.{is_parent}
use Rattle.doc_model.specs.Rows.{row_at}
use Rattle.doc_model.specs.Strip.{is_visible}
use Rattle.result_events.specs.declared.event.ResultEvent.{ResultEvent}
use Rattle.result_events.specs.declared.event.ResultEvent.TheVariants.{Start, Attr, Instruction, Comment, End}
use Rattle.copy_meaning.specs.Copies.{result_name, text_events}

abbrev pub depth_at : List Row → ℕ → ℕ
depth_at rows k = (row_at rows k).depth

abbrev pub ends : ℕ → List ResultEvent
ends count = replicate count End

abbrev pub beginning_as : Kind → Row → List ResultEvent
beginning_as kind.Root row = []
beginning_as kind.Element row = Start (result_name row) ∷ []
beginning_as kind.Attribute row = Attr (result_name row) row.value ∷ []
beginning_as kind.Text row = text_events row.value
beginning_as kind.Instruction row = Instruction row.local row.value ∷ []
beginning_as kind.Comment row = Comment row.value ∷ []

-- what comes before the attributes and the children of a row: the start of an element, and all of a row that has neither
abbrev pub beginning : Row → List ResultEvent
beginning row = beginning_as row.kind row

abbrev pub ending_as : Kind → List ResultEvent
ending_as kind.Root = []
ending_as kind.Element = End ∷ []
ending_as kind.Attribute = []
ending_as kind.Text = []
ending_as kind.Instruction = []
ending_as kind.Comment = []

-- what comes behind its children
abbrev pub ending : Row → List ResultEvent
ending row = ending_as row.kind

abbrev pub beginning_shown : List StripRule → List Row → ℕ → List ResultEvent
beginning_shown rules rows k = if is_visible rules rows k then beginning (row_at rows k) else []

-- the depth of the innermost row that is open behind this one
abbrev pub depth_behind : Row → ℕ
depth_behind row = if is_parent row.kind then row.depth else row.depth - 1

-- so many rows from row k, where the innermost row that is open stands at this depth: each first ends the elements that it is not in; at last all are ended that are deeper than the base
abbrev pub pass : List StripRule → List Row → ℕ → ℕ → ℕ → ℕ → List ResultEvent
pass rules rows base k zero depth = ends (depth - base)
pass rules rows base k (suc count) depth = ends (suc depth - depth_at rows k) ++ beginning_shown rules rows k ++ pass rules rows base (suc k) count (depth_behind (row_at rows k))
