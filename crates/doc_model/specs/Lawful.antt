-- Which lists of steps a table may hold, and how they grow.
use Rattle.std.specs.Prelude.{◌≡◌, ℕ, suc, ◌^◌, ◌<◌, List, [], ◌∷◌, ◌++◌, Bool, true, false, length, None, ⊤}
use Rattle.doc_model.specs.declared.row.Kind.TheVariants.{Root, Element, Attribute, Text, Instruction, Comment}
use Rattle.doc_model.specs.declared.row.Kind.{Kind}
use Rattle.doc_model.specs.declared.row.Row.{Row}
use Rattle.doc_model.specs.declared.step.Step.{Step}
use Rattle.doc_model.specs.declared.step.Step.TheVariants.{Node, Shut, End}
use Rattle.doc_model.specs.declared.step.Verdict.{Verdict}
use Rattle.doc_model.specs.declared.step.Verdict.TheVariants.{Good, Bad, Failed, Starved, Upstream}
use Rattle.doc_model.specs.Rows.{rows_of}
use Rattle.doc_model.specs.Document.{Document, start, after, is_parent}
use Rattle.doc_model.specs.Legible.{all_legible}

-- an attribute of an element of this depth
abbrev pub IsAttributeAt : ℕ → Row → Type 0
IsAttributeAt depth row = (row.kind ≡ Attribute) × (row.depth ≡ suc depth)

abbrev pub AllAttributes : ℕ → List Row → Type 0
AllAttributes depth [] = ⊤
AllAttributes depth (row ∷ rows) = IsAttributeAt depth row × AllAttributes depth rows

-- a row of this kind may stand in a Node: it is neither the root nor an attribute
abbrev pub may_stand : Kind → Bool
may_stand Root = false
may_stand Element = true
may_stand Attribute = false
may_stand Text = true
may_stand Instruction = true
may_stand Comment = true

-- a Node may come where these rows are open: it is neither the root nor an attribute, stands one below the innermost open row, only an element has attributes, and all names and texts are those of lines
pub record CanJoin (opened : List ℕ) (row : Row) (attributes : List Row) : Type 0 where
  pub kind : may_stand row.kind ≡ true
  pub depth : row.depth ≡ length opened
  pub bare : is_parent row.kind ≡ false → attributes ≡ []
  pub carried : AllAttributes row.depth attributes
  pub legible : all_legible (row ∷ attributes) ≡ true

-- an End may come: Good only with no element open, Bad only with a line below 281,474,976,710,656
abbrev pub CanEnd : Verdict → List ℕ → Type 0
CanEnd Good opened = length opened ≡ 1
CanEnd (Bad flaw) opened = flaw.line < 2 ^ 48
CanEnd Failed opened = ⊤
CanEnd Starved opened = ⊤
CanEnd Upstream opened = ⊤

-- the step may come next: a Shut only where an element is open beside the root
abbrev pub CanStep : Document → Step → Type 0
CanStep d (Node row attributes) = CanJoin d.opened row attributes
CanStep d Shut = 1 < length d.opened
CanStep d (End verdict) = CanEnd verdict d.opened

-- each step may come after those before it, and nothing follows an End
abbrev pub LawfulFrom : Document → List Step → Type 0
LawfulFrom d [] = ⊤
LawfulFrom d (step ∷ steps) = (d.ended ≡ None) × CanStep d step × LawfulFrom (after d step) steps

-- a list of steps that a table may hold
pub record IsLawful (steps : List Step) : Type 0 where
  pub each : LawfulFrom start steps
  pub few : length (rows_of steps) < 2 ^ 32

-- the later list grows from the earlier: it begins with it
abbrev pub Grows : List Step → List Step → Type 0
Grows before later = (rest : List Step) × (before ++ rest ≡ later)

-- the list ends in a good End
abbrev pub IsComplete : List Step → Type 0
IsComplete steps = (before : List Step) × (before ++ End Good ∷ [] ≡ steps)

-- the fact holds at some list on the way from the earlier to the later
abbrev pub AtStep : List Step → List Step → (List Step → Type 0) → Type 0
AtStep before later P = (steps : List Step) × Grows before steps × Grows steps later × P steps

-- row n is there: the root, or a row of a Node
abbrev pub IsJoined : List Step → ℕ → Type 0
IsJoined steps n = n < length (rows_of steps)
