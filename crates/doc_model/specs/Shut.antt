-- When a row is shut.
use Rattle.std.specs.Prelude.{◌≡◌, ℕ, suc, List, [], ◌∷◌, ◌++◌, if◌then◌else◌, length, ⊤}
use Rattle.doc_model.specs.declared.row.Kind.{Kind}
use Rattle.doc_model.specs.declared.row.Kind.TheVariants.{Root, Element, Attribute, Text, Instruction, Comment}
use Rattle.doc_model.specs.declared.row.Row.{Row}
use Rattle.doc_model.specs.declared.step.Step.{Step}
use Rattle.doc_model.specs.declared.step.Step.TheVariants.{Node, Shut, End}
use Rattle.doc_model.specs.declared.step.Verdict.TheVariants.{Good}
use Rattle.doc_model.specs.Document.{is_parent}
use Rattle.doc_model.specs.Rows.{rows_of, row_at}

-- how many Shuts there are
abbrev pub shut_count : List Step → ℕ
shut_count [] = 0
shut_count (Node row attributes ∷ steps) = shut_count steps
shut_count (Shut ∷ steps) = suc (shut_count steps)
shut_count (End verdict ∷ steps) = shut_count steps

-- how many Nodes of elements there are; no Node gives the root
abbrev pub element_count : List Step → ℕ
element_count [] = 0
element_count (Node row attributes ∷ steps) = if is_parent row.kind then suc (element_count steps) else element_count steps
element_count (Shut ∷ steps) = element_count steps
element_count (End verdict ∷ steps) = element_count steps

-- at some point the steps hold one Shut more than Nodes of elements
pub record HasShutMore (steps : List Step) : Type 0 where
  pub front : List Step
  pub rest : List Step
  pub split : front ++ rest ≡ steps
  pub more : shut_count front ≡ suc (element_count front)

-- the steps hold the Node of row n, with these steps after it
pub record HasNode (steps : List Step) (n : ℕ) (later : List Step) : Type 0 where
  pub before : List Step
  pub row : Row
  pub attributes : List Row
  pub split : before ++ Node row attributes ∷ later ≡ steps
  pub number : length (rows_of before) ≡ n

-- the steps hold a good End
pub record HasGoodEnd (steps : List Step) : Type 0 where
  pub before : List Step
  pub later : List Step
  pub split : before ++ End Good ∷ later ≡ steps

-- an element is shut once, at some point after its Node, there is one Shut more than Nodes of elements; the root once there is a good End; any other row at once
abbrev pub IsShutAs : Kind → List Step → ℕ → Type 0
IsShutAs Root steps n = HasGoodEnd steps
IsShutAs Element steps n = (later : List Step) × HasNode steps n later × HasShutMore later
IsShutAs Attribute steps n = ⊤
IsShutAs Text steps n = ⊤
IsShutAs Instruction steps n = ⊤
IsShutAs Comment steps n = ⊤

-- row n is shut
abbrev pub IsShut : List Step → ℕ → Type 0
IsShut steps n = IsShutAs (row_at (rows_of steps) n).kind steps n
