-- What a meaning tells only: nodes that are there, in document order; and of rows that must be shut first, only rows that are open.
use Rattle.std.specs.Prelude.{◌≡◌, ℕ, true, List, [], ◌∷◌, ⊤}
use Rattle.doc_laws.specs.Ordered.{AscendsFrom}
use Rattle.doc_model.specs.declared.node_test.Test.{Test}
use Rattle.doc_model.specs.declared.row.Axis.{Axis}
use Rattle.doc_model.specs.declared.step.Step.{Step}
use Rattle.doc_model.specs.declared.strip_rule.StripRule.{StripRule}
use Rattle.doc_model.specs.Answers.{Known, Fault, Open}
use Rattle.doc_model.specs.Document.{is_open}
use Rattle.doc_model.specs.Lawful.{IsJoined}
use Rattle.doc_model.specs.Rows.{rows_of}
use Rattle.doc_model.specs.Strip.{is_visible}
use Rattle.xpath_values.specs.declared.value.Value.{Value}
use Rattle.xpath_values.specs.declared.value.Value.TheVariants.{Nodes, Atom, Fragment}
use Rattle.xpath_meaning.specs.declared.context.Context.{Context}
use Rattle.xpath_meaning.specs.Outcome.{Outcome}
use Rattle.xpath_meaning.specs.Reading.{Reading}
use Rattle.xpath_meaning.specs.Streams as stream
use Rattle.xpath_meaning.specs.Streams.{Stream, Ending}

-- a fact about rows
abbrev pub Rows : Type 1
Rows = ℕ → Type 0

-- what is known has this property, and a row that must be shut first is one that is waited for
abbrev pub Tells : Rows → {A : Type 0} → (A → Type 0) → Outcome A → Type 0
Tells waits V (Known x) = V x
Tells waits V (Fault fault) = ⊤
Tells waits V (Open m) = waits m

abbrev pub Anything : {A : Type 0} → A → Type 0
Anything x = ⊤

-- each item has the property
abbrev pub Each : {A : Type 0} → (A → Type 0) → List A → Type 0
Each V [] = ⊤
Each V (x ∷ xs) = V x × Each V xs

-- nodes that are there, in document order without repeats
abbrev pub IsNodeSet : Rows → List ℕ → Type 0
IsNodeSet there nodes = AscendsFrom 0 nodes × Each there nodes

abbrev pub IsValue : Rows → Value → Type 0
IsValue there (Nodes nodes) = IsNodeSet there nodes
IsValue there (Atom atom) = ⊤
IsValue there (Fragment events) = ⊤

abbrev pub AllValues : Rows → List Value → Type 0
AllValues there values = Each (IsValue there) values

pub record IsContext (there : Rows) (c : Context) : Type 0 where
  pub node : there c.node
  pub current : there c.current

abbrev pub EndsAt : Rows → Ending → Type 0
EndsAt waits stream.Whole = ⊤
EndsAt waits (stream.Fault fault) = ⊤
EndsAt waits (stream.Cut m) = waits m

pub record Flows (there waits : Rows) (s : Stream) : Type 0 where
  pub items : Each there s.items
  pub ending : EndsAt waits s.ending

-- of rows that are there a reading tells only such rows, and only these are waited for
pub record IsReading (there waits : Rows) (R : Reading) : Type 0 where
  pub root : there 0
  pub axis : (axis : Axis) (test : Test) (n : ℕ) → there n → Tells waits (Each there) (R.axis axis test n)
  pub children : (test : Test) (n : ℕ) → there n → Flows there waits (R.children test n)
  pub row : (n : ℕ) → there n → Tells waits Anything (R.row n)
  pub value : (n : ℕ) → there n → Tells waits Anything (R.value n)
  pub whole : Tells waits Anything R.whole
  pub by_key : (key : ℕ) (value : List ℕ) → Tells waits (Each there) (R.by_key key value)
  pub by_id : (value : List ℕ) → Tells waits (Each there) (R.by_id value)

-- row n is there and visible
abbrev pub IsThere : List StripRule → List Step → Rows
IsThere rules steps n = IsJoined steps n × (is_visible rules (rows_of steps) n ≡ true)

abbrev pub IsOpen : List Step → Rows
IsOpen steps m = is_open steps m ≡ true
