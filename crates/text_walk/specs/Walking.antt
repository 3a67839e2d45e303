-- How a walker stands to the steps that it has seen and to the bytes that it has given.
use Rattle.std.specs.Prelude.{◌≡◌, ℕ, suc, ◌+◌, Bool, true, false, List, take, None}
use Rattle.doc_model.specs.declared.row.Row.{Row}
use Rattle.doc_model.specs.declared.step.Step.{Step}
use Rattle.doc_model.specs.Document.{is_attribute, is_open}
use Rattle.doc_model.specs.Lawful.{Grows, IsJoined}
use Rattle.doc_model.specs.Relations.{extent_of, attr_count_of}
use Rattle.doc_model.specs.Rows.{rows_of, row_at}
use Rattle.text_walk.specs.BuiltIn.{reached, fault_of}
use Rattle.text_walk.specs.Text.{text_of, events_in}

-- the row that a walker stands at, whether its children come next or what follows its subtree, the row's depth, and the result events so far
pub record Walking : Type 0 where
  pub row : ℕ
  pub down : Bool
  pub depth : ℕ
  pub made : ℕ

-- how many rows are past: at a row whose children come next, it and its attributes; else its whole subtree
abbrev pub past_at : List Row → ℕ → Bool → ℕ
past_at rows n true = suc n + attr_count_of rows n
past_at rows n false = extent_of rows n

-- the rows that are past
abbrev pub rows_past : Walking → List Step → List Row
rows_past walker steps = take (past_at (rows_of steps) walker.row walker.down) (rows_of steps)

-- the walker stands at a row of these steps, none of the rows past it was too deep, and it has given their text, in so many events
pub record IsUnderWay (walker : Walking) (steps : List Step) (bytes : List ℕ) : Type 0 where
  pub joined : IsJoined steps walker.row
  pub plain : is_attribute (row_at (rows_of steps) walker.row).kind ≡ false
  pub shut : walker.down ≡ false → is_open steps walker.row ≡ false
  pub depth : walker.depth ≡ (row_at (rows_of steps) walker.row).depth
  pub shallow : fault_of (rows_past walker steps) ≡ None
  pub text : bytes ≡ text_of (rows_past walker steps)
  pub events : walker.made ≡ events_in (rows_past walker steps)

-- the walker is under way in steps that these have grown from
abbrev pub IsBehind : Walking → List Step → List ℕ → Type 0
IsBehind walker later bytes = (steps : List Step) × Grows steps later × IsUnderWay walker steps bytes

-- the walker has given exactly what the built-in rules make of these steps, and can go on from there
pub record Stands (walker : Walking) (steps : List Step) (bytes : List ℕ) : Type 0 where
  pub text : bytes ≡ text_of (reached (rows_of steps))
  pub made : walker.made ≡ events_in (reached (rows_of steps))
  pub under_way : IsUnderWay walker steps bytes
