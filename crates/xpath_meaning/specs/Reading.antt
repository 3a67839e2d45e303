-- What expressions see of a document that may still grow.
use Rattle.std.specs.Prelude.{ℕ, List}
use Rattle.doc_model.specs.declared.node_test.Test.{Test}
use Rattle.doc_model.specs.declared.row.Axis.{Axis}
use Rattle.doc_model.specs.declared.row.Row.{Row}
use Rattle.doc_model.specs.Answers.{Stays}
use Rattle.xpath_meaning.specs.Outcome.{Outcome}
use Rattle.xpath_meaning.specs.Streams.{Stream, GoesOn}

pub record Reading : Type 0 where
  -- the nodes of the axis of a row that meet a test, in the order of the axis
  pub axis : Axis → Test → ℕ → Outcome (List ℕ)
  -- the children of a row that meet a test, so far
  pub children : Test → ℕ → Stream
  pub row : ℕ → Outcome Row
  -- the string-value of a row
  pub value : ℕ → Outcome (List ℕ)
  -- nothing, once the root is shut
  pub whole : Outcome (Unit {0})
  -- the nodes that a key has for a value, where the key is given by the place of the first declaration of its name
  pub by_key : ℕ → List ℕ → Outcome (List ℕ)
  -- the element that has an ID, alone, or no node
  pub by_id : List ℕ → Outcome (List ℕ)

-- what one reading tells, the other tells too
pub record Extends (before later : Reading) : Type 0 where
  pub axis : (axis : Axis) (test : Test) (n : ℕ) → Stays (before.axis axis test n) (later.axis axis test n)
  pub children : (test : Test) (n : ℕ) → GoesOn (before.children test n) (later.children test n)
  pub row : (n : ℕ) → Stays (before.row n) (later.row n)
  pub value : (n : ℕ) → Stays (before.value n) (later.value n)
  pub whole : Stays before.whole later.whole
  pub by_key : (key : ℕ) (value : List ℕ) → Stays (before.by_key key value) (later.by_key key value)
  pub by_id : (value : List ℕ) → Stays (before.by_id value) (later.by_id value)
