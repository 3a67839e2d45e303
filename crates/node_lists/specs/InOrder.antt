-- Node-sets as lists: in document order, which is the order of the numbers of rows, and without repeats (XPath 1.0, sections 3.3 and 5).
use Rattle.std.specs.Prelude.{◌≡◌, ℕ, List}
use Rattle.doc_model.specs.Document.{is_member}
use Rattle.doc_laws.specs.Ordered.{AscendsFrom}

-- the second list has the nodes of the first, in document order and each once
pub record IsInOrder (nodes ordered : List ℕ) : Type 0 where
  pub order : AscendsFrom 0 ordered
  pub members : (n : ℕ) → is_member n ordered ≡ is_member n nodes
