-- When a call on a growing table may come, and the lists of calls that are legal.
use Rattle.std.specs.Prelude.{◌≡◌, ◌≢◌, ℕ, suc, ◌+◌, ◌<◌, ◌≤◌, List, [], ◌∷◌, length, Option, Some, None, IfSome, ⊤}
use Rattle.doc_model.specs.declared.places.Join.{Join}
use Rattle.doc_model.specs.declared.places.Join.TheVariants.{FirstOf, NextOf}
use Rattle.doc_model.specs.declared.places.NamePlace.{NamePlace}
use Rattle.doc_model.specs.declared.places.PrefixPlace.{PrefixPlace}
use Rattle.doc_model.specs.declared.places.RowPlace.{RowPlace}
use Rattle.doc_model.specs.declared.row.Kind.TheVariants.{Element, Attribute}
use Rattle.doc_model.specs.declared.step.Step.{Step}
use Rattle.doc_model.specs.declared.step.Step.TheVariants.{Shut, End}
use Rattle.doc_model.specs.declared.step.Verdict.{Verdict}
use Rattle.doc_model.specs.Cells.{Columns, Cells, empty_cells, name_at, place_at, slice_of, attributes_at, node_at, text_place, with_text, with_name, with_prefix, with_row, with_step}
use Rattle.doc_model.specs.Document.{document_of}
use Rattle.doc_model.specs.Lawful.{CanStep}
use Rattle.doc_model.specs.Relations.{children_of, last_of, extent_of}
use Rattle.doc_model.specs.Rows.{rows_of}

-- two names spell one type: kind, URI and local name
pub record IsSameName (c : Columns) (a b : NamePlace) : Type 0 where
  pub kind : a.kind ≡ b.kind
  pub uri : slice_of c.texts a.uri_at a.uri_len ≡ slice_of c.texts b.uri_at b.uri_len
  pub local : slice_of c.texts a.local_at a.local_len ≡ slice_of c.texts b.local_at b.local_len

-- no type number has this name yet
abbrev pub IsFresh : Columns → NamePlace → Type 0
IsFresh c name = (id : ℕ) → id < length c.names → IsSameName c (name_at c id) name → ⊥

-- the texts of a name are filled
pub record NameFits (c : Columns) (name : NamePlace) : Type 0 where
  pub uri : name.uri_at + name.uri_len ≤ length c.texts
  pub local : name.local_at + name.local_len ≤ length c.texts

-- the text of a prefix is filled
abbrev pub PrefixFits : Columns → PrefixPlace → Type 0
PrefixFits c prefix = prefix.at + prefix.len ≤ length c.texts

-- what a row names is filled, and its type is one of its kind
pub record RowFits (c : Columns) (place : RowPlace) : Type 0 where
  pub type : place.type_id < length c.names
  pub kind : (name_at c place.type_id).kind ≡ place.kind
  pub prefix : place.prefix_id < length c.prefixes
  pub text : place.text_at + place.text_len ≤ length c.texts
  pub parent : place.parent < length c.places
  pub prev : IfSome place.prev (λ k. k < length c.places)

-- a row that is filled has an earlier parent of depth one less; only an element has attributes, and an attribute has no earlier sibling
pub record RowStands (c : Columns) (place : RowPlace) : Type 0 where
  pub depth : place.depth ≡ suc (place_at c place.parent).depth
  pub bare : place.kind ≢ Element → place.attr_count ≡ 0
  pub alone : place.kind ≡ Attribute → place.prev ≡ None

-- the link by which a row is joined: the first of its parent where that has no child, else the next of the parent's last child
abbrev pub how_of : ℕ → Option ℕ → Join
how_of parent None = FirstOf parent
how_of parent (Some last) = NextOf last

-- the place is that of an attribute of row n, which the row's kind and depth are asked of in the step
pub record IsOf (n : ℕ) (place : RowPlace) : Type 0 where
  pub parent : place.parent ≡ n
  pub prev : place.prev ≡ None
  pub count : place.attr_count ≡ 0

abbrev pub AreOf : ℕ → List RowPlace → Type 0
AreOf n [] = ⊤
AreOf n (place ∷ places) = IsOf n place × AreOf n places

-- row n is the innermost that is open
abbrev pub IsInnermost : List ℕ → ℕ → Type 0
IsInnermost [] n = ⊥
IsInnermost (m ∷ ms) n = m ≡ n

-- row n is the next to be joined, it and its attributes are filled, the step may come, its parent is the innermost open row, and its earlier sibling and its link are the right ones
pub record JoinFits (cells : Cells) (n : ℕ) (how : Join) : Type 0 where
  pub next : n ≡ length (rows_of cells.steps)
  pub filled : n + (place_at cells.columns n).attr_count < length cells.columns.places
  pub going : (document_of cells.steps).ended ≡ None
  pub may : CanStep (document_of cells.steps) (node_at cells.columns n)
  pub innermost : IsInnermost (document_of cells.steps).opened (place_at cells.columns n).parent
  pub attributes : AreOf n (attributes_at cells.columns n)
  pub prev : (place_at cells.columns n).prev ≡ last_of (children_of (rows_of cells.steps) (place_at cells.columns n).parent)
  pub link : how ≡ how_of (place_at cells.columns n).parent (last_of (children_of (rows_of cells.steps) (place_at cells.columns n).parent))

-- row n is the innermost open element, and this is its extent
pub record ShutFits (cells : Cells) (n extent : ℕ) : Type 0 where
  pub going : (document_of cells.steps).ended ≡ None
  pub may : CanStep (document_of cells.steps) Shut
  pub innermost : IsInnermost (document_of cells.steps).opened n
  pub end : extent ≡ extent_of (rows_of cells.steps) n

-- nothing has ended yet, and the document may end so
pub record EndFits (cells : Cells) (verdict : Verdict) : Type 0 where
  pub going : (document_of cells.steps).ended ≡ None
  pub may : CanStep (document_of cells.steps) (End verdict)

-- nothing has ended yet
abbrev pub IsGoing : Cells → Type 0
IsGoing cells = (document_of cells.steps).ended ≡ None

-- one call of a builder
pub data Call : Type 0 where
  fill_text : (at : ℕ) (bytes : List ℕ) → Call
  fill_name : (id : ℕ) (name : NamePlace) → Call
  fill_prefix : (id : ℕ) (prefix : PrefixPlace) → Call
  fill_row : (n : ℕ) (row : RowPlace) → Call
  join : (n : ℕ) (how : Join) → Call
  shut : (n extent : ℕ) → Call
  finish : (verdict : Verdict) → Call

-- the call may come at this table: nothing has ended, it has the next place, and all that it names is filled
abbrev pub CallFits : Cells → Call → Type 0
CallFits cells (fill_text at bytes) = IsGoing cells × (at ≡ text_place (length cells.columns.texts))
CallFits cells (fill_name id name) = IsGoing cells × (id ≡ length cells.columns.names) × NameFits cells.columns name × IsFresh cells.columns name
CallFits cells (fill_prefix id prefix) = IsGoing cells × (id ≡ length cells.columns.prefixes) × PrefixFits cells.columns prefix
CallFits cells (fill_row n row) = IsGoing cells × (n ≡ length cells.columns.places) × RowFits cells.columns row × RowStands cells.columns row
CallFits cells (join n how) = JoinFits cells n how
CallFits cells (shut n extent) = ShutFits cells n extent
CallFits cells (finish verdict) = EndFits cells verdict

-- the table after the call
abbrev pub after_call : Cells → Call → Cells
after_call cells (fill_text at bytes) = with_text cells bytes
after_call cells (fill_name id name) = with_name cells name
after_call cells (fill_prefix id prefix) = with_prefix cells prefix
after_call cells (fill_row n row) = with_row cells row
after_call cells (join n how) = with_step cells (node_at cells.columns n)
after_call cells (shut n extent) = with_step cells Shut
after_call cells (finish verdict) = with_step cells (End verdict)

abbrev pub cells_from : Cells → List Call → Cells
cells_from cells [] = cells
cells_from cells (call ∷ log) = cells_from (after_call cells call) log

-- the table that a log makes of a new one
abbrev pub cells_of : List Call → Cells
cells_of log = cells_from empty_cells log

abbrev pub LegalFrom : Cells → List Call → Type 0
LegalFrom cells [] = ⊤
LegalFrom cells (call ∷ log) = CallFits cells call × LegalFrom (after_call cells call) log

-- each call of the log may come at the table that those before it make
abbrev pub IsLegalLog : List Call → Type 0
IsLegalLog log = LegalFrom empty_cells log

-- the log is legal and its joins, shuts and finishes are these steps
pub record StandsFor (log : List Call) (steps : List Step) : Type 0 where
  pub legal : IsLegalLog log
  pub steps_are : (cells_of log).steps ≡ steps
