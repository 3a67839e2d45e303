-- The steps that the words of a table spell, and when its columns stand for them.
use Rattle.std.specs.Prelude.{◌≡◌, ℕ, ◌+◌, ◌*◌, ◌<◌, ◌≤◌, List, [], ◌∷◌, ◌++◌, length, Option, Some, None, slice_index_or, map, ⊤}
use Rattle.doc_model.specs.declared.step.Step.{Step}
use Rattle.doc_model.specs.declared.step.Step.TheVariants.{Shut as shut_step, End as end_step}
use Rattle.doc_model.specs.declared.step.Verdict.{Verdict}
use Rattle.doc_model.specs.Cells.{Columns, name_at, place_at, row_of, node_at, no_name, no_prefix}
use Rattle.doc_model.specs.Document.{Document, start, document_of}
use Rattle.doc_model.specs.Lawful.{LawfulFrom}
use Rattle.doc_model.specs.Legal.{IsSameName, NameFits, PrefixFits, RowFits}
use Rattle.doc_model.specs.Relations.{parent_of, attr_count_of}
use Rattle.doc_model.specs.Rows.{rows_of, row_at}
use Rattle.doc_model.specs.Shown.{prev_shown}
use Rattle.doc_laws.specs.Words.{LinksHold, ExtentsHold}
use Rattle.plain_columns.specs.declared.entry.Entry.{Entry}
use Rattle.plain_columns.specs.declared.entry.Entry.TheVariants.{Join, Shut}

abbrev pub step_of : Columns → Entry → Step
step_of c (Join n) = node_at c n
step_of c Shut = shut_step

-- the End comes last, if there is a verdict
abbrev pub ended_by : Option Verdict → List Step → List Step
ended_by None steps = steps
ended_by (Some verdict) steps = steps ++ end_step verdict ∷ []

abbrev pub steps_of : Columns → List Entry → Option Verdict → List Step
steps_of c log verdict = ended_by verdict (map (step_of c) log)

abbrev pub EntryFits : Columns → Entry → Type 0
EntryFits c (Join n) = n + (place_at c n).attr_count < length c.places
EntryFits c Shut = ⊤

abbrev pub LogFits : Columns → List Entry → Type 0
LogFits c [] = ⊤
LogFits c (entry ∷ log) = EntryFits c entry × LogFits c log

-- no two type numbers are of one name
abbrev pub IsDistinct : Columns → Type 0
IsDistinct c = (j k : ℕ) → j < length c.names → k < length c.names → IsSameName c (name_at c j) (name_at c k) → j ≡ k

-- all that is named is filled
pub record Spelled (c : Columns) (log : List Entry) : Type 0 where
  pub names : (k : ℕ) → k < length c.names → NameFits c (slice_index_or c.names k no_name)
  pub prefixes : (k : ℕ) → k < length c.prefixes → PrefixFits c (slice_index_or c.prefixes k no_prefix)
  pub rows : (k : ℕ) → k < length c.places → RowFits c (place_at c k)
  pub entries : LogFits c log
  pub distinct : IsDistinct c

-- the words stand for the steps
pub record WordsHold (steps : List Step) (first next extent : List ℕ) (verdict : Option Verdict) : Type 0 where
  pub lawful : LawfulFrom start steps
  pub links : LinksHold (rows_of steps) first next
  pub extents : ExtentsHold (rows_of steps) (document_of steps).opened extent
  pub ended : verdict ≡ (document_of steps).ended

-- the joined rows are the first of the places
pub record Placed (c : Columns) (steps : List Step) (count : ℕ) : Type 0 where
  pub joined : count ≡ length (rows_of steps)
  pub within : count ≤ length c.places
  pub rows : (n : ℕ) → n < length (rows_of steps) → row_at (rows_of steps) n ≡ row_of c (place_at c n)
  pub parents : (n : ℕ) → 0 < n → n < length (rows_of steps) → parent_of (rows_of steps) n ≡ Some (place_at c n).parent
  pub prevs : (n : ℕ) → n < length (rows_of steps) → prev_shown [] (rows_of steps) n ≡ (place_at c n).prev
  pub counts : (n : ℕ) → n < length (rows_of steps) → attr_count_of (rows_of steps) n ≡ (place_at c n).attr_count

-- each row is joined once, and each open row is still to be shut
abbrev pub FewSteps : Document → ℕ → Type 0
FewSteps d count = count + length d.opened ≤ 2 * length d.rows
