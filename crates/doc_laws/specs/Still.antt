-- What the calls on a table that stands still answer, exactly.
use Rattle.std.specs.Prelude.{ℕ, Bool, true, false, if◌then◌else◌, List, Option, Some, None}
use Rattle.doc_model.specs.declared.look.Look.{Look}
use Rattle.doc_model.specs.declared.look.Look.TheVariants.{Node, Nothing, NotYet}
use Rattle.doc_model.specs.declared.step.Step.{Step}
use Rattle.doc_model.specs.Document.{is_open}
use Rattle.doc_model.specs.Relations.{extent_of}
use Rattle.doc_model.specs.Rows.{rows_of}

-- a link and whether it is settled
abbrev pub look_of : Option ℕ → Bool → Look
look_of (Some k) settled = Node k
look_of None true = Nothing
look_of None false = NotYet

-- the extent of a row that is not open
abbrev pub known_extent : List Step → ℕ → Option ℕ
known_extent steps n = if is_open steps n then None else Some (extent_of (rows_of steps) n)
