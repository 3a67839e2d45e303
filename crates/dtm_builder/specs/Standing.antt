-- When a builder stands for a table and the lines that it has taken, and what its refusals leave. The lines are given with the latest first.
use Rattle.std.specs.Prelude.{◌≡◌, ℕ, ◌+◌, ◌<◌, List, [], ◌∷◌, ◌++◌, false, length, Option, Some, None, ⊤}
use Rattle.doc_model.specs.declared.flaw.Flaw.{Flaw}
use Rattle.doc_model.specs.declared.limits.Limits.{Limits}
use Rattle.doc_model.specs.declared.step.Step.{Step}
use Rattle.doc_model.specs.declared.step.Step.TheVariants.{End}
use Rattle.doc_model.specs.declared.step.Verdict.{Verdict}
use Rattle.doc_model.specs.declared.step.Verdict.TheVariants.{Good, Bad, Failed, Starved, Upstream}
use Rattle.doc_model.specs.Cells.{Cells}
use Rattle.doc_model.specs.Document.{document_of}
use Rattle.doc_model.specs.Lawful.{CanStep, LawfulFrom}
use Rattle.doc_model.specs.Rows.{rows_of}
use Rattle.node_writer.specs.Taken as taken
use Rattle.pyx_lines.specs.declared.line.Line.{Line}
use Rattle.node_writer.specs.Known.{names_in}
use Rattle.pyx_events.specs.Before.{uris_to}
use Rattle.pyx_events.specs.Checking as checking
use Rattle.pyx_events.specs.Counted.{names_of}
use Rattle.pyx_events.specs.Nodes.{events_to}
use Rattle.pyx_events.specs.Steps.{steps_of_events}
use Rattle.node_writer.specs.Stands as writing
use Rattle.dtm_builder.specs.Judging.{IsCount, table_names, verdict_of}
use Rattle.dtm_builder.specs.Lines.{AreReadable, AreFlawless}
use Rattle.dtm_builder.specs.Recalled.{Recalls}
use Rattle.dtm_builder.specs.declared.build_error.BuildError.{BuildError}
use Rattle.dtm_builder.specs.declared.build_error.BuildError.TheVariants.{Refused, Memory}
use Rattle.dtm_builder.specs.declared.builder.Builder.{Builder}
use Rattle.dtm_builder.specs.declared.builder.Judged.{Judged}

-- the lines have no flaw, the table's steps are theirs, and what the builder keeps is that of both
pub record Stands (builder : Builder) (limits : Limits) (cells : Cells) (before : List Line) : Type 0 where
  pub going : builder.refusal ≡ None
  pub limited : builder.limits ≡ limits
  pub lines : builder.lines ≡ length before
  pub flawless : AreFlawless limits before
  pub readable : AreReadable before
  pub checked : checking.Stands limits builder.checker before
  pub written : writing.Stands builder.writer limits cells
  pub names : IsCount builder.names (names_of false (events_to before))
  pub steps : cells.steps ≡ steps_of_events (events_to before)
  pub recalled : Recalls builder.index (uris_to before) (names_in builder.writer)

-- the writer stands for the table, whose names are those that are kept
pub record Counts (builder : Builder) (limits : Limits) (cells : Cells) : Type 0 where
  pub limited : builder.limits ≡ limits
  pub written : writing.Stands builder.writer limits cells
  pub names : IsCount builder.names (table_names (rows_of cells.steps))

-- all but the checker and the index is as it was
pub record IsSameBut (old new : Builder) : Type 0 where
  pub writer : new.writer ≡ old.writer
  pub limits : new.limits ≡ old.limits
  pub names : new.names ≡ old.names
  pub lines : new.lines ≡ old.lines
  pub refusal : new.refusal ≡ old.refusal

-- one more line was taken, after which the names are these
pub record HasTaken (judged : Judged) (old new : Builder) : Type 0 where
  pub names : new.names ≡ judged.names
  pub lines : new.lines ≡ old.lines + 1
  pub checker : new.checker ≡ old.checker
  pub index : new.index ≡ old.index
  pub limits : new.limits ≡ old.limits
  pub refusal : new.refusal ≡ old.refusal

-- nothing more is taken, for this reason
abbrev pub IsRefused : Builder → BuildError → Type 0
IsRefused builder error = builder.refusal ≡ Some error

-- unless it has refused, it stands for fewer lines than so many
abbrev pub CanTake : ℕ → Builder → Limits → Cells → Type 0
CanTake count builder limits cells = builder.refusal ≡ None → (before : List Line) × Stands builder limits cells before × (length before < count)

-- the flaw is the one that is judged; want of memory is free
abbrev pub IsFlawOf : Option Flaw → BuildError → Type 0
IsFlawOf judged (Refused flaw) = judged ≡ Some flaw
IsFlawOf judged Memory = ⊤

-- what a refusal adds to the steps: after a flaw a bad end alone; for want of memory some of the steps that were due, and a starved end
abbrev pub Refuses : List Step → List Step → List Step → BuildError → Type 0
Refuses old due new (Refused flaw) = new ≡ old ++ End (Bad flaw) ∷ []
Refuses old due new Memory = (made left : List Step) × (made ++ left ≡ due) × (new ≡ old ++ made ++ End Starved ∷ [])

-- any verdict but Good, and Bad only with a line below 281,474,976,710,656
abbrev pub CanStop : Verdict → Type 0
CanStop Good = ⊥
CanStop (Bad flaw) = flaw.line < 281474976710656
CanStop Failed = ⊤
CanStop Starved = ⊤
CanStop Upstream = ⊤

-- the table may end for this reason
pub record CanEnd (steps : List Step) (error : BuildError) : Type 0 where
  pub going : (document_of steps).ended ≡ None
  pub may : CanStep (document_of steps) (End (verdict_of error))

-- what was appended before a table ends: nothing after a flaw; for want of memory some of the steps that were due
abbrev pub HasAppended : List Step → List Step → List Step → BuildError → Type 0
HasAppended old due new (Refused flaw) = new ≡ old
HasAppended old due new Memory = (made left : List Step) × (made ++ left ≡ due) × (new ≡ old ++ made)

-- the steps that are left may come after these, and the table has room for their rows
pub record CanFollow (limits : Limits) (steps left : List Step) : Type 0 where
  pub going : (document_of steps).ended ≡ None
  pub lawful : LawfulFrom (document_of steps) left
  pub room : taken.HasRoom limits (rows_of (steps ++ left))
