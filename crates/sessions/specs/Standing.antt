-- What holds of every session, and when it stands for the lines that it was fed.
use Rattle.std.specs.Prelude.{ℕ, List, Bool, Option}
use Rattle.doc_model.specs.declared.limits.Limits.{Limits}
use Rattle.doc_model.specs.declared.step.Step.{Step}
use Rattle.pyx_lines.specs.declared.line.Line.{Line}
use Rattle.line_feeder.specs.declared.fed.Fed.{Fed}
use Rattle.line_feeder.specs.Standing as feeding
use Rattle.sessions.specs.declared.session.Session.{Session}
use Rattle.sessions.specs.Running.{AreBehind, counts_in}

-- the steps of its table
abbrev pub steps_of_session : Session → List Step
steps_of_session session = session.table.cells.steps

-- the limits of its table
abbrev pub limits_of : Session → Limits
limits_of session = session.table.limits

-- the answer that it gives for good, if there is one
abbrev pub answer_of : Session → Option Fed
answer_of session = feeding.answer_of session.feeder

-- how many lines it was given
abbrev pub lines_given : Session → ℕ
lines_given session = feeding.lines_read session.feeder

-- the bytes that were read and are in no line yet
abbrev pub held_by : Session → List ℕ
held_by session = feeding.held_by session.feeder

-- whether the source's end was met
abbrev pub met_end : Session → Bool
met_end session = feeding.met_end session.feeder

-- the result events that each reader has made
abbrev pub counts_of : Session → List ℕ
counts_of session = counts_in session.followers.items

-- no answer was given for good, and these lines were fed, the latest first, of which none has a flaw: the table's steps are theirs. The source told these bytes when the session started, if it tells any, has these left, and was read for these lines alone
abbrev pub HasBeenFed : Session → Option (List ℕ) → Option (List ℕ) → List Line → Type 0
HasBeenFed session told left lines = feeding.HasBeenFed session.feeder session.table.limits session.table.cells told left lines

-- the table is the one that the lines fed have filled, and each reader has given what its rules make of steps that the table has grown from
pub record Holds (session : Session) : Type 0 where
  pub fills : feeding.CanFeed session.feeder session.table.limits session.table.cells
  pub runs : AreBehind session.table.cells.steps session.followers.items
