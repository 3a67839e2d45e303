-- What the moves of a machine answer, one after the other.
use Rattle.std.specs.Prelude.{◌≡◌, List, Bool, true, false, Result, Ok, Err, ⊤}
use Rattle.doc_model.specs.declared.step.Step.{Step}
use Rattle.engine_core.specs.Holding.{Scene, world_at}
use Rattle.engine_core.specs.Moving.{Moved, Stayed}
use Rattle.engine_core.specs.Standing.{left_of, made}
use Rattle.engine_core.specs.declared.state.Core.{Core}
use Rattle.engine_meaning.specs.Runs.{Done, Faulted}
use Rattle.xpath_meaning.specs.declared.stop.EvalStop.{EvalStop}
use Rattle.xpath_meaning.specs.declared.stop.EvalStop.TheVariants as stop

-- the next move, if one is left
abbrev pub Steps : {S : Type 0} → Scene S → List Step → List Step → Core S → Core S → Result Bool EvalStop → Type 0
Steps z before later old new (Ok true) = Moved z later (left_of old) 0 old new
Steps z before later old new (Ok false) = left_of old (world_at z later) ≡ Done tt (made new)
Steps z before later old new (Err (stop.Fault fault)) = left_of old (world_at z later) ≡ Faulted fault (made new)
Steps z before later old new (Err (stop.NotYet m)) = Stayed z before later (left_of old) m old new
Steps z before later old new (Err stop.Memory) = ⊤

-- moves until nothing is left, or one stops
abbrev pub Runs : {S : Type 0} → Scene S → List Step → List Step → Core S → Core S → Result (Unit {0}) EvalStop → Type 0
Runs z before later old new (Ok x) = left_of old (world_at z later) ≡ Done tt (made new)
Runs z before later old new (Err (stop.Fault fault)) = left_of old (world_at z later) ≡ Faulted fault (made new)
Runs z before later old new (Err (stop.NotYet m)) = Stayed z before later (left_of old) m old new
Runs z before later old new (Err stop.Memory) = ⊤
