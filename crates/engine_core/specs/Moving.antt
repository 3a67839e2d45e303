-- What the moves of a machine leave and answer.
use Rattle.std.specs.Prelude.{◌≡◌, ℕ, ◌+◌, ◌<◌, List, Result, Ok, Err, ⊤}
use Rattle.doc_model.specs.Lawful.{AtStep}
use Rattle.doc_model.specs.declared.step.Step.{Step}
use Rattle.engine_core.specs.Holding.{Scene, Sound, world_at}
use Rattle.engine_core.specs.Standing.{left_of, made, measure}
use Rattle.engine_core.specs.declared.state.Core.{Core}
use Rattle.engine_laws.specs.Growing.{Continues}
use Rattle.engine_meaning.specs.Places.{World}
use Rattle.engine_meaning.specs.Runs.{Ran, Faulted, Waits}
use Rattle.xpath_meaning.specs.declared.stop.EvalStop.{EvalStop}
use Rattle.xpath_meaning.specs.declared.stop.EvalStop.TheVariants as stop

-- a transformation, by what is seen
abbrev pub Left : Type 0
Left = World → Ran (Unit {0})

-- a move was made: what was left is what is left now, on every growth; and it is less
pub record Moved {S : Type 0} (z : Scene S) (steps : List Step) (what : Left) (load : ℕ) (old new : Core S) : Type 0 where
  pub sheet : new.sheet ≡ old.sheet
  pub left : (u : World) → Continues (world_at z steps) u → what u ≡ left_of new u
  pub lighter : measure new < measure old + load
  pub sound : Sound z steps new.frames new

-- what is left waits for this row at a step of the call, with just what was made
abbrev pub WaitsAt : {S : Type 0} → Scene S → List Step → List Step → Left → ℕ → Core S → Type 0
WaitsAt z before later what m new = AtStep before later (λ steps. what (world_at z steps) ≡ Waits m (made new))

-- nothing was done yet
pub record Waited {S : Type 0} (z : Scene S) (before later : List Step) (what : Left) (m : ℕ) (old new : Core S) : Type 0 where
  pub same : new ≡ old
  pub waits : WaitsAt z before later what m new

-- what is left is what was left
pub record Stayed {S : Type 0} (z : Scene S) (before later : List Step) (what : Left) (m : ℕ) (old new : Core S) : Type 0 where
  pub sheet : new.sheet ≡ old.sheet
  pub left : (u : World) → Continues (world_at z later) u → what u ≡ left_of new u
  pub waits : WaitsAt z before later what m new
  pub sound : Sound z later new.frames new

-- a move whose instruction or frame is in the caller's hand
abbrev pub Tries : {S A : Type 0} → Scene S → List Step → List Step → Left → ℕ → Core S → Core S → Result A EvalStop → Type 0
Tries z before later what load old new (Ok x) = Moved z later what load old new
Tries z before later what load old new (Err (stop.Fault fault)) = what (world_at z later) ≡ Faulted fault (made new)
Tries z before later what load old new (Err (stop.NotYet m)) = Waited z before later what m old new
Tries z before later what load old new (Err stop.Memory) = ⊤

-- a move that asks nothing of the document, so that it never waits
abbrev pub Does : {S A : Type 0} → Scene S → List Step → Left → ℕ → Core S → Core S → Result A EvalStop → Type 0
Does z steps what load old new (Ok x) = Moved z steps what load old new
Does z steps what load old new (Err (stop.Fault fault)) = what (world_at z steps) ≡ Faulted fault (made new)
Does z steps what load old new (Err (stop.NotYet m)) = ⊥
Does z steps what load old new (Err stop.Memory) = ⊤

-- a move that puts its frame back where it waits
abbrev pub Goes : {S A : Type 0} → Scene S → List Step → List Step → Left → ℕ → Core S → Core S → Result A EvalStop → Type 0
Goes z before later what load old new (Ok x) = Moved z later what load old new
Goes z before later what load old new (Err (stop.Fault fault)) = what (world_at z later) ≡ Faulted fault (made new)
Goes z before later what load old new (Err (stop.NotYet m)) = Stayed z before later what m old new
Goes z before later what load old new (Err stop.Memory) = ⊤
