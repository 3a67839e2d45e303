-- What becomes of what was found for a variable that stands in a frame.
use Rattle.std.proofs.Common.{◌≡◌, ℕ, List, sym, ◌∙◌, Result, Ok, Err}
use Rattle.doc_laws.proofs.Growth.{Grows-refl}
use Rattle.doc_model.specs.Lawful.{IsLawful}
use Rattle.doc_model.specs.declared.step.Step.{Step}
use Rattle.engine_core.proofs.Keeping.{world_goes_on}
use Rattle.engine_core.specs.Holding.{Scene, world_at}
use Rattle.engine_core.specs.Moving.{Does, Goes, Left}
use Rattle.engine_core.specs.Standing.{measure}
use Rattle.engine_core.specs.declared.state.Core.{Core}
use Rattle.engine_laws.specs.Growing.{Continues}
use Rattle.xpath_meaning.specs.declared.stop.EvalStop.{EvalStop}
use Rattle.xpath_meaning.specs.declared.stop.EvalStop.TheVariants.{NotYet, Fault, Memory}

-- what is seen is seen of the same steps
pub world_stays : {S : Type 0} (z : Scene S) (steps : List Step) → IsLawful steps → Continues (world_at z steps) (world_at z steps)
world_stays z steps lawful = world_goes_on z.lookups z.rules steps steps (Grows-refl steps) lawful

-- a move that is asked nothing more, from another place with the same frames and budget
pub goes_from : {S A : Type 0} (z : Scene S) (before later : List Step) (what : Left) (load : ℕ) (old from new : Core S) (r : Result A EvalStop) → from.sheet ≡ old.sheet → measure from ≡ measure old
    → Does z later what load from new r → Goes z before later what load old new r
goes_from z before later what load old from new (Ok x) sheet same d = record { sheet = d.sheet ∙ sheet; left = d.left; lighter = rw (sym same) d.lighter; sound = d.sound }
goes_from z before later what load old from new (Err (Fault k)) sheet same d = d
goes_from z before later what load old from new (Err (NotYet n)) sheet same d = absurd d
goes_from z before later what load old from new (Err Memory) sheet same d = tt
