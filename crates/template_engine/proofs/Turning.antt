-- Turns, by what was left before them.
use Rattle.std.proofs.Common.{◌≡◌, sym, ◌∙◌, subst, ℕ, List, Option, Some, None}
use Rattle.doc_laws.proofs.Root.{lawful_before}
use Rattle.doc_model.specs.Lawful.{AtStep, Grows, IsLawful}
use Rattle.doc_model.specs.View.{Seen}
use Rattle.doc_model.specs.declared.step.Step.{Step}
use Rattle.engine_core.proofs.Growing.{sound_later}
use Rattle.engine_core.proofs.Keeping.{world_goes_on}
use Rattle.engine_core.specs.Holding.{Scene, scene_of, world_at}
use Rattle.engine_core.specs.Moving.{Stayed}
use Rattle.engine_core.specs.Standing.{left_of, made, stand_of, state_in}
use Rattle.engine_core.specs.declared.state.Core.{Core}
use Rattle.engine_laws.proofs.Grows.{transforms_keep}
use Rattle.engine_laws.specs.Growing.{Begins, Continues, Later, state_of}
use Rattle.engine_meaning.specs.Meaning.{at_first}
use Rattle.engine_meaning.specs.Places.{World}
use Rattle.engine_meaning.specs.Runs.{Done, Faulted, Waits}
use Rattle.engine_questions.specs.Asking.{Asked, Kept}
use Rattle.engine_questions.specs.Walks.{Follows, GoesOnSo, Walk}
use Rattle.fault_kinds.specs.declared.fault.FaultKind.{FaultKind}
use Rattle.frame_meaning.proofs.Lasting.{rest_lasts}
use Rattle.key_sources.specs.Going.{Fits}
use Rattle.template_engine.proofs.Continuing.{continues_on, continues_same}
use Rattle.template_engine.specs.Turns.{GoesOn, IsAt, IsOf, given, means}
use Rattle.template_engine.specs.declared.machine.Ended.{Ended}
use Rattle.template_engine.specs.declared.machine.Ended.TheVariants as ended
use Rattle.template_engine.specs.declared.machine.Machine.{Machine}

-- what was made before begins what is left to be made
pub begins_left : {S : Type 0} (m : Core S) (w : World) → Begins (made m) (state_of (left_of m w))
begins_left m w = (rest_lasts m.sheet.now w w (continues_same w) m.frames (stand_of m)).adds (state_in m)

pub goes_on : {S : Type 0} (z : Scene S) (steps : List Step) (m : Machine S) → m.ended ≡ None → IsOf z steps m → GoesOn z steps m
goes_on z steps m none is = subst (λ (e : Option Ended). IsAt e z steps m) none is.is

module _ {S M N : Type 0} (walks : S → Walk) (follows : S → Follows) {asked now : Asked N} {before later : Seen M} {fits : Fits} (k : Kept before later asked now fits)
    (m : Machine S) (none : m.ended ≡ None) (is : IsOf (scene_of walks follows asked before) before.steps m) (new : Core S) where
  abbrev z : Scene S
  z = scene_of walks follows asked before

  left_at : (steps : List Step) → Grows before.steps steps → IsLawful steps → means m (world_at z steps) ≡ left_of m.core (world_at z steps)
  left_at steps g l = (goes_on z before.steps m none is).left (world_at z steps) (world_goes_on z.lookups z.rules before.steps steps g l)

  pub is_done : left_of m.core (world_at z later.steps) ≡ Done tt (made new) → means m (world_at z later.steps) ≡ Done tt (made new)
  is_done h = left_at later.steps k.moves.grows k.moves.seen.lawful ∙ h

  pub is_faulted : (fault : FaultKind) → left_of m.core (world_at z later.steps) ≡ Faulted fault (made new) → means m (world_at z later.steps) ≡ Faulted fault (made new)
  is_faulted fault h = left_at later.steps k.moves.grows k.moves.seen.lawful ∙ h

  pub is_waiting : (n : ℕ) → Stayed z before.steps later.steps (left_of m.core) n m.core new → AtStep before.steps later.steps (λ steps. means m (world_at z steps) ≡ Waits n (made new))
  is_waiting n s = (s.waits.0, s.waits.1, s.waits.2, left_at s.waits.0 s.waits.1 (lawful_before s.waits.0 later.steps s.waits.2 k.moves.seen.lawful) ∙ s.waits.3)

  pub stays_so : (n : ℕ) → Stayed z before.steps later.steps (left_of m.core) n m.core new → IsOf z later.steps (record m { core = new })
  stays_so n s = record {
    is = subst (λ (e : Option Ended). IsAt e z later.steps (record m { core = new })) (sym none) (record {
      sheet = s.sheet ∙ (goes_on z before.steps m none is).sheet;
      left = λ w x.
          (goes_on z before.steps m none is).left w (continues_on _ _ w (world_goes_on z.lookups z.rules before.steps later.steps k.moves.grows k.moves.seen.lawful) x)
          ∙ s.left w x;
      sound = s.sound;
    });
  }

  pub adds_done : left_of m.core (world_at z later.steps) ≡ Done tt (made new) → Begins (given m) (made new)
  adds_done h = subst (λ r. Begins (made m.core) (state_of r)) h (begins_left m.core (world_at z later.steps))

  pub adds_faulted : (fault : FaultKind) → left_of m.core (world_at z later.steps) ≡ Faulted fault (made new) → Begins (given m) (made new)
  adds_faulted fault h = subst (λ r. Begins (made m.core) (state_of r)) h (begins_left m.core (world_at z later.steps))

  pub adds_waiting : (n : ℕ) → Stayed z before.steps later.steps (left_of m.core) n m.core new → Begins (given m) (made new)
  adds_waiting n s = subst (λ r. Begins (made m.core) (state_of r)) s.waits.3 (begins_left m.core (world_at z s.waits.0))

-- between turns

module _ {S : Type 0} (z : Scene S) (on : (stream : S) → GoesOnSo (z.follows stream)) (before later : List Step) (grows : Grows before later) (lawful : IsLawful later) where
  abbrev onward : Continues (world_at z before) (world_at z later)
  onward = world_goes_on z.lookups z.rules before later grows lawful

  later_at : (m : Machine S) → Later (means m (world_at z before)) (means m (world_at z later))
  later_at m = (transforms_keep m.sheet.now m.order.now _ _ onward).later (at_first m.budget)

  at_later : (e : Option Ended) (m : Machine S) → IsAt e z before m → IsAt e z later m
  at_later None m h = record { sheet = h.sheet; left = λ w x. h.left w (continues_on _ _ w onward x); sound = sound_later z on before later grows lawful m.core.frames m.core h.sound }
  at_later (Some ended.Done) m h = subst (λ r. Later r (means m (world_at z later))) h (later_at m)
  at_later (Some (ended.Faulted fault)) m h = subst (λ r. Later r (means m (world_at z later))) h (later_at m)
  at_later (Some ended.Spent) m h = tt

  pub is_of_later : (m : Machine S) → IsOf z before m → IsOf z later m
  is_of_later m h = record { is = at_later m.ended m h.is }
