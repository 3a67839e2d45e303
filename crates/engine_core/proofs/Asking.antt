-- When a machine may ask, and what it hears.
use Rattle.std.proofs.Common.{◌≡◌, refl, subst, List, [], ◌∷◌, ◌++◌, Result, Ok, Err}
use Rattle.doc_model.specs.Answers as answer
use Rattle.doc_model.specs.Lawful.{AtStep}
use Rattle.doc_model.specs.View.{Seen}
use Rattle.doc_model.specs.declared.step.Step.{Step}
use Rattle.engine_core.proofs.Growing.{sound_later}
use Rattle.engine_core.specs.Holding.{Ready, Scene, Sound, scene_of, world_at}
use Rattle.engine_core.specs.declared.state.Core.{Core}
use Rattle.engine_meaning.specs.Places.{World}
use Rattle.engine_questions.specs.Asking.{Asked, IsNode, IsReady, Kept, Shows}
use Rattle.engine_questions.specs.Walks.{Follows, GoesOnSo, Walk}
use Rattle.frames.specs.declared.frame.Frame.{Frame}
use Rattle.key_sources.specs.Going.{Fits}
use Rattle.xpath_laws.specs.Sound.{Each}
use Rattle.xpath_meaning.specs.Outcome.{Outcome}
use Rattle.xpath_meaning.specs.declared.stop.EvalStop.{EvalStop}
use Rattle.xpath_meaning.specs.declared.stop.EvalStop.TheVariants.{NotYet, Fault, Memory}

pub each_append : {A : Type 0} (P : A → Type 0) (xs ys : List A) → Each P xs → Each P ys → Each P (xs ++ ys)
each_append P [] ys h k = k
each_append P (x ∷ xs) ys h k = (h.0, each_append P xs ys h.1 k)

-- what was heard of the document: what is known at the end, a fault there, or what was open at a step
abbrev pub Hears : {S A : Type 0} → Scene S → List Step → List Step → (World → Outcome A) → Result A EvalStop → Type 0
Hears z before later at (Ok x) = at (world_at z later) ≡ answer.Known x
Hears z before later at (Err (Fault fault)) = at (world_at z later) ≡ answer.Fault fault
Hears z before later at (Err (NotYet m)) = AtStep before later (λ steps. at (world_at z steps) ≡ answer.Open m)
Hears z before later at (Err Memory) = Unit {0}

module _ {S M N : Type 0} {walks : S → Walk} {follows : S → Follows} {asked : Asked N} {seen : Seen M} {fits : Fits} {frames : List Frame} {m : Core S} where
  -- an expression may be evaluated
  pub ready_for : Ready walks follows asked seen fits frames m → IsReady seen fits (m.globals ++ m.locals) m.context
  ready_for r = record { stands = r.stands; values = each_append _ m.globals m.locals r.sound.globals r.sound.locals; context = r.sound.context }

  -- the context node may be asked about
  pub node_for : Ready walks follows asked seen fits frames m → IsNode seen fits m.context.node
  node_for r = record { stands = r.stands; there = r.sound.context.node }

module _ {S M N : Type 0} (walks : S → Walk) (follows : S → Follows) {asked now : Asked N} {before later : Seen M} {fits : Fits} (k : Kept before later asked now fits) where
  pub heard : {A : Type 0} {at : World → Outcome A} (result : Result A EvalStop) → Shows asked.lookups at before later result
      → Hears (scene_of walks follows asked before) before.steps later.steps at result
  heard {at = at} (Ok x) s = subst (λ rules. at (world_at (record (scene_of walks follows asked before) { rules = rules }) later.steps) ≡ answer.Known x) k.moves.rules_stay s.answers
  heard {at = at} (Err (Fault fault)) s =
      subst (λ rules. at (world_at (record (scene_of walks follows asked before) { rules = rules }) later.steps) ≡ answer.Fault fault) k.moves.rules_stay s.answers
  heard {at = at} (Err (NotYet m)) s =
      subst (λ rules. AtStep before.steps later.steps (λ steps. at (world_at (record (scene_of walks follows asked before) { rules = rules }) steps) ≡ answer.Open m)) k.moves.rules_stay s.answers
  heard (Err Memory) s = tt

  -- what was held is held behind the question
  pub sound_behind : ((stream : S) → GoesOnSo (follows stream)) → {frames : List Frame} {m : Core S} → Sound (scene_of walks follows asked before) before.steps frames m
      → Sound (scene_of walks follows asked before) later.steps frames m
  sound_behind on {frames} {m} s = sound_later _ on before.steps later.steps k.moves.grows k.moves.seen.lawful frames m s

  scenes_same : scene_of walks follows asked before ≡ scene_of walks follows now later
  scenes_same = rw (k.stays, k.moves.rules_stay) refl

  -- and the document may be asked again
  pub ready_behind : {frames : List Frame} {m : Core S} → Sound (scene_of walks follows asked before) later.steps frames m → Ready walks follows now later fits frames m
  ready_behind {frames} {m} s = record { stands = k.stands; sound = subst (λ z. Sound z later.steps frames m) scenes_same s }

-- what was heard to be known is known on every growth
pub still_known : {A : Type 0} (o p : Outcome A) (x : A) → o ≡ answer.Known x → answer.Stays o p → p ≡ answer.Known x
still_known o p x is stays = subst (λ o. answer.Stays o p) is stays
