-- Moves, one after the other, on a document that grows between them.
use Rattle.std.proofs.Common.{◌≡◌, refl, sym, ◌∙◌, subst, List, Bool, true, Result, Ok, Err}
use Rattle.std.specs.Prelude.{IsErrAnd}
use Rattle.doc_laws.proofs.Growth.{Grows-trans}
use Rattle.doc_laws.proofs.Root.{lawful_before}
use Rattle.doc_model.specs.Lawful.{Grows, IsLawful}
use Rattle.doc_model.specs.View.{Seen}
use Rattle.doc_model.specs.declared.step.Step.{Step}
use Rattle.engine_core.proofs.Keeping.{world_goes_on}
use Rattle.engine_core.specs.Holding.{Ready, Scene, Sound, scene_of, world_at}
use Rattle.engine_core.specs.Moving.{Moved}
use Rattle.engine_core.specs.Standing.{left_of}
use Rattle.engine_core.specs.declared.state.Core.{Core}
use Rattle.engine_laws.specs.Growing.{Continues}
use Rattle.engine_meaning.specs.Places.{World}
use Rattle.engine_questions.specs.Asking.{Asked, Kept}
use Rattle.engine_questions.specs.Walks.{Follows, Walk}
use Rattle.key_sources.specs.Going.{Fits}
use Rattle.template_engine.proofs.Continuing.{continues_on}
use Rattle.template_engine.proofs.Stepping.{run_err}
use Rattle.template_engine.specs.Steps.{Runs, Steps}
use Rattle.xpath_meaning.specs.declared.stop.EvalStop.{EvalStop}

module _ {S M N : Type 0} (walks : S → Walk) (follows : S → Follows) {asked now : Asked N} {before mid : Seen M} {fits : Fits} (k : Kept before mid asked now fits) where
  abbrev z : Scene S
  z = scene_of walks follows asked before

  -- the scene stays
  pub scenes_same : z ≡ scene_of walks follows now mid
  scenes_same = rw (k.stays, k.moves.rules_stay) refl

  -- the document may be asked again
  pub ready_again : {m : Core S} → Sound z mid.steps m.frames m → Ready walks follows now mid fits m.frames m
  ready_again {m} s = record { stands = k.stands; sound = subst (λ z. Sound z mid.steps m.frames m) scenes_same s }

  module _ (start old : Core S) (sheet : old.sheet ≡ start.sheet) (left : (u : World) → Continues (world_at z mid.steps) u → left_of start u ≡ left_of old u)
      {then : Asked N} {later : Seen M} {behind : Fits} (h : Kept mid later now then behind) where
    goes_to : (steps : List Step) → Grows mid.steps steps → IsLawful steps → Continues (world_at z mid.steps) (world_at z steps)
    goes_to steps g l = world_goes_on z.lookups z.rules mid.steps steps g l

    left_later : (u : World) → Continues (world_at z later.steps) u → left_of start u ≡ left_of old u
    left_later u x = left u (continues_on _ _ u (goes_to later.steps h.moves.grows h.moves.seen.lawful) x)

    -- one move more
    pub more_moved : (new : Core S) (b : Bool) → b ≡ true → Steps (scene_of walks follows now mid) mid.steps later.steps old new (Ok b) → Moved z later.steps (left_of start) 0 old new
    more_moved new b is s =
        let moved : Moved z later.steps (left_of old) 0 old new =
        subst (λ z. Moved z later.steps (left_of old) 0 old new) (sym scenes_same) (subst (λ b. Steps (scene_of walks follows now mid) mid.steps later.steps old new (Ok b)) is s) in
        record { sheet = moved.sheet; left = λ u x. left_later u x ∙ moved.left u x; lighter = moved.lighter; sound = moved.sound }

    -- a move stopped
    pub stopped : (new : Core S) (e : EvalStop) (r : Result (Unit {0}) EvalStop) → Steps (scene_of walks follows now mid) mid.steps later.steps old new (Err e) → IsErrAnd r (λ x. x ≡ e)
        → Runs z before.steps later.steps start new r
    stopped new e r s is =
        run_err z before.steps mid.steps later.steps start old new e r k.moves.grows sheet
        (λ steps g l. left (world_at z steps) (goes_to steps g (lawful_before steps later.steps l h.moves.seen.lawful))) h.moves.grows (λ steps g. Grows-trans before.steps mid.steps steps k.moves.grows g)
        left_later (subst (λ z. Steps z mid.steps later.steps old new (Err e)) (sym scenes_same) s) is
        (left (world_at z later.steps) (goes_to later.steps h.moves.grows h.moves.seen.lawful))
