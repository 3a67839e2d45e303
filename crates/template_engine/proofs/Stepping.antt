-- How moves make what a machine answers.
use Rattle.std.proofs.Common.{◌≡◌, sym, ap, ◌∙◌, subst, ℕ, List, ◌∷◌, Bool, Result, Ok, Err, arith}
use Rattle.std.specs.Prelude.{IsErrAnd}
use Rattle.doc_model.specs.Lawful.{Grows}
use Rattle.doc_model.specs.declared.step.Step.{Step}
use Rattle.engine_core.specs.Holding.{Scene, Sound, world_at}
use Rattle.engine_core.specs.Moving.{Goes, Left, Moved, Tries}
use Rattle.engine_core.specs.Standing.{left_of, left_with, made}
use Rattle.engine_core.specs.Weight.{weight, weight_of}
use Rattle.engine_core.specs.declared.state.Core.{Core}
use Rattle.engine_laws.specs.Growing.{Continues}
use Rattle.engine_meaning.specs.Places.{World}
use Rattle.engine_meaning.specs.Runs.{Faulted, Waits}
use Rattle.frames.specs.declared.frame.Frame.{Frame}
use Rattle.template_engine.specs.Steps.{Runs, Steps}
use Rattle.xpath_meaning.specs.declared.stop.EvalStop.{EvalStop}
use Rattle.xpath_meaning.specs.declared.stop.EvalStop.TheVariants as stop

-- an instruction that stopped is put back, with its unit
pub put_back_begun : {S : Type 0} (A B : Type 0) (z : Scene S) (before later : List Step) (what tried : Left) (load : ℕ) (old mid new : Core S) (e : EvalStop)
    → ((u : World) → what u ≡ tried u) → new.sheet ≡ mid.sheet → made new ≡ made mid → (mid ≡ old → (u : World) → what u ≡ left_of new u) → (mid ≡ old → Sound z later new.frames new)
    → Tries {A = A} z before later tried load old mid (Err e) → Goes {A = B} z before later what load old new (Err e)
put_back_begun A B z before later what tried load old mid new (stop.Fault k) same sheet makes left sound t = same (world_at z later) ∙ t ∙ ap (Faulted k) (sym makes)
put_back_begun A B z before later what tried load old mid new (stop.NotYet n) same sheet makes left sound t = record {
  sheet = sheet ∙ ap (λ (m : Core _). m.sheet) t.same;
  left = λ u x. left t.same u;
  waits = (t.waits.0, t.waits.1, t.waits.2, same (world_at z t.waits.0) ∙ t.waits.3 ∙ ap (Waits n) (sym makes));
  sound = sound t.same;
}
put_back_begun A B z before later what tried load old mid new stop.Memory same sheet makes left sound t = tt

-- the exit of a move that was made
pub step_ok : {S : Type 0} (z : Scene S) (later : List Step) (old : Core S) (frame : Frame) (fs : List Frame) (new : Core S) → old.frames ≡ frame ∷ fs
    → Moved z later (left_with (frame ∷ fs) (record old { frames = fs })) (weight_of frame) (record old { frames = fs }) new → Moved z later (left_of old) 0 old new
step_ok z later old frame fs new is g = record {
  sheet = g.sheet;
  left = λ u x. ap (λ l. left_with l old u) is ∙ g.left u x;
  lighter = omega (arith, g.lighter, ap weight is);
  sound = g.sound;
}

-- the exit of a move that stopped
pub step_err : {S : Type 0} (z : Scene S) (before later : List Step) (old : Core S) (frame : Frame) (fs : List Frame) (new : Core S) (load : ℕ) (e : EvalStop) (r : Result Bool EvalStop)
    → old.frames ≡ frame ∷ fs → Goes {A = Unit {0}} z before later (left_with (frame ∷ fs) (record old { frames = fs })) load (record old { frames = fs }) new (Err e)
    → IsErrAnd r (λ x. x ≡ e) → Steps z before later old new r
step_err z before later old frame fs new load e (Ok b) is g h = absurd h
step_err z before later old frame fs new load e (Err x) is g h = subst (λ x. Steps z before later old new (Err x)) (sym h) (so e g) where
  same : (u : World) → left_of old u ≡ left_with (frame ∷ fs) old u
  same u = ap (λ l. left_with l old u) is

  so : (e : EvalStop) → Goes {A = Unit {0}} z before later (left_with (frame ∷ fs) (record old { frames = fs })) load (record old { frames = fs }) new (Err e) → Steps z before later old new (Err e)
  so (stop.Fault k) g = same (world_at z later) ∙ g
  so (stop.NotYet n) g = record {
    sheet = g.sheet;
    left = λ u x. same u ∙ g.left u x;
    waits = (g.waits.0, g.waits.1, g.waits.2, same (world_at z g.waits.0) ∙ g.waits.3);
    sound = g.sound;
  }
  so stop.Memory g = tt

-- the exit of moves of which the last stopped
pub run_err : {S : Type 0} (z : Scene S) (before mid later : List Step) (start old new : Core S) (e : EvalStop) (r : Result (Unit {0}) EvalStop) → Grows before mid
    → old.sheet ≡ start.sheet → ((steps : List Step) → Grows mid steps → Grows steps later → left_of start (world_at z steps) ≡ left_of old (world_at z steps)) → Grows mid later
    → ((steps : List Step) → Grows mid steps → Grows before steps) → ((u : World) → Continues (world_at z later) u → left_of start u ≡ left_of old u)
    → Steps z mid later old new (Err e) → IsErrAnd r (λ x. x ≡ e) → left_of start (world_at z later) ≡ left_of old (world_at z later) → Runs z before later start new r
run_err z before mid later start old new e (Ok b) b0 sheet at ml bs left s h now = absurd h
run_err z before mid later start old new e (Err x) b0 sheet at ml bs left s h now = subst (λ x. Runs z before later start new (Err x)) (sym h) (so e s) where
  so : (e : EvalStop) → Steps z mid later old new (Err e) → Runs z before later start new (Err e)
  so (stop.Fault k) s = now ∙ s
  so (stop.NotYet n) s = record {
    sheet = s.sheet ∙ sheet;
    left = λ u y. left u y ∙ s.left u y;
    waits = (s.waits.0, bs s.waits.0 s.waits.1, s.waits.2, at s.waits.0 s.waits.1 s.waits.2 ∙ s.waits.3);
    sound = s.sound;
  }
  so stop.Memory s = tt
