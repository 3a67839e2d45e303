-- A frame that is put back on the stack, as its question is not answered.
use Rattle.std.proofs.Common.{◌≡◌, refl, sym, subst, ℕ, List, ◌∷◌, length, reverse, false, Err}
use Rattle.std.specs.Borrow.{Bor}
use Rattle.doc_model.specs.Lawful.{AtStep}
use Rattle.doc_model.specs.declared.step.Step.{Step}
use Rattle.engine_core.proofs.Asking.{Hears}
use Rattle.engine_core.proofs.Moves.{Hangs, put_back}
use Rattle.engine_core.proofs.Topping.{body_on_top}
use Rattle.engine_core.specs.Holding.{Holds, Scene, Sound, world_at}
use Rattle.engine_core.specs.Moving.{Goes, Left}
use Rattle.engine_core.specs.Standing.{left_with, stand_of, state_in}
use Rattle.engine_core.specs.declared.state.Core.{Core}
use Rattle.engine_meaning.specs.Places.{World}
use Rattle.engine_meaning.specs.Runs.{Faulted, State, Waits}
use Rattle.frame_meaning.specs.Apart.{surface}
use Rattle.frames.specs.Apart.{base}
use Rattle.frames.specs.declared.frame.Frame.{Frame}
use Rattle.frames.specs.declared.frame.Frame.TheVariants as f
use Rattle.sheet_ast.specs.declared.instruction.Instruction.{Instruction}
use Rattle.xpath_meaning.specs.Outcome.{Outcome}
use Rattle.xpath_meaning.specs.declared.stop.EvalStop.{EvalStop}
use Rattle.xpath_meaning.specs.declared.stop.EvalStop.TheVariants.{NotYet, Fault, Memory}

abbrev pub with_frames : {S : Type 0} → Core S → List Frame → Core S
with_frames m frames = record m { frames = frames }

-- what was sound with a frame in hand is sound with it on the stack
pub sound_back : {S : Type 0} {z : Scene S} {steps : List Step} {m : Core S} {frames : List Frame} → Sound z steps frames m → Sound z steps frames (with_frames m frames)
sound_back s = record { root = s.root; sizes = s.sizes; globals = s.globals; locals = s.locals; context = s.context; holds = s.holds }

pub back_on : {S A : Type 0} (B : Type 0) (z : Scene S) (before later : List Step) (at : World → Outcome A) (load : ℕ) (m : Core S) (frame : Frame) (frames : List Frame) (e : EvalStop)
    → frames ≡ frame ∷ m.frames → Sound z later (frame ∷ m.frames) m → Hangs at (left_with (frame ∷ m.frames) m) (with_frames m (frame ∷ m.frames))
    → Hears {A = A} z before later at (Err e) → Goes {A = B} z before later (left_with (frame ∷ m.frames) m) load m (with_frames m frames) (Err e)
back_on B z before later at load m frame frames e is sound h a =
    subst (λ on. Goes {A = B} z before later (left_with (frame ∷ m.frames) m) load m (with_frames m on) (Err e)) (sym is)
    (put_back B z before later at _ load m (with_frames m (frame ∷ m.frames)) e refl (λ u. refl) (sound_back sound) h a)

-- a body on top of other frames, at the same place
pub sound_body : {S : Type 0} {z : Scene S} {steps : List Step} {m : Core S} {held : List Frame} (frames : List Frame) (body : Bor (List Instruction)) → Sound z steps held m
    → Holds z steps frames (stand_of m) (reverse m.streams) → Sound z steps (f.Body body false (length m.locals) ∷ frames) (with_frames m (f.Body body false (length m.locals) ∷ frames))
sound_body {z = z} {steps} {m} frames body s holds = record {
  root = s.root;
  sizes = s.sizes;
  globals = s.globals;
  locals = s.locals;
  context = s.context;
  holds = body_on_top z steps frames (stand_of m) (reverse m.streams) body false holds;
}

-- what is left stops with what was made, for this reason
abbrev pub Stops : {S : Type 0} → Scene S → List Step → List Step → Left → State → EvalStop → Type 0
Stops z before later what made (Fault k) = what (world_at z later) ≡ Faulted k made
Stops z before later what made (NotYet n) = AtStep before later (λ steps. what (world_at z steps) ≡ Waits n made)
Stops z before later what made Memory = Unit {0}

pub back_by : {S : Type 0} (B : Type 0) (z : Scene S) (before later : List Step) (load : ℕ) (m : Core S) (frame : Frame) (frames : List Frame) (e : EvalStop)
    → frames ≡ frame ∷ m.frames → Sound z later (frame ∷ m.frames) m → Stops z before later (left_with (frame ∷ m.frames) m) (surface (base (frame ∷ m.frames)) (state_in m)) e
    → Goes {A = B} z before later (left_with (frame ∷ m.frames) m) load m (with_frames m frames) (Err e)
back_by B z before later load m frame frames e is sound a =
    subst (λ on. Goes {A = B} z before later (left_with (frame ∷ m.frames) m) load m (with_frames m on) (Err e)) (sym is) (here e a)
  where
    here : (e : EvalStop) → Stops z before later (left_with (frame ∷ m.frames) m) (surface (base (frame ∷ m.frames)) (state_in m)) e
        → Goes {A = B} z before later (left_with (frame ∷ m.frames) m) load m (with_frames m (frame ∷ m.frames)) (Err e)
    here (Fault k) a = a
    here (NotYet n) a = record { sheet = refl; left = λ u x. refl; waits = a; sound = sound_back sound }
    here Memory a = tt
