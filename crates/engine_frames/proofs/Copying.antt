-- How nodes are copied, one after the other.
use Rattle.std.proofs.Common.{◌≡◌, refl, sym, subst, ℕ, suc, ◌+◌, ◌<◌, List, ◌∷◌, ◌++◌, drop, length, arith, slice_get, Some, None}
use Rattle.std.proofs.lemmas.Option.{slice_get_within}
use Rattle.doc_model.specs.Answers as answer
use Rattle.doc_model.specs.declared.step.Step.{Step}
use Rattle.engine_core.proofs.Asking.{Hears, still_known}
use Rattle.engine_core.proofs.Moves.{put_back}
use Rattle.engine_core.specs.Holding.{Scene, Sound, there, world_at}
use Rattle.engine_core.specs.Moving.{Goes, Moved}
use Rattle.engine_core.specs.Standing.{left_with, stand_of, state_in}
use Rattle.engine_core.specs.Weight.{weight_of}
use Rattle.engine_core.specs.declared.state.Core.{Core}
use Rattle.engine_frames.proofs.Listed.{none_left, one_next, each_get}
use Rattle.frame_meaning.proofs.Items.{copies_end, copy_moves, copy_fails, copy_waits}
use Rattle.frames.specs.declared.frame.Frame.{Frame}
use Rattle.frames.specs.declared.frame.Frame.TheVariants as f
use Rattle.result_events.specs.declared.event.ResultEvent.{ResultEvent}
use Rattle.xpath_meaning.specs.declared.stop.EvalStop.{EvalStop}
use Rattle.std.specs.Prelude.{Err}

module _ {S : Type 0} (z : Scene S) (m : Core S) (nodes : List ℕ) (next : ℕ) where
  abbrev pub copied : Frame
  copied = f.Copies nodes next

  pub node_there : (steps : List Step) (n : ℕ) → Sound z steps (copied ∷ m.frames) m → slice_get nodes next ≡ Some n → there z steps n
  node_there steps n s is = each_get (there z steps) nodes next n s.holds.0 is

  pub copies_over : (steps : List Step) → Sound z steps (copied ∷ m.frames) m → slice_get nodes next ≡ None → Moved z steps (left_with (copied ∷ m.frames) m) (weight_of copied) m m
  copies_over steps s none = record {
    sheet = refl;
    left = λ u x. copies_end m.sheet.now u m.frames (stand_of m) (state_in m) nodes next (none_left nodes next none);
    lighter = omega arith;
    sound = record { root = s.root; sizes = s.sizes; globals = s.globals; locals = s.locals; context = s.context; holds = s.holds.1 };
  }

  pub copies_on : (steps : List Step) (n : ℕ) (events : List ResultEvent) → Sound z steps (copied ∷ m.frames) m → slice_get nodes next ≡ Some n
      → (world_at z steps).copy n ≡ answer.Known events
      → Moved z steps (left_with (copied ∷ m.frames) m) (weight_of copied) m (record m { frames = f.Copies nodes (next + 1) ∷ m.frames; output = m.output ++ events })
  copies_on steps n events s is has =
      let one : next + 1 ≡ suc next = omega arith in
      let within : next < length nodes = slice_get_within nodes next n is in
      rw one (record {
        sheet = refl;
        left = λ u x. copy_moves m.sheet.now u m.frames (stand_of m) (state_in m) nodes next n (drop (suc next) nodes) events (one_next nodes next n is) refl
            (still_known ((world_at z steps).copy n) (u.copy n) events has (x.copy n));
        lighter = omega (arith, within);
        sound = record { root = s.root; sizes = s.sizes; globals = s.globals; locals = s.locals; context = s.context; holds = s.holds };
      })

  pub copies_put_back : (before later : List Step) (n : ℕ) (e : EvalStop) (frames : List Frame) → frames ≡ copied ∷ m.frames → Sound z later (copied ∷ m.frames) m → slice_get nodes next ≡ Some n
      → Hears {A = List ResultEvent} z before later (λ u. u.copy n) (Err e)
      → Goes {A = Unit {0}} z before later (left_with (copied ∷ m.frames) m) (weight_of copied) m (record m { frames = frames }) (Err e)
  copies_put_back before later n e frames back s is hears =
      subst (λ frames. Goes {A = Unit {0}} z before later (left_with (copied ∷ m.frames) m) (weight_of copied) m (record m { frames = frames }) (Err e)) (sym back) (put_back (Unit {0}) z before later (λ u. u.copy n) (left_with (copied ∷ m.frames) m) (weight_of copied) m (record m { frames = copied ∷ m.frames }) e refl (λ u. refl)
      (record { root = s.root; sizes = s.sizes; globals = s.globals; locals = s.locals; context = s.context; holds = s.holds })
      (record {
        fails = λ u k has. copy_fails m.sheet.now u m.frames (stand_of m) (state_in m) nodes next n (drop (suc next) nodes) k (one_next nodes next n is) has;
        waits = λ u k has. copy_waits m.sheet.now u m.frames (stand_of m) (state_in m) nodes next n (drop (suc next) nodes) k (one_next nodes next n is) has;
      }) hears)
