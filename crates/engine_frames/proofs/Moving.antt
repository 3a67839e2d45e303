-- How the frames of items that are known whole move.
use Rattle.std.proofs.Common.{◌≡◌, refl, ◌∙◌, ℕ, suc, false, ◌+◌, ◌<◌, List, ◌∷◌, drop, length, arith, slice_get, Some, None}
use Rattle.std.proofs.lemmas.Option.{slice_get_within}
use Rattle.doc_model.specs.declared.step.Step.{Step}
use Rattle.engine_core.proofs.Topping.{body_on_top}
use Rattle.engine_core.specs.Holding.{Scene, Sound, Holds, there, IsWork}
use Rattle.engine_core.specs.Moving.{Moved}
use Rattle.engine_core.specs.Standing.{left_with, stand_of, state_in}
use Rattle.engine_core.specs.Weight.{weight_of}
use Rattle.engine_core.specs.declared.state.Core.{Core}
use Rattle.engine_frames.proofs.Listed.{none_left, one_next, each_get}
use Rattle.engine_frames.specs.Items.{first_frame}
use Rattle.engine_meaning.specs.Places.{at_item}
use Rattle.frame_meaning.proofs.Items.{items_end, items_go, work_frame}
use Rattle.frame_meaning.specs.Stand.{Stand, at_place}
use Rattle.frames.specs.Depth.{HasRoom}
use Rattle.frames.specs.declared.frame.Frame.{Frame}
use Rattle.frames.specs.declared.frame.Frame.TheVariants as f
use Rattle.frames.specs.declared.parts.Work.{Work}
use Rattle.frames.specs.declared.parts.Work.TheVariants as work
use Rattle.xpath_meaning.specs.declared.context.Context.{Context}
use Rattle.xpath_meaning.specs.declared.context.Size.TheVariants as size

pub first_is : (k : Work) (locals : ℕ) → first_frame k locals ≡ work_frame k locals
first_is (work.ByMode mode given) locals = refl
first_is (work.ByBody body) locals = refl

pub first_weighs : (k : Work) (locals : ℕ) → weight_of (first_frame k locals) ≡ 1
first_weighs (work.ByMode mode given) locals = refl
first_weighs (work.ByBody body) locals = refl

pub first_fits : (k : Work) (locals d : ℕ) → HasRoom (first_frame k locals) d
first_fits (work.ByMode mode given) locals d = tt
first_fits (work.ByBody body) locals d = tt

-- the frame of an item holds what its work holds, above a frame that holds where the item stands
pub first_holds : {S : Type 0} (z : Scene S) (steps : List Step) (frames : List Frame) (h : Stand) (streams : List S) (k : Work) → IsWork (there z steps) k → Holds z steps frames h streams
    → Holds z steps (first_frame k (length h.place.locals) ∷ frames) h streams
first_holds z steps frames h streams (work.ByMode mode given) w k = (w, k)
first_holds z steps frames h streams (work.ByBody body) w k = body_on_top z steps frames h streams body false k

module _ {S : Type 0} (z : Scene S) (steps : List Step) (m : Core S) (nodes : List ℕ) (next : ℕ) (k : Work) (context : Context) where
  pub items_over : Sound z steps (f.Items nodes next k context ∷ m.frames) m → slice_get nodes next ≡ None
      → Moved z steps (left_with (f.Items nodes next k context ∷ m.frames) m) (weight_of (f.Items nodes next k context)) m (record m { context = context })
  items_over s none = record {
    sheet = refl;
    left = λ u x. items_end m.sheet.now u m.frames (stand_of m) (state_in m) nodes next k context (none_left nodes next none);
    lighter = omega arith;
    sound = record { root = s.root; sizes = s.sizes; globals = s.globals; locals = s.locals; context = s.holds.2; holds = s.holds.3 };
  }

  pub items_on : (n : ℕ) → Sound z steps (f.Items nodes next k context ∷ m.frames) m → slice_get nodes next ≡ Some n
      → Moved z steps (left_with (f.Items nodes next k context ∷ m.frames) m) (weight_of (f.Items nodes next k context)) m
      (record m { context = at_item (size.Known (length nodes)) (next + 1) n; frames = first_frame k (length m.locals) ∷ f.Items nodes (next + 1) k context ∷ m.frames })
  items_on n s is =
      let here : there z steps n = each_get (there z steps) nodes next n s.holds.0 is in
      let one : next + 1 ≡ suc next = omega arith in
      let within : next < length nodes = slice_get_within nodes next n is in
      let light : weight_of (first_frame k (length m.locals)) ≡ 1 = first_weighs k (length m.locals) in
      rw one (record {
        sheet = refl;
        left = λ u x. items_go m.sheet.now u m.frames (stand_of m) (state_in m) nodes next k context n (drop (suc next) nodes) (one_next nodes next n is) refl
            ∙ rw (first_is k (length m.locals)) refl;
        lighter = omega (arith, within, light);
        sound = record {
          root = s.root;
          sizes = s.sizes;
          globals = s.globals;
          locals = s.locals;
          context = record { node = here; current = here };
          holds = first_holds z steps (f.Items nodes (suc next) k context ∷ m.frames) (at_place (stand_of m) (at_item (size.Known (length nodes)) (suc next) n) m.locals) _ k s.holds.1
              (s.holds.0, s.holds.1, s.holds.2, s.holds.3);
        };
      })
