-- How globals get their values.
use Rattle.std.proofs.Common.{◌≡◌, refl, sym, ap, ◌∙◌, subst, ℕ, ◌+◌, List, [], ◌∷◌, length, arith, slice_get, Bool, true, Some, Result, Err}
use Rattle.std.specs.Borrow.{Bor}
use Rattle.doc_model.specs.Lawful.{IsLawful}
use Rattle.doc_model.specs.declared.step.Step.{Step}
use Rattle.engine_core.proofs.Moves.{does_same}
use Rattle.engine_core.specs.Holding.{Scene, Sound, world_at}
use Rattle.engine_core.specs.Moving.{Does, Goes, Left}
use Rattle.engine_core.specs.Standing.{left_with, stand_of, state_in}
use Rattle.engine_core.specs.Weight.{use_weight, weight_of}
use Rattle.engine_core.specs.declared.state.Core.{Core}
use Rattle.engine_frames.proofs.Finding.{goes_from, world_stays}
use Rattle.engine_laws.specs.Growing.{Continues}
use Rattle.engine_meaning.specs.Places.{World}
use Rattle.engine_values.specs.Finding.{FindsValue, FoundThere, IsFound, gives_so, with_found}
use Rattle.engine_values.specs.declared.found.Found.{Found}
use Rattle.frame_meaning.proofs.Frames.{global_gives}
use Rattle.frames.specs.declared.frame.Frame.{Frame}
use Rattle.frames.specs.declared.frame.Frame.TheVariants as f
use Rattle.frames.specs.declared.parts.Purpose.TheVariants as purpose
use Rattle.frames.specs.declared.parts.Use.{Use}
use Rattle.frames.specs.declared.parts.Use.TheVariants as use_of
use Rattle.sheet_ast.specs.declared.sheet.Global.{Global}
use Rattle.xpath_meaning.specs.Keys.{alone}
use Rattle.xpath_meaning.specs.declared.context.Context.{Context}
use Rattle.xpath_meaning.specs.declared.stop.EvalStop.{EvalStop}
use Rattle.xpath_meaning.specs.declared.stop.EvalStop.TheVariants.{NotYet, Fault, Memory}
use Rattle.xpath_values.specs.declared.value.Value.{Value}

module _ {S : Type 0} (z : Scene S) (before later : List Step) (m : Core S) (left more : Bor (List ℕ)) (at : ℕ) (global : Global) where
  -- the machine at a place
  abbrev pub placed : Context → List Value → Core S
  placed context locals = record m { context = context; locals = locals }

  -- at the root, without locals
  abbrev pub rooted : Core S
  rooted = placed (alone 0) []

  abbrev pub taken : Bool → Frame
  taken begun = f.Globals left begun

  abbrev pub using : Use
  using = use_of.Global at more

  abbrev pub Held : Bool → Type 0
  Held begun = Sound z later (taken begun ∷ m.frames) m

  held_at_root : Held true → Sound z later (f.Apart [] (purpose.Value using) ∷ m.frames) rooted
  held_at_root s = record { root = s.root; sizes = s.sizes; globals = s.globals; locals = tt; context = record { node = s.root; current = s.root }; holds = s.holds }

  left_so : left.now ≡ at ∷ more.now → slice_get m.sheet.now.globals at ≡ Some global → Held true → (u : World)
      → left_with (taken true ∷ m.frames) m u ≡ gives_so m.sheet.now u m.frames (stand_of rooted) (state_in m) global.value using
  left_so has is s u = global_gives m.sheet.now u m.frames m.globals (state_in m) left more at global has is s.holds.0

  abbrev GivesAt : Bool → Found → Core S → Result (Unit {0}) EvalStop → Core S → Type 0
  GivesAt begun found new r from = IsFound z later from global.value found
      → (Sound z later (f.Apart [] (purpose.Value using) ∷ m.frames) from → FoundThere z later found
      → Does z later (λ u. with_found found m.sheet.now u m.frames (stand_of from) (state_in m) using) (use_weight using + 3) from new r)
      → Goes z before later (left_with (taken begun ∷ m.frames) m) (weight_of (taken begun)) m new r

  gives_at : left.now ≡ at ∷ more.now → slice_get m.sheet.now.globals at ≡ Some global → Held true → IsLawful later → (found : Found) (new : Core S) (r : Result (Unit {0}) EvalStop)
      → GivesAt true found new r rooted
  gives_at has is s lawful found new r finds gives =
      let what : Left = λ u. with_found found m.sheet.now u m.frames (stand_of rooted) (state_in m) using in
      let same : (u : World) → Continues (world_at z later) u → left_with (taken true ∷ m.frames) m u ≡ what u = λ u x. left_so has is s u ∙ finds.left m.frames (state_in m) using u x in
      let one_less : length left.now ≡ length (at ∷ more.now) = ap length has in
      goes_from z before later (left_with (taken true ∷ m.frames) m) (weight_of (taken true)) m rooted new r refl refl
      (does_same z later what (left_with (taken true ∷ m.frames) m) (use_weight using + 3) (weight_of (taken true)) rooted new r same (same (world_at z later) (world_stays z later lawful))
      (λ light. omega (arith, light, one_less)) (gives (held_at_root s) finds.there))

  -- what was found for the global is used
  pub global_found : left.now ≡ at ∷ more.now → slice_get m.sheet.now.globals at ≡ Some global → (begun : Bool) → begun ≡ true → Held begun → IsLawful later
      → (found : Found) (new : Core S) (r : Result (Unit {0}) EvalStop) (context : Context) (locals : List Value) → context ≡ alone 0 → locals ≡ [] → GivesAt begun found new r (placed context locals)
  global_found has is begun unit s lawful found new r context locals root none =
      subst (λ begun. GivesAt begun found new r (placed context locals)) (sym unit)
      (subst (λ context. GivesAt true found new r (placed context locals)) (sym root)
      (subst (λ locals. GivesAt true found new r (placed (alone 0) locals)) (sym none) (gives_at has is (subst Held unit s) lawful found new r)))

  abbrev BackAt : Bool → EvalStop → List Frame → Core S → Type 0
  BackAt begun e frames from = FindsValue z before later from global.value (Err e)
      → Goes {A = Unit {0}} z before later (left_with (taken begun ∷ m.frames) m) (weight_of (taken begun)) m (record from { frames = frames }) (Err e)

  back_at : left.now ≡ at ∷ more.now → slice_get m.sheet.now.globals at ≡ Some global → Held true → (e : EvalStop) → BackAt true e (taken true ∷ m.frames) rooted
  back_at has is s (Fault k) finds = left_so has is s (world_at z later) ∙ finds m.frames (state_in m) using
  back_at has is s (NotYet n) finds = record {
    sheet = refl;
    left = λ u x. refl;
    waits = (finds.0, finds.1, finds.2, left_so has is s (world_at z finds.0) ∙ finds.3 m.frames (state_in m) using);
    sound = record { root = s.root; sizes = s.sizes; globals = s.globals; locals = tt; context = record { node = s.root; current = s.root }; holds = s.holds };
  }
  back_at has is s Memory finds = tt

  -- the frame is put back
  pub global_back : left.now ≡ at ∷ more.now → slice_get m.sheet.now.globals at ≡ Some global → (begun : Bool) → begun ≡ true → Held begun → (e : EvalStop)
      → (context : Context) (locals : List Value) (frames : List Frame) → context ≡ alone 0 → locals ≡ [] → frames ≡ taken true ∷ m.frames → BackAt begun e frames (placed context locals)
  global_back has is begun unit s e context locals frames root none back =
      subst (λ begun. BackAt begun e frames (placed context locals)) (sym unit)
      (subst (λ context. BackAt true e frames (placed context locals)) (sym root) (subst (λ locals. BackAt true e frames (placed (alone 0) locals)) (sym none)
      (subst (λ frames. BackAt true e frames rooted) (sym back) (back_at has is (subst Held unit s) e))))
