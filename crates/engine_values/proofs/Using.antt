-- What is left where a value is used, and what is held then.
use Rattle.std.proofs.Common.{refl, subst, ℕ, zero, suc, ◌+◌, ◌≤◌, List, [], ◌∷◌, ◌++◌, length, false, arith}
use Rattle.std.proofs.lemmas.List.{set_past}
use Rattle.std.specs.Borrow.{Bor}
use Rattle.std.specs.Prelude.{slice_set}
use Rattle.doc_model.specs.declared.step.Step.{Step}
use Rattle.engine_core.proofs.Asking.{each_append}
use Rattle.engine_core.specs.Holding.{Scene, Sound, there}
use Rattle.engine_core.specs.Moving.{Moved}
use Rattle.engine_core.specs.Standing.{stand_of, state_in}
use Rattle.engine_core.specs.Weight.{use_weight}
use Rattle.engine_core.specs.declared.state.Core.{Core}
use Rattle.engine_values.specs.Finding.{uses_so}
use Rattle.frame_meaning.proofs.Variables.{declared_used, global_used, handed_used, local_used}
use Rattle.frames.specs.declared.frame.Frame.TheVariants as f
use Rattle.frames.specs.declared.parts.Declaring.{Declaring}
use Rattle.frames.specs.declared.parts.Passing.{Passing}
use Rattle.frames.specs.declared.parts.Purpose.TheVariants as purpose
use Rattle.frames.specs.declared.parts.Use.{Use}
use Rattle.frames.specs.declared.parts.Use.TheVariants as use_of
use Rattle.xpath_laws.specs.Sound.{Each, IsValue}
use Rattle.xpath_syntax.specs.declared.expression.NameRef.{NameRef}
use Rattle.xpath_values.specs.declared.value.Value.{Value}

each_set : {A : Type 0} (P : A → Type 0) (xs : List A) (at : ℕ) (x : A) → Each P xs → P x → Each P (slice_set xs at x)
each_set P [] at x h k = tt
each_set P (y ∷ ys) zero x h k = (k, h.1)
each_set P (y ∷ ys) (suc at) x h k = (h.0, each_set P ys at x h.1 k)

module _ {S : Type 0} (z : Scene S) (steps : List Step) (m : Core S) (x : Value) where
  abbrev pub Before : Use → Type 0
  Before how = Sound z steps (f.Apart [] (purpose.Value how) ∷ m.frames) m

  abbrev pub Used : Use → Core S → Type 0
  Used how new = Moved z steps (λ u. uses_so m.sheet.now u m.frames (stand_of m) (state_in m) how x) (use_weight how + 1) m new

  abbrev with_value : List Value → List Value
  with_value values = values ++ x ∷ []

  pub local_moves : Before use_of.Local → IsValue (there z steps) x → Used use_of.Local (record m { locals = with_value m.locals })
  local_moves s v = record {
    sheet = refl;
    left = λ u y. local_used m.sheet.now u m.frames (stand_of m) (state_in m) x;
    lighter = omega arith;
    sound = record { root = s.root; sizes = s.sizes; globals = s.globals; locals = each_append _ m.locals (x ∷ []) s.locals (v, tt); context = s.context; holds = s.holds x };
  }

  pub handed_moves : (name : Bor NameRef) (p : Passing) → Before (use_of.Handed name p) → IsValue (there z steps) x
      → Used (use_of.Handed name p) (record m { frames = f.Params (record p { given = p.given ++ record { name = name; value = x } ∷ [] }) ∷ m.frames })
  handed_moves name p s v = record {
    sheet = refl;
    left = λ u y. handed_used m.sheet.now u m.frames (stand_of m) (state_in m) p.call name p.left p.given x;
    lighter = omega arith;
    sound = record {
      root = s.root;
      sizes = s.sizes;
      globals = s.globals;
      locals = s.locals;
      context = s.context;
      holds = (each_append _ p.given _ s.holds.0 (v, tt), s.holds.1);
    };
  }

  pub declared_moves : (d : Declaring) → Before (use_of.Declared d) → IsValue (there z steps) x
      → Used (use_of.Declared d) (record m { frames = f.Declared (record d { begun = false }) ∷ m.frames; locals = with_value m.locals })
  declared_moves d s v = record {
    sheet = refl;
    left = λ u y. declared_used m.sheet.now u m.frames (stand_of m) (state_in m) d.left d.begun d.given d.body x;
    lighter = omega arith;
    sound = record { root = s.root; sizes = s.sizes; globals = s.globals; locals = each_append _ m.locals (x ∷ []) s.locals (v, tt); context = s.context; holds = s.holds };
  }

  pub global_moves : (at : ℕ) (left : Bor (List ℕ)) → Before (use_of.Global at left) → IsValue (there z steps) x
      → Used (use_of.Global at left) (record m { frames = f.Globals left false ∷ m.frames; globals = slice_set m.globals at x })
  global_moves at left s v = record {
    sheet = refl;
    left = λ u y. global_used m.sheet.now u m.frames (stand_of m) (state_in m) at left x (stand_of m).place;
    lighter = omega arith;
    sound = record { root = s.root; sizes = s.sizes; globals = each_set _ m.globals at x s.globals v; locals = s.locals; context = s.context; holds = s.holds };
  }

  -- a place where no global is
  pub none_moves : (at : ℕ) (left : Bor (List ℕ)) → length m.globals ≤ at → Before (use_of.Global at left) → IsValue (there z steps) x
      → Used (use_of.Global at left) (record m { frames = f.Globals left false ∷ m.frames })
  none_moves at left past s v =
      subst (λ globals. Used (use_of.Global at left) (record m { frames = f.Globals left false ∷ m.frames; globals = globals })) (set_past m.globals at x past) (global_moves at left s v)
