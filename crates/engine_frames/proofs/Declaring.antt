-- The parameters of a template.
use Rattle.std.proofs.Common.{◌≡◌, ap, ◌∙◌, ℕ, suc, List, ◌∷◌, Bool, true, false, None}
use Rattle.doc_model.specs.declared.step.Step.{Step}
use Rattle.engine_core.specs.Holding.{Scene}
use Rattle.engine_core.specs.Standing.{left_with, stand_of, state_in}
use Rattle.engine_core.specs.declared.state.Core.{Core}
use Rattle.engine_frames.proofs.Returning.{Stops}
use Rattle.engine_meaning.specs.Places.{World, given_as}
use Rattle.engine_values.specs.Finding.{FindsValue, gives_so, uses_so}
use Rattle.frame_meaning.proofs.Variables as move
use Rattle.frame_meaning.specs.Apart.{surface}
use Rattle.frame_meaning.specs.Rest.{rest}
use Rattle.frame_meaning.specs.Uses.{givens}
use Rattle.frames.specs.Apart.{base}
use Rattle.frames.specs.declared.frame.Frame.TheVariants as f
use Rattle.frames.specs.declared.parts.Declaring.{Declaring}
use Rattle.frames.specs.declared.parts.Use.TheVariants as use_of
use Rattle.sheet_ast.specs.declared.instruction.Variable.{Variable, out-Variable}
use Rattle.std.specs.Borrow.{Bor}
use Rattle.std.proofs.Common.{Err, Some}
use Rattle.xpath_meaning.specs.declared.stop.EvalStop.{EvalStop}
use Rattle.xpath_meaning.specs.declared.stop.EvalStop.TheVariants.{NotYet, Fault, Memory}
use Rattle.xpath_values.specs.declared.value.Value.{Value}

-- with the first parameter begun, or not
abbrev pub begun_as : Declaring → Bool → Declaring
begun_as d begun = record d { begun = begun }

-- behind the first parameter
abbrev pub next_of : Declaring → Bor (List Variable) → Declaring
next_of d more = record { left = more; begun = false; given = d.given; body = d.body }

module _ {S : Type 0} (m : Core S) (d : Declaring) (first : Variable) (more : Bor (List Variable)) (has : d.left.now ≡ first ∷ more.now) where
  as_begun : (u : World) (begun : Bool) → d.begun ≡ begun → left_with (f.Declared d ∷ m.frames) m u ≡ left_with (f.Declared (begun_as d begun) ∷ m.frames) m u
  as_begun u begun is = ap (λ b. rest m.sheet.now u (f.Declared (begun_as d b) ∷ m.frames) (stand_of m) (state_in m)) is

  pub begins : (u : World) (budget : ℕ) → d.begun ≡ false → m.budget ≡ suc budget
      → left_with (f.Declared d ∷ m.frames) m u ≡ left_with (f.Declared (begun_as d true) ∷ m.frames) (record m { budget = budget }) u
  begins u budget not_begun unit =
      as_begun u false not_begun
      ∙ ap (λ b. rest m.sheet.now u (f.Declared (begun_as d false) ∷ m.frames) (stand_of m) (record { budget = b; events = m.output; messages = m.messages })) unit
      ∙ move.param_begins m.sheet.now u m.frames (stand_of m) (record { budget = budget; events = m.output; messages = m.messages }) d.left d.given d.body first more.now has

  pub is_given : (u : World) (x : Value) → d.begun ≡ true → given_as (out-Variable first).name (givens d.given) ≡ Some x
      → left_with (f.Declared d ∷ m.frames) m u ≡ uses_so m.sheet.now u m.frames (stand_of m) (state_in m) (use_of.Declared (next_of d more)) x
  is_given u x begun is = as_begun u true begun ∙ move.param_given m.sheet.now u m.frames (stand_of m) (state_in m) d.left more d.given d.body first x has is

  pub is_own : (u : World) → d.begun ≡ true → given_as (out-Variable first).name (givens d.given) ≡ None
      → left_with (f.Declared d ∷ m.frames) m u ≡ gives_so m.sheet.now u m.frames (stand_of m) (state_in m) (out-Variable first).value (use_of.Declared (next_of d more))
  is_own u begun is = as_begun u true begun ∙ move.param_own m.sheet.now u m.frames (stand_of m) (state_in m) d.left more d.given d.body first has is

  -- where its own value is not found, what is left stops for the same reason
  pub own_stops : (z : Scene S) (before later : List Step) (e : EvalStop) → d.begun ≡ true → given_as (out-Variable first).name (givens d.given) ≡ None
      → FindsValue z before later m (out-Variable first).value (Err e) → Stops z before later (left_with (f.Declared d ∷ m.frames) m) (surface (base m.frames) (state_in m)) e
  own_stops z before later (Fault k) begun is a = is_own _ begun is ∙ a m.frames (state_in m) (use_of.Declared (next_of d more))
  own_stops z before later (NotYet n) begun is a = (a.0, a.1, a.2, is_own _ begun is ∙ a.3 m.frames (state_in m) (use_of.Declared (next_of d more)))
  own_stops z before later Memory begun is a = tt
