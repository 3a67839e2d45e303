-- What is found for a variable stands for it.
use Rattle.std.proofs.Common.{◌≡◌, sym, ap, ◌∙◌, subst, List, [], Result, Ok, Err}
use Rattle.std.specs.Borrow.{Bor}
use Rattle.std.specs.Prelude.{IsErrAnd}
use Rattle.doc_model.specs.Answers as answer
use Rattle.doc_model.specs.declared.step.Step.{Step}
use Rattle.engine_core.proofs.Asking.{Hears, still_known}
use Rattle.engine_core.specs.Holding.{Scene, there, world_at}
use Rattle.engine_core.specs.Standing.{stand_of}
use Rattle.engine_core.specs.declared.state.Core.{Core}
use Rattle.engine_laws.proofs.Asking.{value_stays}
use Rattle.engine_meaning.specs.Places.{World}
use Rattle.engine_meaning.specs.Questions.{value_at}
use Rattle.engine_values.specs.Finding.{FindsValue, IsFound}
use Rattle.engine_values.specs.declared.found.Found.{Found}
use Rattle.engine_values.specs.declared.found.Found.TheVariants as found
use Rattle.frame_meaning.proofs.Variables.{content_gives, empty_gives, select_fails, select_gives, select_waits}
use Rattle.frame_meaning.specs.Stand.{setting_at}
use Rattle.sheet_ast.specs.declared.instruction.Instruction.{Instruction}
use Rattle.sheet_ast.specs.declared.instruction.Instruction.TheOpen.{VarValue-F}
use Rattle.sheet_ast.specs.declared.instruction.VarValue.{VarValue, out-VarValue}
use Rattle.sheet_ast.specs.declared.instruction.VarValue.TheVariants.{Select, Content, Empty, outs-Select, outs-Content, outs-Empty}
use Rattle.xpath_laws.specs.Sound.{IsValue}
use Rattle.xpath_meaning.specs.Conversions.{text}
use Rattle.xpath_meaning.specs.Outcome.{Outcome}
use Rattle.xpath_meaning.specs.declared.stop.EvalStop.{EvalStop}
use Rattle.xpath_meaning.specs.declared.stop.EvalStop.TheVariants.{NotYet, Fault, Memory}
use Rattle.xpath_syntax.specs.declared.expression.Expr.{Expr}
use Rattle.xpath_values.specs.declared.value.Value.{Value}

-- the value of a select, by what is seen
abbrev pub at_select : {S : Type 0} → Core S → Expr → World → Outcome Value
at_select m e u = value_at (setting_at m.sheet.now u (stand_of m)) (stand_of m).place e

module _ {S : Type 0} (z : Scene S) (before later : List Step) (m : Core S) (v : VarValue) where
  stop_of_select : (e : Expr) (x : EvalStop) → v ≡ Select e → Hears {A = Value} z before later (at_select m e) (Err x) → FindsValue z before later m v (Err x)
  stop_of_select e (Fault k) of a = λ frames s u. select_fails m.sheet.now (world_at z later) frames (stand_of m) s v u e k (ap out-VarValue of ∙ outs-Select e) a
  stop_of_select e (NotYet n) of a = (a.0, a.1, a.2, λ frames s u. select_waits m.sheet.now (world_at z a.0) frames (stand_of m) s v u e n (ap out-VarValue of ∙ outs-Select e) a.3)
  stop_of_select e Memory of a = tt

  -- why no value was found for a select, handed on by `?`
  pub select_stops : (e : Expr) (x : EvalStop) (r : Result Found EvalStop) → v ≡ Select e → Hears {A = Value} z before later (at_select m e) (Err x)
      → IsErrAnd r (λ y. y ≡ x) → FindsValue z before later m v r
  select_stops e x (Ok y) of a is = absurd is
  select_stops e x (Err y) of a is = subst (λ y. FindsValue z before later m v (Err y)) (sym is) (stop_of_select e x of a)

  pub select_found : (e : Expr) (x : Value) → v ≡ Select e → at_select m e (world_at z later) ≡ answer.Known x → IsValue (there z later) x
      → IsFound z later m v (found.Value x)
  select_found e x of a t = record {
    there = t;
    left = λ frames s u w y.
        select_gives m.sheet.now w frames (stand_of m) s v u e x (ap out-VarValue of ∙ outs-Select e)
        (still_known _ _ x a (value_stays m.sheet.now m.globals (world_at z later) w y (stand_of m).place e));
  }

  pub content_found : (body : Bor (List Instruction)) (is : List Instruction) → v ≡ Content is → body.now ≡ is → IsFound z later m v (found.Content body)
  content_found body is of lent = record {
    there = tt;
    left = λ frames s u w y. content_gives m.sheet.now w frames (stand_of m) s v u body (ap out-VarValue of ∙ outs-Content is ∙ ap VarValue-F.Content (sym lent));
  }

  pub empty_found : v ≡ Empty → IsFound z later m v (found.Value (text []))
  empty_found of = record { there = tt; left = λ frames s u w y. empty_gives m.sheet.now w frames (stand_of m) s v u (ap out-VarValue of ∙ outs-Empty) }
