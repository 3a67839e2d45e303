-- Instructions stop where what they ask first stops.
use Rattle.std.proofs.Common.{ℕ, List, ◌∷◌, false}
use Rattle.std.specs.Borrow.{Bor}
use Rattle.engine_core.proofs.Moves.{Hangs}
use Rattle.engine_core.specs.Standing.{stand_of, state_in}
use Rattle.engine_core.specs.declared.state.Core.{Core}
use Rattle.engine_meaning.specs.Places.{Setting, World}
use Rattle.engine_meaning.specs.Questions.{text_at}
use Rattle.engine_meaning.specs.Runs.{Run, ◌>>◌, emit, pure}
use Rattle.frame_meaning.proofs.Asks as asks
use Rattle.frame_meaning.specs.Acted.{acted}
use Rattle.frame_meaning.specs.Rest.{rest}
use Rattle.frame_meaning.specs.Stand.{at_place, setting_at}
use Rattle.frames.specs.Apart.{base}
use Rattle.frames.specs.declared.frame.Frame.TheVariants as f
use Rattle.result_events.specs.declared.event.ResultEvent.TheVariants as event
use Rattle.sheet_ast.specs.declared.instruction.Instruction.{Instruction}
use Rattle.sheet_ast.specs.declared.instruction.Instruction.TheOpen.{Instruction-F}
use Rattle.xpath_syntax.specs.declared.expression.Expr.{Expr}
use Rattle.xpath_values.specs.declared.value.Value.{Value}

module _ {S : Type 0} (m : Core S) (others : Bor (List Instruction)) (kept : ℕ) where
  abbrev pub W : World → Setting
  W u = setting_at m.sheet.now u (stand_of m)

  -- the instructions behind it, and the frames
  abbrev pub behind : World → List Value → Run (Unit {0})
  behind u locals = rest m.sheet.now u (f.Body others false kept ∷ m.frames) (at_place (stand_of m) m.context locals)

  pub value_hangs : (e : Expr) → Hangs (λ u. text_at (W u) (stand_of m).place e) (λ u. acted m.sheet.now u (Instruction-F.ValueOf e) others kept m.frames (stand_of m) (state_in m)) m
  value_hangs e = record {
    fails = λ u k is. asks.fails (base m.frames) (state_in m) (λ string. emit (event.Text string) >> pure m.locals) (behind u) _ k is;
    waits = λ u n is. asks.waits (base m.frames) (state_in m) (λ string. emit (event.Text string) >> pure m.locals) (behind u) _ n is;
  }
