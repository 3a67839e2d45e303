-- Copies stop where what they ask first stops.
use Rattle.std.proofs.Common.{ℕ, List}
use Rattle.std.specs.Borrow.{Bor}
use Rattle.engine_core.proofs.Moves.{Hangs}
use Rattle.engine_core.specs.Standing.{stand_of, state_in}
use Rattle.engine_core.specs.declared.state.Core.{Core}
use Rattle.engine_instructions.proofs.Hanging.{W, behind}
use Rattle.engine_meaning.specs.Execution.{value_copied}
use Rattle.engine_meaning.specs.Questions.{value_at}
use Rattle.engine_meaning.specs.Runs.{◌>>◌, pure}
use Rattle.frame_meaning.proofs.Asks as asks
use Rattle.frame_meaning.specs.Acted.{acted}
use Rattle.frames.specs.Apart.{base}
use Rattle.sheet_ast.specs.declared.instruction.Instruction.{Instruction}
use Rattle.sheet_ast.specs.declared.instruction.Instruction.TheOpen.{Instruction-F}
use Rattle.xpath_syntax.specs.declared.expression.Expr.{Expr}

module _ {S : Type 0} (m : Core S) (others : Bor (List Instruction)) (kept : ℕ) where
  pub copy_of_hangs : (e : Expr) → Hangs (λ u. value_at (W m others kept u) (stand_of m).place e)
      (λ u. acted m.sheet.now u (Instruction-F.CopyOf e) others kept m.frames (stand_of m) (state_in m)) m
  copy_of_hangs e = record {
    fails = λ u k is. asks.fails (base m.frames) (state_in m) (λ v. value_copied u v >> pure m.locals) (behind m others kept u) _ k is;
    waits = λ u n is. asks.waits (base m.frames) (state_in m) (λ v. value_copied u v >> pure m.locals) (behind m others kept u) _ n is;
  }
