-- What instructions, variables and tests mean, by their parts.
use Rattle.std.proofs.Common.{◌≡◌}
use Rattle.engine_meaning.specs.Execution.{Action, Giving, Binding, Case, spends, giving_by, binding_by, case_by, does, giving_of, binding_of, case_of, body_does}
use Rattle.frame_meaning.specs.Work.{layer}
use Rattle.sheet_ast.specs.declared.instruction.Instruction.{Instruction}
use Rattle.sheet_ast.specs.declared.instruction.Instruction.TheFolds.{fold_out-Instruction, fold_out-Variable, fold_out-VarValue, fold_out-When, map-VarValue}
use Rattle.sheet_ast.specs.declared.instruction.Variable.{Variable, out-Variable}
use Rattle.sheet_ast.specs.declared.instruction.VarValue.{VarValue, out-VarValue}
use Rattle.sheet_ast.specs.declared.instruction.When.{When, out-When}

-- an instruction takes its unit, and then acts
pub does_is : (i : Instruction) → does i ≡ spends (layer i)
unfolding does giving_of binding_of case_of
does_is i = fold_out-Instruction Action Giving Binding Case spends giving_by binding_by case_by i

pub binding_is : (v : Variable) → binding_of v ≡ record { name = (out-Variable v).name; value = giving_of (out-Variable v).value }
unfolding does giving_of binding_of case_of
binding_is v = fold_out-Variable Action Giving Binding Case spends giving_by binding_by case_by v

pub giving_is : (v : VarValue) → giving_of v ≡ giving_by (map-VarValue Instruction VarValue Variable When Action Giving Binding Case does giving_of binding_of case_of (out-VarValue v))
unfolding does giving_of binding_of case_of
giving_is v = fold_out-VarValue Action Giving Binding Case spends giving_by binding_by case_by v

pub case_is : (w : When) → case_of w ≡ record { test = (out-When w).test; body = body_does (out-When w).body }
unfolding does giving_of binding_of case_of
case_is w = fold_out-When Action Giving Binding Case spends giving_by binding_by case_by w
