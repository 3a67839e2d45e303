use Rattle.std.proofs.Common.{◌≡◌, drop}
use Rattle.sheet_reading.specs.Declaring.{all_declared}
use Rattle.sheet_reading.proofs.declaring.declare_all.Given as goal

-- the rest of the declarations goes on from here
abbrev pub invariant-loop-binding : goal.invariant-loop-binding
invariant-loop-binding l = all_declared l.scopes.scopes (drop l.binding-index l.bindings) ≡ all_declared l.fn.scopes.scopes l.bindings
