use Rattle.std.proofs.Common.{◌≡◌, length, take}
use Rattle.engine_core.proofs.copies.cut_back.Given as goal

abbrev pub invariant-loop-locals : goal.invariant-loop-locals
invariant-loop-locals l = take l.kept l.locals ≡ take l.kept l.fn.locals

abbrev pub decreases-loop-locals : goal.decreases-loop-locals
decreases-loop-locals l = length l.locals
