use Rattle.global_order.specs.Marks.{AreProofTo}
use Rattle.global_order.proofs.marks.are_proof.Given as goal

abbrev pub invariant-loop-at : goal.invariant-loop-at
invariant-loop-at l = AreProofTo l.nodes l.marks l.at
