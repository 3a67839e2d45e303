use Rattle.text_walk.proofs.Final.{after_fault}
use Rattle.text_walk.proofs.resuming.fault_is_final.Goals as goal

pub returns : goal.returns
returns c = after_fault
