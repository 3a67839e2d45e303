use Rattle.text_walk.proofs.Final.{after_done}
use Rattle.text_walk.proofs.resuming.done_is_final.Goals as goal

pub returns : goal.returns
returns c = after_done
