use Rattle.text_walk.proofs.Final.{stands_still}
use Rattle.text_walk.proofs.resuming.still_turn_stands.Goals as goal

pub returns : goal.returns
returns c = stands_still
