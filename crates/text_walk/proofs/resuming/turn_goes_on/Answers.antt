use Rattle.text_walk.proofs.Final.{behind_after}
use Rattle.text_walk.proofs.resuming.turn_goes_on.Goals as goal

pub returns : goal.returns
returns c = behind_after
