use Rattle.text_walk.proofs.Reach.{way_later}
use Rattle.text_walk.proofs.resuming.way_goes_on.Goals as goal

pub returns : goal.returns
returns c = λ walker bytes p q grows lawful way. way_later p q walker.row walker.down walker.depth bytes walker.made grows lawful way
