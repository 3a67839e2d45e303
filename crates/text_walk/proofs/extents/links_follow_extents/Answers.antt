use Rattle.text_walk.proofs.Order.{ordered_rows}
use Rattle.text_walk.proofs.extents.links_follow_extents.Goals as goal

pub returns : goal.returns
returns c = λ steps lawful. ordered_rows steps lawful.each
