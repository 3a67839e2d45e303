use Rattle.std.proofs.Common.{rules, append_assoc}
use Rattle.turn_play.proofs.turn.line_of.Goals as goal

pub returns : goal.returns
returns c = search (rules, append_assoc)
