use Rattle.engine_questions.proofs.Staying.{there_stays}
use Rattle.engine_questions.proofs.laws.seen_nodes_stay.Goals as goal

pub returns : goal.returns
returns c = λ rules before later n g w. there_stays rules before later n g w
