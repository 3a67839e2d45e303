use Rattle.doc_laws.proofs.Moving.{moves_none}
use Rattle.text_walk.proofs.walker.decider.Goals as goal

pub returns-then-down-clause-moves : goal.returns-then-down-clause-moves
returns-then-down-clause-moves g c = moves_none _ c.requires.seen
