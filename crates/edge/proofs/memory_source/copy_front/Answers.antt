use Rattle.std.proofs.Common.{arith}
use Rattle.edge.proofs.Pieces.{put_front}
use Rattle.edge.proofs.memory_source.copy_front.Goals as goal

pub returns-clause-front : goal.returns-clause-front
returns-clause-front c = put_front _ _ _ _ c.copy_from_slice.ensures.after (omega arith)
