use Rattle.std.proofs.Common.{rules}
use Rattle.link_cells.proofs.Keeps.{tells, meets}
use Rattle.link_cells.proofs.writer.Writer.hear.Goals as goal

pub join_seat-requires : goal.join_seat-requires
join_seat-requires g c =
    (search rules, search rules, search rules, search rules, tells _ _ _ _ _ _ (search rules) (search rules))

pub load-requires : goal.load-requires
load-requires g c = (search rules, search rules, meets _ _ _ _ _ _ (search rules))
