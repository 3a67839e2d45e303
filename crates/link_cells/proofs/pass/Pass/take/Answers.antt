use Rattle.std.proofs.Common.{rules}
use Rattle.link_cells.proofs.Keeps.{shows}
use Rattle.link_cells.proofs.pass.Pass.take.Goals as goal

pub join_seat-requires : goal.join_seat-requires
join_seat-requires g c =
    (search rules, search rules, search rules, search rules, shows _ _ _ _ _ _ (search rules) (search rules))
