use Rattle.std.proofs.Common.{rules}
use Rattle.link_cells.proofs.Keeps.{sets}
use Rattle.link_cells.proofs.writer.Writer.set.Goals as goal

pub store-requires : goal.store-requires
store-requires g c = (
  search rules,
  search rules,
  sets _ _ _ _ _ _ _ (search rules) (search rules) (search rules) (search rules) (search rules),
)
