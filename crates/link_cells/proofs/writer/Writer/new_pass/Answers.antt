use Rattle.std.proofs.Common.{rules}
use Rattle.link_cells.proofs.Keeps.{splits}
use Rattle.link_cells.proofs.writer.Writer.new_pass.Goals as goal

pub split_seat-requires : goal.split_seat-requires
split_seat-requires g c = (search rules, search rules, splits _ _ _ _ (search rules))
