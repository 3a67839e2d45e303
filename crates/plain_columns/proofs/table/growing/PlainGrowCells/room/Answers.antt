use Rattle.std.proofs.Common.{arith}
use Rattle.plain_columns.proofs.table.growing.PlainGrowCells.room.Goals as goal

pub overflow_cast-result-2 : goal.overflow_cast-result-2
overflow_cast-result-2 c =
    let h = c.self.invariant in
    let names = h.names.within in
    let bound = h.small.names_fit in
    omega (arith, names, bound, c.len.ensures, c.len-2.ensures)
