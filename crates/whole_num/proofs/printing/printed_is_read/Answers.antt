use Rattle.whole_num.proofs.Printed.{printed_is}
use Rattle.whole_num.proofs.printing.printed_is_read.Goals as goal

pub returns : goal.returns
returns c = printed_is
