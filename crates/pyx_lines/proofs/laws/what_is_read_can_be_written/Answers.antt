use Rattle.pyx_lines.proofs.Written.{read_can}
use Rattle.pyx_lines.proofs.laws.what_is_read_can_be_written.Goals as goal

pub returns : goal.returns
returns c = read_can
