use Rattle.pyx_lines.proofs.ReadBack.{reads_back}
use Rattle.pyx_lines.proofs.laws.written_lines_read_back_one_by_one.Goals as goal

pub returns : goal.returns
returns c = reads_back
