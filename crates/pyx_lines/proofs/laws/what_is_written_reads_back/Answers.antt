use Rattle.pyx_lines.proofs.Written.{line_back, lines_of-written}
use Rattle.pyx_lines.proofs.laws.what_is_written_reads_back.Goals as goal

pub returns : goal.returns
returns c = λ line more can. (lines_of-written line more can, line_back line can)
