use Rattle.pyx_lines.proofs.Refused.{answers_line, answers_refused}
use Rattle.pyx_lines.proofs.reading.read_line.Goals as goal

pub returns-clause-line : goal.returns-clause-line
returns-clause-line c = answers_line _ _ c.read.ensures

pub returns-clause-refused : goal.returns-clause-refused
returns-clause-refused c = answers_refused _ _ c.read.ensures
