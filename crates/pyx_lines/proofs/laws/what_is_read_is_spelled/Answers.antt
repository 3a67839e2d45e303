use Rattle.pyx_lines.proofs.Spelled.{taken, takes}
use Rattle.pyx_lines.proofs.laws.what_is_read_is_spelled.Goals as goal

pub returns : goal.returns
returns c = λ bytes line. (taken bytes line, λ is. takes bytes line is.0 is.1)
