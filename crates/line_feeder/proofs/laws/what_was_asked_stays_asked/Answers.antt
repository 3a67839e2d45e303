use Rattle.std.proofs.Common.{arith}
use Rattle.line_feeder.proofs.Cuts.{read_later}
use Rattle.line_feeder.proofs.laws.what_was_asked_stays_asked.Goals as goal

pub returns : goal.returns
returns c = λ told left feeds more fewer it. read_later told left feeds more (omega (arith, fewer)) it
