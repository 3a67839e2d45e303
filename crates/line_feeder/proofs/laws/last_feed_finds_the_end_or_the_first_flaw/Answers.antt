use Rattle.pyx_lines.specs.Lines.{judged_lines}
use Rattle.line_feeder.proofs.Lasting.{last_feed}
use Rattle.line_feeder.proofs.laws.last_feed_finds_the_end_or_the_first_flaw.Goals as goal

pub returns : goal.returns
returns c = λ limits bytes. last_feed limits (judged_lines bytes)
