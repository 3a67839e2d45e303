use Rattle.std.proofs.Common.{◌≡◌}
use Rattle.word_cases.specs.Links.{HasNoneFrom}
use Rattle.word_cases.proofs.links.add_all.Given as goal

abbrev pub invariant-loop-row : goal.invariant-loop-row
invariant-loop-row l = (l.writer.mark ≡ l.initial.writer.mark) × HasNoneFrom l.rows l.row l.writer.log
