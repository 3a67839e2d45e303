use Rattle.whole_num.specs.Number.{greatest}
use Rattle.std.proofs.Common.{◌+◌, ◌∙◌, arith}
use Rattle.whole_num.proofs.Digits.{digit_more}
use Rattle.whole_num.proofs.reading.magnitude.Goals as goal

pub loop-d-preserved : goal.loop-d-preserved
loop-d-preserved c = c.min-magnitude.ensures ∙ digit_more c.args.digits.now c.loop-d.d-index c.loop-d.magnitude (greatest + 1) c.requires (omega arith) c.loop-d.invariant
