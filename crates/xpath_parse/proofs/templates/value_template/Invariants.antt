use Rattle.std.proofs.Common.{length, ◌-◌}
use Rattle.xpath_parse.proofs.Rest.{Rest}
use Rattle.xpath_parse.proofs.templates.value_template.Given as goal

abbrev pub invariant-loop-at : goal.invariant-loop-at
invariant-loop-at l = Rest l.bytes l.parts l.plain l.at

abbrev pub decreases-loop-at : goal.decreases-loop-at
decreases-loop-at l = length l.bytes - l.at
