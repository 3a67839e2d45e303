use Rattle.std.proofs.Common.{arith}
use Rattle.std.proofs.lemmas.Grind.{common_steps}
use Rattle.pyx_lines.proofs.Escaping.{unescape-pair, unescape-last, unescape-plain}
use Rattle.pyx_lines.proofs.escapes.unescape.Goals as goal

pub returns-then-at-rest : goal.returns-then-at-rest
returns-then-at-rest c = grind (arith, common_steps, unescape-last c.loop-at.rest.now c.in-Some.at c.in-Some.ensures (omega (arith, c.in-Some.ensures.0.high)))

pub loop-at-preserved : goal.loop-at-preserved
loop-at-preserved c = grind (arith, common_steps, unescape-pair c.loop-at.rest.now c.in-Some.at c.in-Some.ensures (omega (arith, c.in-Some.ensures.0.high)))

pub returns : goal.returns
returns c = grind (arith, common_steps, unescape-plain c.loop-at.rest.now c.in_default.ensures)
