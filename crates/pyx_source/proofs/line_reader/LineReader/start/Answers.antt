use Rattle.std.proofs.Common.{arith}
use Rattle.pyx_source.proofs.line_reader.LineReader.start.Goals as goal

pub invariant_of-result : goal.invariant_of-result
invariant_of-result c = (
  c.in-Ok.ensures.len,
  record {
    counted = omega arith;
    bound = omega arith;
    few = λ _. omega arith;
    over = λ _. c.new.ensures;
    spelled = λ same. cc;
  },
)
