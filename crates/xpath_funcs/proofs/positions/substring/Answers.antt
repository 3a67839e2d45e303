use Rattle.std.proofs.Common.{arith}
use Rattle.xpath_funcs.specs.Substrings.{is_at}
use Rattle.xpath_funcs.proofs.Numbered.{kept_bytes}
use Rattle.xpath_funcs.proofs.positions.substring.Goals as goal

pub loop-byte-init : goal.loop-byte-init
loop-byte-init c = record { counted = omega arith; kept = rw c.new-kept.ensures (kept_bytes (is_at c.args.from c.args.len) c.args.a.now) }
