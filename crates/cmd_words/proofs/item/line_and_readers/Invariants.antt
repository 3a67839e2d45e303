use Rattle.std.proofs.Common.{◌≡◌, ◌∷◌, map}
use Rattle.std.specs.List.{range_with_len}
use Rattle.cmd_words.specs.declared.item.Item.TheVariants.{Lines, Reader}
use Rattle.cmd_words.proofs.item.line_and_readers.Given as goal

abbrev pub invariant-loop-reader : goal.invariant-loop-reader
invariant-loop-reader l = l.items ≡ Lines 1 ∷ map Reader (range_with_len 0 l.reader)
