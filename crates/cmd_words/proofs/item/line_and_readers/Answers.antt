use Rattle.std.proofs.Common.{arith}
use Rattle.std.proofs.lemmas.Grind.{common_steps}
use Rattle.std.proofs.lemmas.List.FromFn.{map-range_with_len_more}
use Rattle.cmd_words.specs.declared.item.Item.TheVariants.{Reader}
use Rattle.cmd_words.proofs.item.line_and_readers.Goals as goal

pub loop-reader-preserved : goal.loop-reader-preserved
loop-reader-preserved c = grind (arith, common_steps, map-range_with_len_more Reader 0 c.loop-reader.reader c.loop-reader.reader (omega arith))
