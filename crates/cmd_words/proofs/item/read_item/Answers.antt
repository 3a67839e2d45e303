use Rattle.std.proofs.Common.{◌∙◌, sym}
use Rattle.cmd_words.proofs.Numbers.{item_of_other}
use Rattle.cmd_words.proofs.item.read_item.Goals as goal

pub returns-in_err-digits : goal.returns-in_err-digits
unfolding lib.Utf8.encode
returns-in_err-digits c = c.from_residual-in_err-digits.ensures ∙ sym (item_of_other c.args.readers c.args.piece.now c.in_default.ensures.cases c.in_err-digits.ensures.cases)
