use Rattle.std.proofs.Common.{◌∙◌, sym}
use Rattle.cmd_words.proofs.Numbers.{number_of_parsed}
use Rattle.cmd_words.proofs.item.number.Goals as goal

pub returns-then-is_number : goal.returns-then-is_number
returns-then-is_number c = c.ok.ensures.value ∙ number_of_parsed c.args.most c.args.text.now c.parse.result c.parse.ensures.value.0 c.requires (sym c.is_number.ensures ∙ c.if-is_number.true)
