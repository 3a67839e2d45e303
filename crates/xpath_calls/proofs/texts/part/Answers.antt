use Rattle.xpath_funcs.specs.Substrings.{substring}
use Rattle.xpath_calls.proofs.texts.part.Goals as goal

pub returns : goal.returns
returns c = c.text_made.ensures (substring c.args.a.now c.args.from c.args.length) c.substring.ensures
