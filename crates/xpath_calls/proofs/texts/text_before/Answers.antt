use Rattle.xpath_funcs.specs.Searches.{before}
use Rattle.xpath_calls.proofs.texts.text_before.Goals as goal

pub returns : goal.returns
returns c = c.text_made.ensures (before c.args.a.now c.args.b.now) c.substring_before.ensures
