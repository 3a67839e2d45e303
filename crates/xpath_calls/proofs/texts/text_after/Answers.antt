use Rattle.xpath_funcs.specs.Searches.{after}
use Rattle.xpath_calls.proofs.texts.text_after.Goals as goal

pub returns : goal.returns
returns c = c.text_made.ensures (after c.args.a.now c.args.b.now) c.substring_after.ensures
