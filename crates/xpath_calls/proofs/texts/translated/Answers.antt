use Rattle.xpath_funcs.specs.Translating.{translated}
use Rattle.xpath_calls.proofs.texts.translated.Goals as goal

pub returns : goal.returns
returns c = c.text_made.ensures (translated c.args.a.now c.args.from.now c.args.to.now) c.translate.ensures
