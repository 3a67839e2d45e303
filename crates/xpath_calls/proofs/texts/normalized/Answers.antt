use Rattle.xpath_funcs.specs.Spaces.{normalized}
use Rattle.xpath_calls.proofs.texts.normalized.Goals as goal

pub returns : goal.returns
returns c = c.text_made.ensures (normalized c.args.a.now) c.normalize_space.ensures
