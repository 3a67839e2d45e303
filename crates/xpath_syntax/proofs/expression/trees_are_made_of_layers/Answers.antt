use Rattle.xpath_syntax.proofs.Layers.{rebuilt_is}
use Rattle.xpath_syntax.proofs.expression.trees_are_made_of_layers.Goals as goal

pub returns : goal.returns
returns c = rebuilt_is
