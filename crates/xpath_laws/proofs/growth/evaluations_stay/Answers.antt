use Rattle.xpath_laws.proofs.Expressions.{evaluation_stays}
use Rattle.xpath_laws.proofs.growth.evaluations_stay.Goals as goal

pub returns : goal.returns
returns c = λ before later e values context x. evaluation_stays before later x e values context
