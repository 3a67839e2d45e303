use Rattle.xpath_laws.proofs.Expressions.{items_go_on, path_items_go_on}
use Rattle.xpath_laws.proofs.growth.items_go_on.Goals as goal

pub returns-clause-selected : goal.returns-clause-selected
returns-clause-selected c = λ before later e values context x. items_go_on before later x e values context

pub returns-clause-path : goal.returns-clause-path
returns-clause-path c = λ before later path values context x. path_items_go_on before later x path values context
