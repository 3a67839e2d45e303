use Rattle.xpath_core.proofs.Streaming.{item_stays, rest_is}
use Rattle.xpath_laws.proofs.Expressions.{path_items_go_on}
use Rattle.xpath_meaning.specs.Evaluation.{path_items_of}
use Rattle.xpath_core.proofs.path_stream.items_behind_stay.Goals as goal

pub returns-clause-stay : goal.returns-clause-stay
returns-clause-stay c = λ before later path given values k x. item_stays given _ _ (path_items_go_on before later x path values k)

pub returns-clause-rest : goal.returns-clause-rest
returns-clause-rest c = λ R path given n values k e. rest_is given n (path_items_of R path values k) e
