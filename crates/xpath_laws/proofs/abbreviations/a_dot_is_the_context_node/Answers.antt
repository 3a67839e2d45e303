use Rattle.xpath_laws.proofs.Short.{dot_is}
use Rattle.xpath_laws.proofs.abbreviations.a_dot_is_the_context_node.Goals as goal

pub returns : goal.returns
returns c = λ rules keys id steps n t. dot_is rules keys id steps n t
