use Rattle.xpath_laws.proofs.Short.{dots_are, no_dots}
use Rattle.xpath_laws.proofs.abbreviations.two_dots_are_the_parent.Goals as goal

pub returns-clause-parent : goal.returns-clause-parent
returns-clause-parent c = λ rules keys id steps n m t p. dots_are rules keys id steps n m t p

pub returns-clause-none : goal.returns-clause-none
returns-clause-none c = λ rules keys id steps n t p. no_dots rules keys id steps n t p
