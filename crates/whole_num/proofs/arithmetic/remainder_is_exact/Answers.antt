use Rattle.whole_num.proofs.Remainders.{remainder_is, one_remainder}
use Rattle.whole_num.proofs.arithmetic.remainder_is_exact.Goals as goal

pub returns-clause-whole : goal.returns-clause-whole
returns-clause-whole c = λ a b r is. remainder_is a b r is

pub returns-clause-only : goal.returns-clause-only
returns-clause-only c = λ a b r s R S. one_remainder a b r s R S
