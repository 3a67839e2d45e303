use Rattle.whole_num.proofs.Quotients.{whole_is, fraction_is}
use Rattle.whole_num.proofs.arithmetic.quotient_is_exact.Goals as goal

pub returns-clause-whole : goal.returns-clause-whole
returns-clause-whole c = whole_is

pub returns-clause-fraction : goal.returns-clause-fraction
returns-clause-fraction c = fraction_is
