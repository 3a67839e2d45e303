use Rattle.std.proofs.Common.{false}
use Rattle.xpath_syntax.proofs.Alone.{one_list, one_stop, not_both}
use Rattle.xpath_syntax.proofs.lexer.one_reading.Goals as goal

pub returns-clause-list : goal.returns-clause-list
returns-clause-list c = λ text ts us t u. one_list 0 false text ts us t u

pub returns-clause-stop : goal.returns-clause-stop
returns-clause-stop c = λ text p q s t. one_stop 0 false text p q s t

pub returns-clause-not_both : goal.returns-clause-not_both
returns-clause-not_both c = λ text ts p t s. not_both 0 false text ts p t s
