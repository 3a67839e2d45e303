use Rattle.xpath_calls.proofs.Making.{call_is, call_none}
use Rattle.xpath_calls.proofs.laws.calls_are_made_of_arguments.Goals as goal

pub returns-clause-call : goal.returns-clause-call
returns-clause-call c = λ name f args R values context e. call_is name f args R values context e

pub returns-clause-none : goal.returns-clause-none
returns-clause-none c = λ name args R values context e. call_none name args R values context e
