use Rattle.xpath_operations.proofs.Operating.{binary_is, plain_operand}
use Rattle.xpath_operations.proofs.laws.operations_are_made_of_operands.Goals as goal

pub returns-clause-operation : goal.returns-clause-operation
returns-clause-operation c = λ op left right R values context. binary_is op left right R values context

pub returns-clause-operand : goal.returns-clause-operand
returns-clause-operand c = λ op value R values context. plain_operand op value R values context
