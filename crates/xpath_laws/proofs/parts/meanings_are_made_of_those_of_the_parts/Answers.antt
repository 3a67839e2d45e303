use Rattle.xpath_laws.proofs.Equations.{binary_means, minus_means, literal_means, number_means, variable_means, call_means, location_means, filter_means, tail_means}
use Rattle.xpath_laws.proofs.parts.meanings_are_made_of_those_of_the_parts.Goals as goal

pub returns-clause-binary : goal.returns-clause-binary
returns-clause-binary c = λ op left right. binary_means op left right

pub returns-clause-minus : goal.returns-clause-minus
returns-clause-minus c = λ inner. minus_means inner

pub returns-clause-literal : goal.returns-clause-literal
returns-clause-literal c = λ bytes. literal_means bytes

pub returns-clause-number : goal.returns-clause-number
returns-clause-number c = λ whole. number_means whole

pub returns-clause-variable : goal.returns-clause-variable
returns-clause-variable c = λ name. variable_means name

pub returns-clause-call : goal.returns-clause-call
returns-clause-call c = λ name args. call_means name args

pub returns-clause-path : goal.returns-clause-path
returns-clause-path c = λ path. location_means path

pub returns-clause-filter : goal.returns-clause-filter
returns-clause-filter c = λ primary predicates. filter_means primary predicates

pub returns-clause-filter_with_tail : goal.returns-clause-filter_with_tail
returns-clause-filter_with_tail c = λ primary predicates tail. tail_means primary predicates tail
