use Rattle.std.proofs.Common.{ap}
use Rattle.xpath_grammar.proofs.Exact.{one_tree}
use Rattle.xpath_grammar.proofs.Unique.{one_refusal, no_tree_refused}
use Rattle.xpath_grammar.proofs.laws.words_have_one_answer.Goals as goal

pub returns-clause-tree : goal.returns-clause-tree
returns-clause-tree c = λ limit d v ws x y i j. one_tree limit d v ws x y i j

pub returns-clause-place : goal.returns-clause-place
returns-clause-place c = λ limit d v ws k l us vs r q. let e = one_refusal limit d v ws k l us vs r q in (ap (λ p. p.0) e, ap (λ p. p.1) e)

pub returns-clause-not_both : goal.returns-clause-not_both
returns-clause-not_both c = λ limit d v ws x k rest i r. no_tree_refused limit d v ws x k rest i r
