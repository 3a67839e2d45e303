use Rattle.xpath_parse.proofs.OneAnswer.{one_tree, one_refusal, not_both, tree_answered, refusal_answered}
use Rattle.xpath_parse.proofs.laws.one_answer.Goals as goal

pub returns-clause-tree : goal.returns-clause-tree
returns-clause-tree c = λ v text x y s t. one_tree v text x y s t

pub returns-clause-refusal : goal.returns-clause-refusal
returns-clause-refusal c = λ v text e f r s. one_refusal v text e f r s

pub returns-clause-not_both : goal.returns-clause-not_both
returns-clause-not_both c = λ v text x e s r. not_both v text x e s r

pub returns-clause-only : goal.returns-clause-only
returns-clause-only c = λ v text x r s a n. tree_answered v text x r s a n

pub returns-clause-refused : goal.returns-clause-refused
returns-clause-refused c = λ v text e r s a n. refusal_answered v text e r s a n
