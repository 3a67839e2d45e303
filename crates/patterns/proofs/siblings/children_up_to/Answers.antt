use Rattle.std.proofs.Common.{◌∷◌, [], ◌++◌, ap, reverse, subst, sym}
use Rattle.doc_model.specs.Answers.{Known}
use Rattle.key_sources.proofs.Saying.{says_exit, says_failed, says_then_given, says_memory}
use Rattle.xpath_laws.proofs.Tells.{each_append}
use Rattle.xpath_laws.specs.Sound.{Each, IsThere}
use Rattle.xpath_nodes.proofs.Holding.{there_on}
use Rattle.patterns.proofs.Beside.{each_reversed}
use Rattle.patterns.proofs.siblings.children_up_to.Goals as goal

pub returns-in_err-before-clause-answers : goal.returns-in_err-before-clause-answers
returns-in_err-before-clause-answers g c = λ lookups. says_failed (λ R before. Known (reverse before ++ c.args.n ∷ [])) c.from_residual.result c.from_residual.ensures.1
    (c.in_err-before.ensures.answers lookups)

pub returns-in_err-nodes-clause-answers : goal.returns-in_err-nodes-clause-answers
returns-in_err-nodes-clause-answers g c = λ lookups. says_exit c.from_residual-in_err-nodes.result c.from_residual-in_err-nodes.ensures.1 says_memory

pub returns-clause-answers : goal.returns-clause-answers
returns-clause-answers g c =
    λ lookups. says_then_given (λ before. Known (reverse before ++ c.args.n ∷ [])) _ c.in_ok-before.ensures.moves (c.in_ok-before.ensures.answers lookups)
    (ap (λ nodes. Known nodes) (sym c.in_ok-nodes.ensures))

pub returns-clause-nodes : goal.returns-clause-nodes
returns-clause-nodes g c =
    let t = g.V.NodeView.sees c.nodes_on.new.view in
    let there = there_on _ _ c.args.n c.in_ok-before.ensures.moves c.requires in
    subst (Each (IsThere t.rules t.steps)) (sym c.in_ok-nodes.ensures)
    (each_append (IsThere t.rules t.steps) (reverse c.in_ok-before.before) (c.args.n ∷ []) (each_reversed (IsThere t.rules t.steps) c.in_ok-before.before c.in_ok-before.ensures.nodes) (there, tt))
