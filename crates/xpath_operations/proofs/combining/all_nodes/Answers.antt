use Rattle.std.proofs.Common.{◌∙◌, ap, sym, ◌++◌, Err}
use Rattle.doc_model.specs.Answers.{Known}
use Rattle.xpath_laws.proofs.Order.{order_is}
use Rattle.xpath_meaning.specs.DocumentOrder.{document_order}
use Rattle.xpath_meaning.specs.declared.stop.EvalStop.TheVariants.{Memory}
use Rattle.xpath_values.specs.declared.value.Value.TheVariants.{Nodes}
use Rattle.key_sources.proofs.Saying.{gives_exit}
use Rattle.xpath_operations.specs.Operands.{union}
use Rattle.xpath_operations.proofs.combining.all_nodes.Goals as goal

pub returns-in_err-nodes : goal.returns-in_err-nodes
returns-in_err-nodes c = gives_exit (union c.args.a c.args.b) c.from_residual.result Memory c.from_residual.ensures.1 tt

pub returns : goal.returns
returns c = ap (λ ns. Known (Nodes (document_order (c.args.a ++ ns)))) (sym c.as_slice.ensures)
    ∙ ap (λ ns. Known (Nodes ns)) (sym (order_is (c.args.a ++ c.as_slice.result.now) c.in_ok-nodes.nodes c.in_ok-nodes.ensures.order c.in_ok-nodes.ensures.members))
