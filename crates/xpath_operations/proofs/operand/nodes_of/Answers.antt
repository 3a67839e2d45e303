use Rattle.std.proofs.Common.{ap}
use Rattle.doc_model.specs.Answers.{Known}
use Rattle.key_sources.proofs.Saying.{gives_exit, gives_stops}
use Rattle.xpath_meaning.specs.Conversions.{nodes_of}
use Rattle.xpath_meaning.specs.Outcome.{◌>>=◌}
use Rattle.xpath_operations.specs.declared.operand.Operand.TheVariants.{Nodes}
use Rattle.xpath_operations.proofs.operand.nodes_of.Goals as goal

pub returns-in_err-nodes : goal.returns-in_err-nodes
returns-in_err-nodes c = gives_exit (nodes_of c.args.value >>= λ nodes. Known (Nodes nodes)) c.from_residual.result c.in_err-nodes.field-0.0 c.from_residual.ensures.1
    (gives_stops (nodes_of c.args.value) (λ nodes. Known (Nodes nodes)) c.in_err-nodes.field-0.0 c.in_err-nodes.ensures)

pub returns : goal.returns
returns c = ap (λ o. o >>= λ nodes. Known (Nodes nodes)) c.in_ok-nodes.ensures
