use Rattle.std.proofs.Common.{◌+◌, ◌*◌, ◌≡◌, drop, length, map, List}
use Rattle.doc_model.specs.Lawful.{IsLawful, Grows}
use Rattle.doc_model.specs.declared.step.Step.{Step}
use Rattle.key_sources.proofs.Loops.{Leaves}
use Rattle.key_sources.specs.Going.{Went, reading_by}
use Rattle.xpath_calls.specs.Taking.{arguments}
use Rattle.xpath_core.proofs.Chaining.{going, taking}
use Rattle.xpath_core.proofs.Stepping.{finding, one_step, holds_of, keeping, testing}
use Rattle.xpath_core.proofs.Weighing.{weight}
use Rattle.xpath_core.specs.Left.{IsPlace, left_at}
use Rattle.xpath_core.specs.Ready.{IsReady}
use Rattle.xpath_laws.specs.Sound.{IsValue, IsThere, IsNodeSet, Each}
use Rattle.xpath_meaning.specs.Evaluation.{meant, meant_step}
use Rattle.xpath_meaning.specs.Items.{tested}
use Rattle.xpath_meaning.specs.Operators.{binary}
use Rattle.xpath_meaning.specs.Readings.{values_of}
use Rattle.xpath_meaning.specs.Steps.{steps_nodes, step_nodes, filtered, kept_by}
use Rattle.xpath_syntax.proofs.expression.Expr.TheLaws.{the_size}
use Rattle.xpath_syntax.specs.declared.expression.Expr.TheVariants as expr
use Rattle.xpath_core.proofs.evaluation.+eval.Given as goal

-- ---- what falls in each call: twenty times the depth of what is evaluated, and the rank of the function

abbrev pub decreases-value : goal.decreases-value
decreases-value g l = 20 * the_size l.e.now + 5

abbrev pub decreases-chain : goal.decreases-chain
decreases-chain g l = 20 * the_size (expr.Binary l.op l.left.now l.right.now) + 4

abbrev pub decreases-applied : goal.decreases-applied
decreases-applied g l = 20 * the_size l.right.now + 8

abbrev pub decreases-operand : goal.decreases-operand
decreases-operand g l = 20 * the_size l.e.now + 7

abbrev pub decreases-nodes : goal.decreases-nodes
decreases-nodes g l = 20 * the_size l.e.now + 7

abbrev pub decreases-holds : goal.decreases-holds
decreases-holds g l = 20 * the_size l.e.now + 7

abbrev pub decreases-call : goal.decreases-call
decreases-call g l = 20 * goal.size-call g l + 10

abbrev pub decreases-arguments : goal.decreases-arguments
decreases-arguments g l = 20 * goal.size-arguments g l + 9

abbrev pub decreases-argument : goal.decreases-argument
decreases-argument g l = 20 * the_size l.e.now + 8

abbrev pub decreases-path_nodes : goal.decreases-path_nodes
decreases-path_nodes g l = 20 * goal.size-path_nodes g l + 14

abbrev pub decreases-steps : goal.decreases-steps
decreases-steps g l = 20 * goal.size-steps g l + 12

abbrev pub decreases-step : goal.decreases-step
decreases-step g l = 20 * goal.size-step g l + 11

abbrev pub decreases-step_by : goal.decreases-step_by
decreases-step_by g l = 20 * goal.size-step_by g l + 10

abbrev pub decreases-filtered : goal.decreases-filtered
decreases-filtered g l = 20 * goal.size-filtered g l + 9

abbrev pub decreases-kept_by : goal.decreases-kept_by
decreases-kept_by g l = 20 * the_size l.predicate.now + 8

abbrev pub decreases-filter : goal.decreases-filter
decreases-filter g l = 20 * the_size (expr.Filter l.primary.now l.predicates.now l.tail.now) + 4

abbrev pub decreases-tail_nodes : goal.decreases-tail_nodes
decreases-tail_nodes g l = 20 * goal.size-tail_nodes g l + 14

abbrev pub decreases-first : goal.decreases-first
decreases-first g l = 20 * goal.size-first g l + 14

abbrev pub decreases-next_item : goal.decreases-next_item
decreases-next_item g l = 20 * goal.size-next_item g l + 13

abbrev pub decreases-next_child : goal.decreases-next_child
decreases-next_child g l = 20 * goal.size-next_child g l + 10

abbrev pub decreases-tested : goal.decreases-tested
decreases-tested g l = 20 * goal.size-tested g l + 9

-- ---- whatever is answered of what is left, the call answers

abbrev pub invariant-chain-loop-next : goal.invariant-chain-loop-next
invariant-chain-loop-next g l = let sees = g.V.NodeView.sees in let keys = g.K.KeySource in record {
  went : Went (sees l.fn.view) (sees l.view) (keys.made l.fn.keys) (keys.made l.keys) (keys.fits l.keys);
  there : IsValue (IsThere (sees l.view).rules (sees l.view).steps) l.result;
  leaves : Leaves (keys.made l.fn.keys).lookups (sees l.fn.view) (sees l.view) (λ R. going (drop l.next-index l.next-items) l.result R (values_of l.env) l.ctx)
      (λ R. binary l.fn.op (meant l.left) (meant l.right) R (values_of l.env) l.ctx);
}

abbrev pub invariant-arguments-loop-arg : goal.invariant-arguments-loop-arg
invariant-arguments-loop-arg g l = let sees = g.V.NodeView.sees in let keys = g.K.KeySource in record {
  went : Went (sees l.fn.view) (sees l.view) (keys.made l.fn.keys) (keys.made l.keys) (keys.fits l.keys);
  leaves : Leaves (keys.made l.fn.keys).lookups (sees l.fn.view) (sees l.view) (λ R. taking l.function (length l.taken) (drop l.arg-index l.args) l.taken R (values_of l.env) l.ctx)
      (λ R. arguments l.function 0 (map meant l.args) R (values_of l.env) l.ctx);
}

abbrev pub invariant-steps-loop-part : goal.invariant-steps-loop-part
invariant-steps-loop-part g l = record {
  went : Went (g.V.NodeView.sees l.fn.view) (g.V.NodeView.sees l.view) (g.K.KeySource.made l.fn.keys) (g.K.KeySource.made l.keys) (g.K.KeySource.fits l.keys);
  ready : IsReady (g.V.NodeView.sees l.view) (g.K.KeySource.fits l.keys) (values_of l.env) l.ctx;
  there : IsNodeSet (IsThere (g.V.NodeView.sees l.view).rules (g.V.NodeView.sees l.view).steps) l.nodes;
  leaves : Leaves (g.K.KeySource.made l.fn.keys).lookups (g.V.NodeView.sees l.fn.view) (g.V.NodeView.sees l.view)
      (λ R. steps_nodes (map meant_step (drop l.part-index l.parts)) l.nodes R (values_of l.env) l.ctx) (λ R. steps_nodes (map meant_step l.parts) l.fn.from R (values_of l.env) l.ctx);
}

abbrev pub invariant-step_by-loop-node : goal.invariant-step_by-loop-node
invariant-step_by-loop-node g l = record {
  went : Went (g.V.NodeView.sees l.fn.view) (g.V.NodeView.sees l.view) (g.K.KeySource.made l.fn.keys) (g.K.KeySource.made l.keys) (g.K.KeySource.fits l.keys);
  ready : IsReady (g.V.NodeView.sees l.view) (g.K.KeySource.fits l.keys) (values_of l.env) l.ctx;
  there : Each (IsThere (g.V.NodeView.sees l.view).rules (g.V.NodeView.sees l.view).steps) l.from;
  leaves : Leaves (g.K.KeySource.made l.fn.keys).lookups (g.V.NodeView.sees l.fn.view) (g.V.NodeView.sees l.view)
      (λ R. finding (one_step l.part (values_of l.env) l.ctx R) (drop l.node-index l.from) l.all) (λ R. step_nodes (meant_step l.part) l.from R (values_of l.env) l.ctx);
}

abbrev pub invariant-filtered-loop-predicate : goal.invariant-filtered-loop-predicate
invariant-filtered-loop-predicate g l = record {
  went : Went (g.V.NodeView.sees l.fn.view) (g.V.NodeView.sees l.view) (g.K.KeySource.made l.fn.keys) (g.K.KeySource.made l.keys) (g.K.KeySource.fits l.keys);
  ready : IsReady (g.V.NodeView.sees l.view) (g.K.KeySource.fits l.keys) (values_of l.env) l.ctx;
  there : Each (IsThere (g.V.NodeView.sees l.view).rules (g.V.NodeView.sees l.view).steps) l.left;
  leaves : Leaves (g.K.KeySource.made l.fn.keys).lookups (g.V.NodeView.sees l.fn.view) (g.V.NodeView.sees l.view)
      (λ R. filtered (map meant (drop l.predicate-index l.predicates)) l.left R (values_of l.env) l.ctx) (λ R. filtered (map meant l.predicates) l.fn.nodes R (values_of l.env) l.ctx);
}

abbrev pub invariant-kept_by-loop-node : goal.invariant-kept_by-loop-node
invariant-kept_by-loop-node g l = record {
  went : Went (g.V.NodeView.sees l.fn.view) (g.V.NodeView.sees l.view) (g.K.KeySource.made l.fn.keys) (g.K.KeySource.made l.keys) (g.K.KeySource.fits l.keys);
  ready : IsReady (g.V.NodeView.sees l.view) (g.K.KeySource.fits l.keys) (values_of l.env) l.ctx;
  there : Each (IsThere (g.V.NodeView.sees l.view).rules (g.V.NodeView.sees l.view).steps) l.nodes;
  position : l.position ≡ l.node-index;
  leaves : Leaves (g.K.KeySource.made l.fn.keys).lookups (g.V.NodeView.sees l.fn.view) (g.V.NodeView.sees l.view)
      (λ R. keeping (holds_of l.predicate (length l.nodes) (values_of l.env) l.ctx R) (l.position + 1) (drop l.node-index l.nodes) l.kept)
      (λ R. kept_by (meant l.predicate) l.nodes R (values_of l.env) l.ctx);
}

abbrev pub invariant-tested-loop-predicate : goal.invariant-tested-loop-predicate
invariant-tested-loop-predicate g l = record {
  went : Went (g.V.NodeView.sees l.fn.view) (g.V.NodeView.sees l.view) (g.K.KeySource.made l.fn.keys) (g.K.KeySource.made l.keys) (g.K.KeySource.fits l.keys);
  ready : IsReady (g.V.NodeView.sees l.view) (g.K.KeySource.fits l.keys) (values_of l.env) l.ctx;
  there : IsThere (g.V.NodeView.sees l.view).rules (g.V.NodeView.sees l.view).steps l.n;
  long : length l.after ≡ l.predicate-index;
  leaves : Leaves (g.K.KeySource.made l.fn.keys).lookups (g.V.NodeView.sees l.fn.view) (g.V.NodeView.sees l.view)
      (λ R. testing (drop l.predicate-index l.predicates) (drop l.predicate-index l.counts) l.n l.after R (values_of l.env) l.ctx)
      (λ R. tested (map meant l.predicates) l.counts l.n R (values_of l.env) l.ctx);
}

abbrev pub invariant-next_item-walk : goal.invariant-next_item-walk
invariant-next_item-walk g l = record {
  went : Went (g.V.NodeView.sees l.fn.view) (g.V.NodeView.sees l.view) (g.K.KeySource.made l.fn.keys) (g.K.KeySource.made l.keys) (g.K.KeySource.fits l.keys);
  ready : IsReady (g.V.NodeView.sees l.view) (g.K.KeySource.fits l.keys) (values_of l.env) l.ctx;
  place : IsPlace (g.V.NodeView.sees l.view).rules (g.V.NodeView.sees l.view).steps l.parts l.place;
  left : (q : List Step) → Grows (g.V.NodeView.sees l.view).steps q → IsLawful q
      → left_at l.parts l.fn.place (reading_by (g.K.KeySource.made l.fn.keys).lookups (g.V.NodeView.sees l.view).rules q) (values_of l.env) l.ctx
      ≡ left_at l.parts l.place (reading_by (g.K.KeySource.made l.fn.keys).lookups (g.V.NodeView.sees l.view).rules q) (values_of l.env) l.ctx;
}

abbrev pub decreases-next_item-walk : goal.decreases-next_item-walk
decreases-next_item-walk g l = weight (length l.parts) l.place.levels l.place.entering
