use Rattle.std.proofs.Common.{◌+◌, ◌*◌, ◌≤◌, ◌<◌, List, length}
use Rattle.xpath_syntax.specs.declared.expression.Expr.{Expr}
use Rattle.xpath_syntax.specs.declared.expression.StepExpr.{StepExpr}
use Rattle.xpath_grammar.specs.Signs.{place}
use Rattle.xpath_grammar.specs.declared.sign.Precedence.TheVariants as precedence
use Rattle.xpath_grammar.specs.Productions as rule
use Rattle.xpath_grammar.specs.Reading.{Reads}
use Rattle.xpath_grammar.specs.Words.{whole_numbers}
use Rattle.xpath_words.specs.Seen.{Read, ReadsSo, led_steps, seen}
use Rattle.xpath_trees.proofs.ByGrammar.{add}
use Rattle.xpath_trees.proofs.Climbing.{Climbs}
use Rattle.xpath_trees.proofs.expressions.+reading.Given as goal

abbrev pub decreases-level : goal.decreases-level
decreases-level l = 100 * l.depth + 10 * place l.p + 9

abbrev pub decreases-climb : goal.decreases-climb
decreases-climb l = 100 * l.depth + 10 * place l.p + 8

abbrev pub decreases-union : goal.decreases-union
decreases-union l = 100 * l.depth + 18

abbrev pub decreases-unary : goal.decreases-unary
decreases-unary l = 100 * l.depth + 28

abbrev pub decreases-operand : goal.decreases-operand
decreases-operand l = 100 * l.depth + 8

abbrev pub decreases-primary : goal.decreases-primary
decreases-primary l = 100 * l.depth + 5

abbrev pub decreases-arguments : goal.decreases-arguments
decreases-arguments l = 100 * l.depth + 95

abbrev pub decreases-predicates : goal.decreases-predicates
decreases-predicates l = 100 * l.depth + 1

abbrev pub decreases-location : goal.decreases-location
decreases-location l = 100 * l.depth + 6

abbrev pub decreases-steps : goal.decreases-steps
decreases-steps l = 100 * l.depth + 4

abbrev pub decreases-step : goal.decreases-step
decreases-step l = 100 * l.depth + 3

abbrev pub decreases-tested : goal.decreases-tested
decreases-tested l = 100 * l.depth + 2

-- whatever the operators, arguments, predicates and steps that are left have, all of them have
abbrev pub invariant-climb-loop-op : goal.invariant-climb-loop-op
invariant-climb-loop-op l =
    ((a : Read Expr) → Climbs l.depth l.from l.p l.left (seen l.rest) a → ReadsSo l.depth (rule.level l.p) (seen l.fn.words) a)
    × (place precedence.Unary < place l.from) × (place l.from ≤ place l.p)

abbrev pub decreases-climb-loop-op : goal.decreases-climb-loop-op
decreases-climb-loop-op l = length l.rest

abbrev pub invariant-union-loop-op : goal.invariant-union-loop-op
invariant-union-loop-op l = (a : Read Expr) → ReadsSo l.depth (rule.more precedence.Union l.left) (seen l.rest) a → ReadsSo l.depth (rule.level precedence.Union) (seen l.fn.words) a

abbrev pub decreases-union-loop-op : goal.decreases-union-loop-op
decreases-union-loop-op l = length l.rest

abbrev pub invariant-arguments-loop-next : goal.invariant-arguments-loop-next
invariant-arguments-loop-next l = (a : Read (List Expr)) → ReadsSo l.depth rule.more_arguments (seen l.rest) a → ReadsSo l.depth rule.arguments (seen l.fn.words) (add l.args a)

abbrev pub decreases-arguments-loop-next : goal.decreases-arguments-loop-next
decreases-arguments-loop-next l = length l.rest

abbrev pub invariant-predicates-loop-next : goal.invariant-predicates-loop-next
invariant-predicates-loop-next l = (a : Read (List Expr)) → ReadsSo l.depth rule.predicates (seen l.rest) a → ReadsSo l.depth rule.predicates (seen l.fn.words) (add l.all a)

abbrev pub decreases-predicates-loop-next : goal.decreases-predicates-loop-next
decreases-predicates-loop-next l = length l.rest

abbrev pub invariant-steps-loop-deeper : goal.invariant-steps-loop-deeper
invariant-steps-loop-deeper l = (a : Read (List StepExpr)) → ReadsSo l.depth rule.more_steps (seen l.rest) a
    → Reads whole_numbers l.depth rule.more_steps (led_steps l.fn.deep) (seen l.fn.words) (add l.parts a)

abbrev pub decreases-steps-loop-deeper : goal.decreases-steps-loop-deeper
decreases-steps-loop-deeper l = length l.rest
