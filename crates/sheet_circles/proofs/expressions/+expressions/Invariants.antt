use Rattle.std.proofs.Common.{◌≡◌, ◌≤◌, ◌++◌, take}
use Rattle.std.specs.List.{flat_map}
use Rattle.xpath_syntax.proofs.expression.Expr.TheLaws.{the_size}
use Rattle.sheet_graph.specs.Graph.{names_of}
use Rattle.sheet_graph.specs.Mentions.{expr_mentions}
use Rattle.sheet_circles.specs.Parts.{step_mentions}
use Rattle.sheet_circles.proofs.expressions.+expressions.Given as goal

-- what is left is named behind what has been
abbrev pub invariant-name_expression-loop-at : goal.invariant-name_expression-loop-at
invariant-name_expression-loop-at l =
    (the_size l.at ≤ the_size l.fn.e) × (l.names ++ names_of l.sheet (expr_mentions l.at) ≡ l.initial.names ++ names_of l.sheet (expr_mentions l.fn.e))

abbrev pub invariant-name_expressions-loop-one : goal.invariant-name_expressions-loop-one
invariant-name_expressions-loop-one l = l.names ≡ l.initial.names ++ names_of l.sheet (flat_map expr_mentions (take l.one-index l.one-items))

abbrev pub invariant-name_path-loop-step : goal.invariant-name_path-loop-step
invariant-name_path-loop-step l = l.names ≡ l.initial.names ++ names_of l.sheet (flat_map step_mentions (take l.step-index l.step-items))
