use Rattle.std.proofs.Common.{rules, arith, ◌≡◌, sym, ap, ◌∙◌, ◌++◌}
use Rattle.std.specs.List.{flat_map}
use Rattle.std.proofs.lemmas.List.{take_all}
use Rattle.sheet_circles.specs.Parts.{step_mentions}
use Rattle.xpath_syntax.specs.declared.expression.Expr.{the_lemmas}
use Rattle.sheet_graph.specs.Graph.{names_of}
use Rattle.sheet_circles.proofs.Equations.{of_steps, of_predicates}
use Rattle.sheet_circles.proofs.Operands.{if_ok, right_first, minus_left, primary_left, variable_named, call_named, path_named, nothing_named}
use Rattle.sheet_circles.proofs.expressions.+expressions.Goals as goal

pub name_expression-loop-at-preserved-in-Binary-1 : goal.name_expression-loop-at-preserved-in-Binary-1
name_expression-loop-at-preserved-in-Binary-1 t c =
    (search (rules, the_lemmas), right_first c.args.sheet.now _ _ _ _ _ _ _ _ _ _ c.loop-at.invariant.1 c.in-Binary.is c.get.ensures c.get-at.ensures c.in_ok-name_expression-in-Binary.ensures)

pub name_expression-loop-at-preserved-in-Minus-1 : goal.name_expression-loop-at-preserved-in-Minus-1
name_expression-loop-at-preserved-in-Minus-1 t c = (search (rules, the_lemmas), minus_left c.args.sheet.now _ _ _ _ _ _ c.loop-at.invariant.1 c.in-Minus.is c.get-at-in-Minus.ensures)

pub name_expression-loop-at-preserved : goal.name_expression-loop-at-preserved
name_expression-loop-at-preserved t c = (
  search (rules, the_lemmas),
  primary_left c.args.sheet.now _ _ _ _ _ _ _ _ _ _ c.loop-at.invariant.1 c.in-Filter.is c.get-at-in-Filter.ensures
      c.in_ok-name_expressions-in-Filter.ensures c.in_ok-name_tail-in-Filter.ensures,
)

pub name_expression-returns-in-Variable : goal.name_expression-returns-in-Variable
name_expression-returns-in-Variable t c = if_ok c.name_variable.result c.name_variable.ensures (variable_named c.args.sheet.now _ _ _ _ _ _ c.loop-at.invariant.1 c.in-Variable.is)

pub name_expression-returns-in-Call : goal.name_expression-returns-in-Call
name_expression-returns-in-Call t c = if_ok c.name_expressions.result c.name_expressions.ensures (call_named c.args.sheet.now _ _ _ _ _ _ _ c.loop-at.invariant.1 c.in-Call.is)

pub name_expression-returns-in-Path : goal.name_expression-returns-in-Path
name_expression-returns-in-Path t c = if_ok c.name_path.result c.name_path.ensures (path_named c.args.sheet.now _ _ _ _ _ _ c.loop-at.invariant.1 c.in-Path.is)

pub name_expression-returns-in-Literal : goal.name_expression-returns-in-Literal
name_expression-returns-in-Literal t c = nothing_named c.args.sheet.now _ _ _ _ c.loop-at.invariant.1 c.in-Literal.is

pub name_expression-returns-in-Literal-2 : goal.name_expression-returns-in-Literal-2
name_expression-returns-in-Literal-2 t c = nothing_named c.args.sheet.now _ _ _ _ c.loop-at.invariant.1 c.in-Literal.is

pub name_path-returns : goal.name_path-returns
name_path-returns t c = c.loop-step.invariant ∙ ap (λ m. c.args.names.now ++ names_of c.args.sheet.now m)
    (ap (flat_map step_mentions) (take_all c.loop-step.step-index c.as_slice-step-items.result.now (omega (arith, c.loop-step-test.false)) ∙ c.as_slice-step-items.ensures)
    ∙ sym (of_steps c.args.path.now))

pub name_step-returns : goal.name_step-returns
name_step-returns t c = if_ok c.name_expressions.result c.name_expressions.ensures (λ is. is ∙ sym (ap (λ m. c.args.names.now ++ names_of c.args.sheet.now m) (of_predicates c.args.step.now)))
