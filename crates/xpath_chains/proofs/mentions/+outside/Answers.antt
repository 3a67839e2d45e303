use Rattle.std.proofs.Common.{rules, sym, ◌∙◌}
use Rattle.xpath_syntax.specs.declared.expression.Expr.{the_lemmas}
use Rattle.xpath_chains.proofs.Found.{right_uses, left_uses, minus_uses, filter_uses, name_uses, arguments_use, leaf_uses_none}
use Rattle.xpath_chains.proofs.mentions.+outside.Goals as goal

pub uses_last_outside_predicates-returns-then-uses_last_outside_predicates : goal.uses_last_outside_predicates-returns-then-uses_last_outside_predicates
uses_last_outside_predicates-returns-then-uses_last_outside_predicates t c =
    right_uses _ _ _ _ _ _ c.in-Binary.is c.loop-at.invariant.1 c.get.ensures c.if-uses_last_outside_predicates.ensures

pub uses_last_outside_predicates-loop-at-preserved-in-Binary-1 : goal.uses_last_outside_predicates-loop-at-preserved-in-Binary-1
uses_last_outside_predicates-loop-at-preserved-in-Binary-1 t c =
    (search (rules, the_lemmas), left_uses _ _ _ _ _ _ _ c.in-Binary.is c.loop-at.invariant.1 c.get.ensures c.if-uses_last_outside_predicates.ensures c.get-at.ensures)

pub uses_last_outside_predicates-loop-at-preserved-in-Minus-1 : goal.uses_last_outside_predicates-loop-at-preserved-in-Minus-1
uses_last_outside_predicates-loop-at-preserved-in-Minus-1 t c = (search (rules, the_lemmas), minus_uses _ _ _ _ c.in-Minus.is c.loop-at.invariant.1 c.get-at-in-Minus.ensures)

pub uses_last_outside_predicates-returns-then-is_function : goal.uses_last_outside_predicates-returns-then-is_function
uses_last_outside_predicates-returns-then-is_function t c = name_uses _ _ _ _ _ c.in-Call.is c.loop-at.invariant.1 c.is_function.ensures c.if-is_function.true

pub uses_last_outside_predicates-returns-else-is_function : goal.uses_last_outside_predicates-returns-else-is_function
uses_last_outside_predicates-returns-else-is_function t c =
    arguments_use _ _ _ _ _ c.in-Call.is c.loop-at.invariant.1 (sym c.is_function.ensures ∙ c.if-is_function.false) c.any_uses_last.ensures

pub uses_last_outside_predicates-loop-at-preserved : goal.uses_last_outside_predicates-loop-at-preserved
uses_last_outside_predicates-loop-at-preserved t c = (search (rules, the_lemmas), filter_uses _ _ _ _ _ _ c.in-Filter.is c.loop-at.invariant.1 c.get-at-in-Filter.ensures)

pub uses_last_outside_predicates-returns-in-Literal : goal.uses_last_outside_predicates-returns-in-Literal
uses_last_outside_predicates-returns-in-Literal t c = leaf_uses_none _ _ c.loop-at.invariant.1 c.in-Literal.is

pub uses_last_outside_predicates-returns-in-Literal-2 : goal.uses_last_outside_predicates-returns-in-Literal-2
uses_last_outside_predicates-returns-in-Literal-2 t c = leaf_uses_none _ _ c.loop-at.invariant.1 c.in-Literal.is

pub uses_last_outside_predicates-returns-in-Literal-3 : goal.uses_last_outside_predicates-returns-in-Literal-3
uses_last_outside_predicates-returns-in-Literal-3 t c = leaf_uses_none _ _ c.loop-at.invariant.1 c.in-Literal.is

pub uses_last_outside_predicates-returns-in-Literal-4 : goal.uses_last_outside_predicates-returns-in-Literal-4
uses_last_outside_predicates-returns-in-Literal-4 t c = leaf_uses_none _ _ c.loop-at.invariant.1 c.in-Literal.is
