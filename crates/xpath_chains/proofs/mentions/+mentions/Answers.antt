use Rattle.std.proofs.Common.{rules, arith, ◌≡◌, sym, ap, ◌∙◌, true, false}
use Rattle.std.specs.List.{list_any}
use Rattle.xpath_syntax.specs.declared.expression.Expr.{the_lemmas}
use Rattle.xpath_chains.specs.Mentions as spec
use Rattle.xpath_chains.proofs.Equations.{found_at, none_left, path_mentions_is, step_mentions_is}
use Rattle.xpath_chains.proofs.Found.{right_holds, left_decides, minus_decides, name_holds, arguments_decide, path_decides, predicate_holds, tail_holds, primary_decides, leaf_has_none}
use Rattle.xpath_chains.proofs.mentions.+mentions.Goals as goal
use Rattle.xpath_chains.proofs.mentions.+mentions.Goals.{mentions-then-any_mentions-via-then-any_mentions, mentions-then-any_mentions-via-else-any_mentions+then-tail_mentions}

pub mentions-returns-then-mentions : goal.mentions-returns-then-mentions
mentions-returns-then-mentions t c = right_holds _ _ _ _ _ _ _ c.in-Binary.is c.loop-at.invariant.1 c.get.ensures c.if-mentions.ensures

pub mentions-loop-at-preserved-in-Binary-1 : goal.mentions-loop-at-preserved-in-Binary-1
mentions-loop-at-preserved-in-Binary-1 t c = (search (rules, the_lemmas), left_decides _ _ _ _ _ _ _ _ c.in-Binary.is c.loop-at.invariant.1 c.get.ensures c.if-mentions.ensures c.get-at.ensures)

pub mentions-loop-at-preserved-in-Minus-1 : goal.mentions-loop-at-preserved-in-Minus-1
mentions-loop-at-preserved-in-Minus-1 t c = (search (rules, the_lemmas), minus_decides _ _ _ _ _ c.in-Minus.is c.loop-at.invariant.1 c.get-at-in-Minus.ensures)

pub mentions-returns-then-is_function : goal.mentions-returns-then-is_function
mentions-returns-then-is_function t c = name_holds _ _ _ _ _ _ c.in-Call.is c.loop-at.invariant.1 c.is_function.ensures c.if-is_function.true

pub mentions-returns-else-is_function : goal.mentions-returns-else-is_function
mentions-returns-else-is_function t c = arguments_decide _ _ _ _ _ _ c.in-Call.is c.loop-at.invariant.1 (sym c.is_function.ensures ∙ c.if-is_function.false) c.any_mentions.ensures

pub mentions-returns-in-Path : goal.mentions-returns-in-Path
mentions-returns-in-Path t c = path_decides _ _ _ _ _ c.in-Path.is c.loop-at.invariant.1 c.path_mentions.ensures

pub mentions-returns-then-any_mentions : goal.mentions-returns-then-any_mentions
mentions-returns-then-any_mentions t c = elim c.then-any_mentions.branch [
  | mentions-then-any_mentions-via-then-any_mentions w ↦ predicate_holds _ _ _ _ _ _ c.in-Filter.is c.loop-at.invariant.1 (sym c.any_mentions-in-Filter.ensures ∙ w.if-any_mentions.true)
  | mentions-then-any_mentions-via-else-any_mentions+then-tail_mentions w ↦ tail_holds _ _ _ _ _ _ c.in-Filter.is c.loop-at.invariant.1 (sym w.tail_mentions.ensures ∙ w.if-tail_mentions.true)
]

pub mentions-loop-at-preserved : goal.mentions-loop-at-preserved
mentions-loop-at-preserved t c = (
  search (rules, the_lemmas),
  primary_decides _ _ _ _ _ _ _ c.in-Filter.is c.loop-at.invariant.1
      (sym c.any_mentions-in-Filter.ensures ∙ c.if-any_mentions.false) (sym c.tail_mentions.ensures ∙ c.if-tail_mentions.false) c.get-at-in-Filter.ensures,
)

pub mentions-returns-in-Literal : goal.mentions-returns-in-Literal
mentions-returns-in-Literal t c = leaf_has_none _ _ _ c.loop-at.invariant.1 c.in-Literal.is

pub mentions-returns-in-Literal-2 : goal.mentions-returns-in-Literal-2
mentions-returns-in-Literal-2 t c = leaf_has_none _ _ _ c.loop-at.invariant.1 c.in-Literal.is

pub mentions-returns-in-Literal-3 : goal.mentions-returns-in-Literal-3
mentions-returns-in-Literal-3 t c = leaf_has_none _ _ _ c.loop-at.invariant.1 c.in-Literal.is

pub path_mentions-returns-then-step_mentions : goal.path_mentions-returns-then-step_mentions
path_mentions-returns-then-step_mentions t c =
    let held : true ≡ list_any (spec.step_mentions c.args.word.now) c.as_slice-step-items.result.now = found_at _ _ _ _ c.loop-step-test.true c.step-item.is c.if-step_mentions.ensures in
    held ∙ ap (list_any (spec.step_mentions c.args.word.now)) c.as_slice-step-items.ensures ∙ sym (path_mentions_is _ _)

pub path_mentions-returns : goal.path_mentions-returns
path_mentions-returns t c =
    let none : false ≡ list_any (spec.step_mentions c.args.word.now) c.as_slice-step-items.result.now =
    none_left (spec.step_mentions c.args.word.now) c.as_slice-step-items.result.now c.loop-step.step-index c.loop-step.invariant
    (omega (arith, c.loop-step-test.false)) in
    none ∙ ap (list_any (spec.step_mentions c.args.word.now)) c.as_slice-step-items.ensures ∙ sym (path_mentions_is _ _)

pub step_mentions-returns : goal.step_mentions-returns
step_mentions-returns t c = c.any_mentions.ensures ∙ sym (step_mentions_is _ _)
