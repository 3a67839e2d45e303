use Rattle.std.proofs.Common.{rules, arith, sym, ap, ◌∙◌}
use Rattle.std.specs.List.{list_any}
use Rattle.xpath_syntax.specs.declared.expression.Expr.{the_lemmas}
use Rattle.sheet_names.specs.Searching as spec
use Rattle.sheet_names.specs.Searching.{search_for}
use Rattle.sheet_names.proofs.Equations.{path_has_is, step_has_is}
use Rattle.sheet_names.proofs.Found.{told, right_holds, left_decides, minus_decides, literal_fails, number_fails, variable_decides, call_decides}
use Rattle.sheet_names.proofs.Found.{path_decides, predicates_hold, tail_holds, primary_alone}
use Rattle.sheet_names.proofs.Found.{found_at, none_left}
use Rattle.sheet_names.proofs.searching.+searching.Goals as goal

pub has-returns-then-branch : goal.has-returns-then-branch
has-returns-then-branch t c =
    right_holds (search_for c.args.sought.now) _ _ _ _ _ _ c.in-Binary.is c.loop-at.invariant.1 c.get.ensures (sym c.if-branch.true ∙ c.in_ok-has-in-Binary.ensures)

pub has-loop-at-preserved-in-Binary : goal.has-loop-at-preserved-in-Binary
has-loop-at-preserved-in-Binary t c = (
  search (rules, the_lemmas),
  left_decides (search_for c.args.sought.now) _ _ _ _ _ _ _ c.in-Binary.is c.loop-at.invariant.1 c.get.ensures
      (sym c.if-branch.false ∙ c.in_ok-has-in-Binary.ensures) c.get-at.ensures,
)

pub has-loop-at-preserved-in-Minus : goal.has-loop-at-preserved-in-Minus
has-loop-at-preserved-in-Minus t c =
    (search (rules, the_lemmas), minus_decides (search_for c.args.sought.now) _ _ _ _ c.in-Minus.is c.loop-at.invariant.1 c.get-at-in-Minus.ensures)

pub has-returns-in-Literal : goal.has-returns-in-Literal
has-returns-in-Literal t c =
    literal_fails (search_for c.args.sought.now) _ _ _ c.in-Literal.is c.loop-at.invariant.1

pub has-returns-in-Number : goal.has-returns-in-Number
has-returns-in-Number t c =
    number_fails (search_for c.args.sought.now) _ _ _ c.in-Number.is c.loop-at.invariant.1

pub has-returns-in-Variable : goal.has-returns-in-Variable
has-returns-in-Variable t c =
    variable_decides (search_for c.args.sought.now) _ _ _ c.is_sought.result c.in-Variable.is c.loop-at.invariant.1 c.is_sought.ensures

pub has-returns-in-Call : goal.has-returns-in-Call
has-returns-in-Call t c =
    call_decides (search_for c.args.sought.now) _ _ _ _ c.call_has.result c.in-Call.is c.loop-at.invariant.1 c.call_has.ensures

pub has-returns-in-Path : goal.has-returns-in-Path
has-returns-in-Path t c =
    path_decides (search_for c.args.sought.now) _ _ _ c.path_has.result c.in-Path.is c.loop-at.invariant.1 c.path_has.ensures

pub has-returns-then-branch-2 : goal.has-returns-then-branch-2
has-returns-then-branch-2 t c =
    predicates_hold (search_for c.args.sought.now) _ _ _ _ _ c.in-Filter.is c.loop-at.invariant.1 (sym c.if-branch-2.true ∙ c.in_ok-any_has-in-Filter.ensures)

pub has-returns-then-branch-3 : goal.has-returns-then-branch-3
has-returns-then-branch-3 t c =
    tail_holds (search_for c.args.sought.now) _ _ _ _ _ c.in-Filter.is c.loop-at.invariant.1 (sym c.if-branch-3.true ∙ c.in_ok-tail_has-in-Filter.ensures)

pub has-loop-at-preserved : goal.has-loop-at-preserved
has-loop-at-preserved t c = (
  search (rules, the_lemmas),
  primary_alone (search_for c.args.sought.now) _ _ _ _ _ _ c.in-Filter.is c.loop-at.invariant.1
      (sym c.if-branch-2.false ∙ c.in_ok-any_has-in-Filter.ensures) (sym c.if-branch-3.false ∙ c.in_ok-tail_has-in-Filter.ensures) c.get-at-in-Filter.ensures,
)

pub any_has-returns-then-branch : goal.any_has-returns-then-branch
any_has-returns-then-branch t c =
    found_at (spec.has (search_for c.args.sought.now)) c.as_slice-one-items.result.now c.loop-one.one-index _ c.loop-one-test.true c.one-item.is (sym c.if-branch.true ∙ c.in_ok-has.ensures)
    ∙ ap (list_any (spec.has (search_for c.args.sought.now))) c.as_slice-one-items.ensures

pub any_has-returns : goal.any_has-returns
any_has-returns t c =
    none_left (spec.has (search_for c.args.sought.now)) c.as_slice-one-items.result.now c.loop-one.one-index c.loop-one.invariant (omega (arith, c.loop-one-test.false))
    ∙ ap (list_any (spec.has (search_for c.args.sought.now))) c.as_slice-one-items.ensures

pub path_has-returns-then-branch : goal.path_has-returns-then-branch
path_has-returns-then-branch t c =
    found_at (spec.step_has (search_for c.args.sought.now)) c.as_slice-step-items.result.now c.loop-step.step-index _ c.loop-step-test.true c.step-item.is
    (sym c.if-branch.true ∙ c.in_ok-step_has.ensures)
    ∙ ap (list_any (spec.step_has (search_for c.args.sought.now))) c.as_slice-step-items.ensures ∙ sym (path_has_is (search_for c.args.sought.now) c.args.path.now)

pub path_has-returns : goal.path_has-returns
path_has-returns t c =
    none_left (spec.step_has (search_for c.args.sought.now)) c.as_slice-step-items.result.now c.loop-step.step-index c.loop-step.invariant (omega (arith, c.loop-step-test.false))
    ∙ ap (list_any (spec.step_has (search_for c.args.sought.now))) c.as_slice-step-items.ensures ∙ sym (path_has_is (search_for c.args.sought.now) c.args.path.now)

pub step_has-returns : goal.step_has-returns
step_has-returns t c =
    told c.any_has.result _ (spec.step_has (search_for c.args.sought.now) c.args.step.now) (sym (step_has_is (search_for c.args.sought.now) c.args.step.now)) c.any_has.ensures
