use Rattle.std.proofs.Common.{rules, ◌≡◌, sym, ap, ◌∙◌, [], ◌∷◌, ◌++◌, List}
use Rattle.std.specs.Prelude.{IfOk}
use Rattle.xpath_syntax.specs.declared.expression.Expr.{Expr, the_lemmas}
use Rattle.xpath_syntax.specs.declared.expression.Expr.TheVariants as e
use Rattle.xpath_syntax.specs.declared.expression.TestExpr.{TestExpr}
use Rattle.xpath_syntax.specs.declared.expression.Path.{roll-Path, out-Path}
use Rattle.xpath_syntax.specs.declared.expression.StepExpr.{StepExpr, roll-StepExpr, out-StepExpr}
use Rattle.sheet_names.specs.declared.placing.Operand.{Operand}
use Rattle.sheet_names.specs.Joining.{joined}
use Rattle.sheet_names.specs.Placing.{placed}
use Rattle.sheet_names.proofs.Equations.{placed_path_is, placed_step_is}
use Rattle.sheet_names.proofs.Joins.{one_more}
use Rattle.sheet_names.proofs.Placed.{finishes, is_minus, is_literal, is_number, is_variable, is_call, is_path, is_filter}
use Rattle.sheet_names.proofs.placing.+placing.Goals as goal

pub place-loop-at-preserved : goal.place-loop-at-preserved
place-loop-at-preserved t c =
    let x : Operand = record { op = c.in-Binary.op; right = c.in_ok-right-in-Binary.right } in
    let pushed : c.push.new.self ≡ c.loop-at.above ++ x ∷ [] = search rules in
    let made : x.right ≡ placed c.args.globals.now c.args.locals.now c.get.result.now = search rules in (
      search (rules, the_lemmas),
      one_more c.args.globals.now c.args.locals.now _ _ _ _ _ x _ _ pushed c.in-Binary.is c.get.ensures made c.get-at.ensures ∙ c.loop-at.invariant.1,
    )

pub place-returns-in-Minus : goal.place-returns-in-Minus
place-returns-in-Minus t c =
    finishes c.args.globals.now c.args.locals.now _ c.loop-at.at.now c.args.e.now c.loop-at.above c.join.result c.loop-at.invariant.1
    (is_minus c.args.globals.now c.args.locals.now _ _ _ _ _ c.in-Minus.is c.get-in-Minus.ensures c.in_ok-place-in-Minus.ensures c.in_ok-inner-in-Minus.ensures)
    c.join.ensures

pub place-returns-in-Literal : goal.place-returns-in-Literal
place-returns-in-Literal t c =
    finishes c.args.globals.now c.args.locals.now _ c.loop-at.at.now c.args.e.now c.loop-at.above c.join-in-Literal.result c.loop-at.invariant.1
    (is_literal c.args.globals.now c.args.locals.now _ _ _ c.in-Literal.is c.in_ok-copy_text-in-Literal.ensures)
    c.join-in-Literal.ensures

pub place-returns-in-Number : goal.place-returns-in-Number
place-returns-in-Number t c =
    let made : IfOk c.join-in-Number.result (λ (whole : Expr). whole ≡ joined (e.Number c.in-Number.whole) c.loop-at.above) = search rules in
    finishes c.args.globals.now c.args.locals.now _ c.loop-at.at.now c.args.e.now c.loop-at.above c.join-in-Number.result c.loop-at.invariant.1
    (is_number c.args.globals.now c.args.locals.now _ _ c.in-Number.is)
    made

pub place-returns-in-Variable : goal.place-returns-in-Variable
place-returns-in-Variable t c =
    finishes c.args.globals.now c.args.locals.now _ c.loop-at.at.now c.args.e.now c.loop-at.above c.join-in-Variable.result c.loop-at.invariant.1
    (is_variable c.args.globals.now c.args.locals.now _ _ _ c.in-Variable.is c.in_ok-name-in-Variable.ensures)
    c.join-in-Variable.ensures

pub place-returns-in-Call : goal.place-returns-in-Call
place-returns-in-Call t c =
    finishes c.args.globals.now c.args.locals.now _ c.loop-at.at.now c.args.e.now c.loop-at.above c.join-in-Call.result c.loop-at.invariant.1
    (is_call c.args.globals.now c.args.locals.now _ _ _ _ _ c.in-Call.is c.in_ok-name-in-Call.ensures c.in_ok-args-in-Call.ensures)
    c.join-in-Call.ensures

pub place-returns-in-Path : goal.place-returns-in-Path
place-returns-in-Path t c =
    finishes c.args.globals.now c.args.locals.now _ c.loop-at.at.now c.args.e.now c.loop-at.above c.join-in-Path.result c.loop-at.invariant.1
    (is_path c.args.globals.now c.args.locals.now _ _ _ c.in-Path.is c.in_ok-path-in-Path.ensures)
    c.join-in-Path.ensures

pub place-returns-in-Filter : goal.place-returns-in-Filter
place-returns-in-Filter t c =
    finishes c.args.globals.now c.args.locals.now _ c.loop-at.at.now c.args.e.now c.loop-at.above c.join-in-Filter.result c.loop-at.invariant.1
    (is_filter c.args.globals.now c.args.locals.now _ _ _ _ _ _ _ _ _ c.in-Filter.is c.get-in-Filter.ensures c.in_ok-place-in-Filter.ensures c.in_ok-primary-in-Filter.ensures
    c.in_ok-predicates-in-Filter.ensures c.in_ok-tail-in-Filter.ensures)
    c.join-in-Filter.ensures

pub place_path-returns : goal.place_path-returns
place_path-returns t c =
    ap (λ (parts : List StepExpr). roll-Path (record { absolute = (out-Path c.args.path.now).absolute; parts = parts; streams = (out-Path c.args.path.now).streams }))
    c.in_ok-place_steps.ensures ∙ sym (placed_path_is c.args.globals.now c.args.locals.now c.args.path.now)

pub place_step-returns : goal.place_step-returns
place_step-returns t c =
    let step = out-StepExpr c.args.step.now in
    ap (λ (test : TestExpr). roll-StepExpr (record { axis = step.axis; test = test; predicates = c.in_ok-place_all.field-0 })) c.in_ok-copy_test.ensures
    ∙ ap (λ (predicates : List Expr). roll-StepExpr (record { axis = step.axis; test = step.test; predicates = predicates })) c.in_ok-place_all.ensures
    ∙ sym (placed_step_is c.args.globals.now c.args.locals.now c.args.step.now)
