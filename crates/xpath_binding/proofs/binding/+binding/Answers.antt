use Rattle.std.proofs.Common.{rules, arith, ◌≡◌, sym, ap, ◌∙◌, ◌+◌, [], ◌∷◌, ◌++◌, map, drop, Ok, Err}
use Rattle.xpath_syntax.proofs.expression.Expr.TheLaws.{the_size}
use Rattle.xpath_syntax.specs.declared.expression.Expr.TheVariants as e
use Rattle.xpath_syntax.specs.declared.expression.Path.{out-Path, roll-Path}
use Rattle.xpath_syntax.specs.declared.expression.StepExpr.{out-StepExpr, roll-StepExpr}
use Rattle.xpath_chains.specs.Chains.{chained}
use Rattle.xpath_binding.specs.declared.error.BindError.{BindError}
use Rattle.xpath_binding.specs.Around.{scope}
use Rattle.xpath_binding.specs.Names.{◌>>=◌}
use Rattle.xpath_binding.specs.Scope.{bound_variable}
use Rattle.xpath_binding.specs.Binding.{in_order, bound, bound_call, bound_step, bound_path, bound_test}
use Rattle.xpath_binding.proofs.Answered.{stops, also, told}
use Rattle.xpath_binding.proofs.InOrder.{one_more, stops_at}
use Rattle.xpath_binding.proofs.Bounds.{bound-Literal, bound-Number, bound-Variable, bound-Call, bound-Path, bound_path_is, bound_step_is}
use Rattle.xpath_binding.proofs.Carried.{carried, starts, first_refused, next_refused, next_bound, all_bound, first_within, next_within}
use Rattle.xpath_binding.proofs.Operands.{left_stops, right_stops, both_bound, minus_stops, minus_bound, filter_stops, predicates_stop, tail_stops, filter_bound}
use Rattle.xpath_binding.proofs.binding.+binding.Goals as goal

pub bind_all-returns-in_err-bind_expr : goal.bind_all-returns-in_err-bind_expr
bind_all-returns-in_err-bind_expr t c =
    let S = scope c.args.around.now in
    let err : BindError = c.in_err-bind_expr.field-0.0 in
    let gives : c.from_residual.result ≡ Err err = search rules in
    told (in_order (map (bound S) c.args.all.now)) c.from_residual.result err gives (also (in_order (map (bound S) c.args.all.now)) (in_order (map (bound S) c.as_slice-one-items.result.now))
    (Err err) (ap (λ xs. in_order (map (bound S) xs)) (sym c.as_slice-one-items.ensures))
    (stops_at (bound S) c.as_slice-one-items.result.now c.loop-one.one-index c.one-item.result c.loop-one.bound err c.loop-one-test.true c.one-item.is c.loop-one.invariant c.in_err-bind_expr.ensures))

pub bind_all-loop-one-preserved : goal.bind_all-loop-one-preserved
bind_all-loop-one-preserved t c =
    let S = scope c.args.around.now in
    let pushed : c.push.new.self ≡ c.loop-one.bound ++ c.in_ok-bind_expr.field-0 ∷ [] = search rules in
    one_more (bound S) c.as_slice-one-items.result.now c.loop-one.one-index c.one-item.result c.loop-one.bound c.in_ok-bind_expr.field-0 c.loop-one-test.true c.one-item.is
    c.loop-one.invariant c.in_ok-bind_expr.ensures ∙ ap Ok (sym pushed)

pub bind_steps-returns-in_err-bind_step : goal.bind_steps-returns-in_err-bind_step
bind_steps-returns-in_err-bind_step t c =
    let S = scope c.args.around.now in
    let err : BindError = c.in_err-bind_step.field-0.0 in
    let gives : c.from_residual.result ≡ Err err = search rules in
    told (in_order (map (bound_step S) c.args.steps.now)) c.from_residual.result err gives (also (in_order (map (bound_step S) c.args.steps.now))
    (in_order (map (bound_step S) c.as_slice-step-items.result.now)) (Err err) (ap (λ xs. in_order (map (bound_step S) xs)) (sym c.as_slice-step-items.ensures))
    (stops_at (bound_step S) c.as_slice-step-items.result.now c.loop-step.step-index c.step-item.result c.loop-step.bound err c.loop-step-test.true c.step-item.is c.loop-step.invariant
    c.in_err-bind_step.ensures))

pub bind_steps-loop-step-preserved : goal.bind_steps-loop-step-preserved
bind_steps-loop-step-preserved t c =
    let S = scope c.args.around.now in
    let pushed : c.push.new.self ≡ c.loop-step.bound ++ c.in_ok-bind_step.field-0 ∷ [] = search rules in
    one_more (bound_step S) c.as_slice-step-items.result.now c.loop-step.step-index c.step-item.result c.loop-step.bound c.in_ok-bind_step.field-0 c.loop-step-test.true c.step-item.is
    c.loop-step.invariant c.in_ok-bind_step.ensures ∙ ap Ok (sym pushed)

pub bind_expr-bind_operand-requires : goal.bind_expr-bind_operand-requires
bind_expr-bind_operand-requires t c =
    let S = scope c.args.around.now in
    let smaller = first_within c.in_ok-chain.chain.first.now c.in_ok-chain.chain.above in let same = ap the_size c.in_ok-chain.ensures.whole in
    (omega (arith, smaller, same, c.decreases), tt)

pub bind_expr-returns-in_err-whole : goal.bind_expr-returns-in_err-whole
bind_expr-returns-in_err-whole t c =
    let S = scope c.args.around.now in
    let err : BindError = c.in_err-whole.field-0.0 in
    let gives : c.from_residual-in_err-whole.result ≡ Err err = search rules in
    told (bound S c.args.e.now) c.from_residual-in_err-whole.result err gives (first_refused S c.args.e.now c.in_ok-chain.chain.first.now c.in_ok-chain.chain.above err
    c.in_ok-chain.ensures.whole c.in_err-whole.ensures)

pub bind_expr-loop-applied-init : goal.bind_expr-loop-applied-init
bind_expr-loop-applied-init t c =
    let S = scope c.args.around.now in
    starts S c.args.e.now c.in_ok-chain.chain.first.now c.in_ok-whole.whole c.in_ok-chain.chain.above c.as_slice-applied-items.result.now c.as_slice-applied-items.ensures
    c.in_ok-whole.ensures c.in_ok-chain.ensures.whole

pub bind_expr-bind_expr-requires : goal.bind_expr-bind_expr-requires
bind_expr-bind_expr-requires t c =
    let S = scope c.args.around.now in
    let same = ap the_size c.in_ok-chain.ensures.whole in let items = ap (λ xs. the_size (chained c.in_ok-chain.chain.first.now xs)) c.as_slice-applied-items.ensures in
    let smaller = next_within c.in_ok-chain.chain.first.now c.as_slice-applied-items.result.now c.loop-applied.applied-index c.applied-item.result c.loop-applied-test.true c.applied-item.is in
    (omega (arith, smaller, items, same, c.decreases), tt)

pub bind_expr-returns-in_err-right : goal.bind_expr-returns-in_err-right
bind_expr-returns-in_err-right t c =
    let S = scope c.args.around.now in
    let err : BindError = c.in_err-right.field-0.0 in
    let gives : c.from_residual-in_err-right.result ≡ Err err = search rules in
    told (bound S c.args.e.now) c.from_residual-in_err-right.result err gives (next_refused S c.args.e.now c.loop-applied.whole c.as_slice-applied-items.result.now
    c.loop-applied.applied-index c.applied-item.result err c.loop-applied-test.true c.applied-item.is c.loop-applied.invariant c.in_err-right.ensures)

pub bind_expr-loop-applied-preserved : goal.bind_expr-loop-applied-preserved
bind_expr-loop-applied-preserved t c =
    let S = scope c.args.around.now in
    ap (λ l. carried S (Ok (e.Binary c.applied-item.result.op l c.in_ok-new-2.field-0)) (drop (c.loop-applied.applied-index + 1) c.as_slice-applied-items.result.now)) c.in_ok-new.ensures
    ∙ (ap (λ r. carried S (Ok (e.Binary c.applied-item.result.op c.loop-applied.whole r)) (drop (c.loop-applied.applied-index + 1) c.as_slice-applied-items.result.now)) c.in_ok-new-2.ensures
    ∙ next_bound S c.args.e.now c.loop-applied.whole c.in_ok-right.right c.as_slice-applied-items.result.now c.loop-applied.applied-index c.applied-item.result c.loop-applied-test.true
    c.applied-item.is c.loop-applied.invariant c.in_ok-right.ensures)

pub bind_expr-returns : goal.bind_expr-returns
bind_expr-returns t c =
    let S = scope c.args.around.now in
    all_bound S c.args.e.now c.loop-applied.whole c.as_slice-applied-items.result.now c.loop-applied.applied-index c.loop-applied-test.false c.loop-applied.invariant

pub bind_operand-returns-in_err-bind_expr-in-Binary : goal.bind_operand-returns-in_err-bind_expr-in-Binary
bind_operand-returns-in_err-bind_expr-in-Binary t c =
    let S = scope c.args.around.now in
    let err : BindError = c.in_err-bind_expr-in-Binary.field-0.0 in
    let gives : c.from_residual.result ≡ Err err = search rules in
    told (bound S c.args.e.now) c.from_residual.result err gives (left_stops S c.args.e.now c.get.result.now c.in-Binary.left c.in-Binary.right c.in-Binary.op err c.in-Binary.is
    c.get.ensures c.in_err-bind_expr-in-Binary.ensures)

pub bind_operand-returns-in_err-bind_expr-in-Binary-2 : goal.bind_operand-returns-in_err-bind_expr-in-Binary-2
bind_operand-returns-in_err-bind_expr-in-Binary-2 t c =
    let S = scope c.args.around.now in
    let err : BindError = c.in_err-bind_expr-in-Binary-2.field-0.0 in
    let gives : c.from_residual-in_err-bind_expr-in-Binary-2.result ≡ Err err = search rules in
    told (bound S c.args.e.now) c.from_residual-in_err-bind_expr-in-Binary-2.result err gives (right_stops S c.args.e.now c.get.result.now c.get-in-Binary.result.now c.in-Binary.left
    c.in-Binary.right c.in_ok-bind_expr-in-Binary.field-0 c.in-Binary.op err c.in-Binary.is c.get.ensures c.get-in-Binary.ensures
    c.in_ok-bind_expr-in-Binary.ensures c.in_err-bind_expr-in-Binary-2.ensures)

pub bind_operand-returns-in_ok-right-in-Binary : goal.bind_operand-returns-in_ok-right-in-Binary
bind_operand-returns-in_ok-right-in-Binary t c =
    let S = scope c.args.around.now in
    both_bound S c.args.e.now c.get.result.now c.get-in-Binary.result.now c.in-Binary.left c.in-Binary.right c.in_ok-bind_expr-in-Binary.field-0 c.in_ok-bind_expr-in-Binary-2.field-0
    c.in_ok-left-in-Binary.left c.in_ok-right-in-Binary.right c.in-Binary.op c.in-Binary.is c.get.ensures c.get-in-Binary.ensures c.in_ok-bind_expr-in-Binary.ensures
    c.in_ok-bind_expr-in-Binary-2.ensures c.in_ok-left-in-Binary.ensures c.in_ok-right-in-Binary.ensures

pub bind_operand-returns-in_err-bind_expr-in-Minus : goal.bind_operand-returns-in_err-bind_expr-in-Minus
bind_operand-returns-in_err-bind_expr-in-Minus t c =
    let S = scope c.args.around.now in
    let err : BindError = c.in_err-bind_expr-in-Minus.field-0.0 in
    let gives : c.from_residual-in_err-bind_expr-in-Minus.result ≡ Err err = search rules in
    told (bound S c.args.e.now) c.from_residual-in_err-bind_expr-in-Minus.result err gives (minus_stops S c.args.e.now c.get-in-Minus.result.now c.in-Minus.inner err c.in-Minus.is
    c.get-in-Minus.ensures c.in_err-bind_expr-in-Minus.ensures)

pub bind_operand-returns-in_ok-inner-in-Minus : goal.bind_operand-returns-in_ok-inner-in-Minus
bind_operand-returns-in_ok-inner-in-Minus t c =
    let S = scope c.args.around.now in
    minus_bound S c.args.e.now c.get-in-Minus.result.now c.in-Minus.inner c.in_ok-bind_expr-in-Minus.field-0 c.in_ok-inner-in-Minus.inner c.in-Minus.is c.get-in-Minus.ensures
    c.in_ok-bind_expr-in-Minus.ensures c.in_ok-inner-in-Minus.ensures

pub bind_operand-returns-in_ok-copy_text-in-Literal : goal.bind_operand-returns-in_ok-copy_text-in-Literal
bind_operand-returns-in_ok-copy_text-in-Literal t c =
    let S = scope c.args.around.now in
    let same : c.in_ok-copy_text-in-Literal.field-0 ≡ c.in-Literal.text = c.in_ok-copy_text-in-Literal.ensures in
    ap (bound S) c.in-Literal.is ∙ (bound-Literal S c.in-Literal.text ∙ ap (λ text. Ok (e.Literal text)) (sym same))

pub bind_operand-returns-in-Number : goal.bind_operand-returns-in-Number
bind_operand-returns-in-Number t c =
    let S = scope c.args.around.now in
    ap (bound S) c.in-Number.is ∙ (bound-Number S c.in-Number.whole ∙ (let same : Ok (e.Number c.in-Number.whole) ≡ _ = search rules in same))

pub bind_operand-returns-in_err-bind_variable-in-Variable : goal.bind_operand-returns-in_err-bind_variable-in-Variable
bind_operand-returns-in_err-bind_variable-in-Variable t c =
    let S = scope c.args.around.now in
    let err : BindError = c.in_err-bind_variable-in-Variable.field-0.0 in
    let gives : c.from_residual-in_err-bind_variable-in-Variable.result ≡ Err err = search rules in
    told (bound S c.args.e.now) c.from_residual-in_err-bind_variable-in-Variable.result err gives
    (also (bound S c.args.e.now) (bound_variable S c.in-Variable.name >>= λ b. Ok (e.Variable b)) (Err err) (ap (bound S) c.in-Variable.is ∙ bound-Variable S c.in-Variable.name)
    (stops (bound_variable S c.in-Variable.name) (λ b. Ok (e.Variable b)) err c.in_err-bind_variable-in-Variable.ensures))

pub bind_operand-returns-in_ok-bind_variable-in-Variable : goal.bind_operand-returns-in_ok-bind_variable-in-Variable
bind_operand-returns-in_ok-bind_variable-in-Variable t c =
    let S = scope c.args.around.now in
    ap (bound S) c.in-Variable.is ∙ (bound-Variable S c.in-Variable.name ∙ ap (λ m. m >>= λ b. Ok (e.Variable b)) c.in_ok-bind_variable-in-Variable.ensures)

pub bind_operand-returns-in-Call : goal.bind_operand-returns-in-Call
bind_operand-returns-in-Call t c =
    let S = scope c.args.around.now in
    also (bound S c.args.e.now) (bound_call S c.in-Call.name c.in-Call.args) c.bind_call.result (ap (bound S) c.in-Call.is ∙ bound-Call S c.in-Call.name c.in-Call.args) c.bind_call.ensures

pub bind_operand-returns-in_err-bind_path-in-Path : goal.bind_operand-returns-in_err-bind_path-in-Path
bind_operand-returns-in_err-bind_path-in-Path t c =
    let S = scope c.args.around.now in
    let err : BindError = c.in_err-bind_path-in-Path.field-0.0 in
    let gives : c.from_residual-in_err-bind_path-in-Path.result ≡ Err err = search rules in
    told (bound S c.args.e.now) c.from_residual-in_err-bind_path-in-Path.result err gives (also (bound S c.args.e.now) (bound_path S c.in-Path.path >>= λ b. Ok (e.Path b)) (Err err)
    (ap (bound S) c.in-Path.is ∙ bound-Path S c.in-Path.path)
    (stops (bound_path S c.in-Path.path) (λ b. Ok (e.Path b)) err c.in_err-bind_path-in-Path.ensures))

pub bind_operand-returns-in_ok-bind_path-in-Path : goal.bind_operand-returns-in_ok-bind_path-in-Path
bind_operand-returns-in_ok-bind_path-in-Path t c =
    let S = scope c.args.around.now in
    ap (bound S) c.in-Path.is ∙ (bound-Path S c.in-Path.path ∙ ap (λ m. m >>= λ b. Ok (e.Path b)) c.in_ok-bind_path-in-Path.ensures)

pub bind_operand-returns-in_err-bind_expr-in-Filter : goal.bind_operand-returns-in_err-bind_expr-in-Filter
bind_operand-returns-in_err-bind_expr-in-Filter t c =
    let S = scope c.args.around.now in
    let err : BindError = c.in_err-bind_expr-in-Filter.field-0.0 in
    let gives : c.from_residual-in_err-bind_expr-in-Filter.result ≡ Err err = search rules in
    told (bound S c.args.e.now) c.from_residual-in_err-bind_expr-in-Filter.result err gives (filter_stops S c.args.e.now c.get-in-Filter.result.now c.in-Filter.primary c.in-Filter.predicates
    c.in-Filter.tail err c.in-Filter.is c.get-in-Filter.ensures c.in_err-bind_expr-in-Filter.ensures)

pub bind_operand-returns-in_err-predicates-in-Filter : goal.bind_operand-returns-in_err-predicates-in-Filter
bind_operand-returns-in_err-predicates-in-Filter t c =
    let S = scope c.args.around.now in
    let err : BindError = c.in_err-predicates-in-Filter.field-0.0 in
    let gives : c.from_residual-in_err-predicates-in-Filter.result ≡ Err err = search rules in
    told (bound S c.args.e.now) c.from_residual-in_err-predicates-in-Filter.result err gives (predicates_stop S c.args.e.now c.get-in-Filter.result.now c.in-Filter.primary
    c.in_ok-bind_expr-in-Filter.field-0 c.in-Filter.predicates c.in-Filter.tail err c.in-Filter.is c.get-in-Filter.ensures c.in_ok-bind_expr-in-Filter.ensures
    c.in_err-predicates-in-Filter.ensures)

pub bind_operand-returns-in_err-tail-in-Filter : goal.bind_operand-returns-in_err-tail-in-Filter
bind_operand-returns-in_err-tail-in-Filter t c =
    let S = scope c.args.around.now in
    let err : BindError = c.in_err-tail-in-Filter.field-0.0 in
    let gives : c.from_residual-in_err-tail-in-Filter.result ≡ Err err = search rules in
    told (bound S c.args.e.now) c.from_residual-in_err-tail-in-Filter.result err gives (tail_stops S c.args.e.now c.get-in-Filter.result.now c.in-Filter.primary
    c.in_ok-bind_expr-in-Filter.field-0 c.in-Filter.predicates c.in_ok-predicates-in-Filter.predicates c.in-Filter.tail err c.in-Filter.is c.get-in-Filter.ensures
    c.in_ok-bind_expr-in-Filter.ensures c.in_ok-predicates-in-Filter.ensures c.in_err-tail-in-Filter.ensures)

pub bind_operand-returns-in_ok-tail-in-Filter : goal.bind_operand-returns-in_ok-tail-in-Filter
bind_operand-returns-in_ok-tail-in-Filter t c =
    let S = scope c.args.around.now in
    filter_bound S c.args.e.now c.get-in-Filter.result.now c.in-Filter.primary c.in_ok-bind_expr-in-Filter.field-0 c.in_ok-primary-in-Filter.primary c.in-Filter.predicates
    c.in_ok-predicates-in-Filter.predicates c.in-Filter.tail c.in_ok-tail-in-Filter.tail
    c.in-Filter.is c.get-in-Filter.ensures c.in_ok-bind_expr-in-Filter.ensures c.in_ok-predicates-in-Filter.ensures c.in_ok-tail-in-Filter.ensures c.in_ok-primary-in-Filter.ensures

pub bind_path-returns-in_err-parts : goal.bind_path-returns-in_err-parts
bind_path-returns-in_err-parts t c =
    let S = scope c.args.around.now in
    let err : BindError = c.in_err-parts.field-0.0 in
    let gives : c.from_residual.result ≡ Err err = search rules in
    told (bound_path S c.args.path.now) c.from_residual.result err gives (also (bound_path S c.args.path.now)
    (in_order (map (bound_step S) (out-Path c.args.path.now).parts) >>= (λ parts. Ok (roll-Path
    (record { absolute = (out-Path c.args.path.now).absolute; parts = parts; streams = (out-Path c.args.path.now).streams })))) (Err err) (bound_path_is S c.args.path.now)
    (stops (in_order (map (bound_step S) (out-Path c.args.path.now).parts)) (λ parts. Ok (roll-Path
    (record { absolute = (out-Path c.args.path.now).absolute; parts = parts; streams = (out-Path c.args.path.now).streams }))) err c.in_err-parts.ensures))

pub bind_path-returns : goal.bind_path-returns
bind_path-returns t c =
    let S = scope c.args.around.now in
    bound_path_is S c.args.path.now ∙ ap (λ m. m >>= (λ parts. Ok (roll-Path (record {
      absolute = (out-Path c.args.path.now).absolute;
      parts = parts;
      streams =
          (out-Path c.args.path.now).streams;
    })))) c.in_ok-parts.ensures

pub bind_step-returns-in_err-test : goal.bind_step-returns-in_err-test
bind_step-returns-in_err-test t c =
    let S = scope c.args.around.now in
    let err : BindError = c.in_err-test.field-0.0 in
    let gives : c.from_residual.result ≡ Err err = search rules in
    told (bound_step S c.args.step.now) c.from_residual.result err gives (also (bound_step S c.args.step.now)
    (bound_test S.uris (out-StepExpr c.args.step.now).axis (out-StepExpr c.args.step.now).test >>= λ u. in_order (map (bound S) (out-StepExpr c.args.step.now).predicates) >>=
    (λ ps. Ok (roll-StepExpr (record { axis = (out-StepExpr c.args.step.now).axis; test = u; predicates = ps })))) (Err err) (bound_step_is S c.args.step.now)
    (stops (bound_test S.uris (out-StepExpr c.args.step.now).axis (out-StepExpr c.args.step.now).test)
    (λ u. in_order (map (bound S) (out-StepExpr c.args.step.now).predicates) >>= (λ ps. Ok (roll-StepExpr
    (record { axis = (out-StepExpr c.args.step.now).axis; test = u; predicates = ps })))) err c.in_err-test.ensures))

pub bind_step-returns-in_err-predicates : goal.bind_step-returns-in_err-predicates
bind_step-returns-in_err-predicates t c =
    let S = scope c.args.around.now in
    let err : BindError = c.in_err-predicates.field-0.0 in
    let gives : c.from_residual-in_err-predicates.result ≡ Err err = search rules in
    told (bound_step S c.args.step.now) c.from_residual-in_err-predicates.result err gives (also (bound_step S c.args.step.now)
    (in_order (map (bound S) (out-StepExpr c.args.step.now).predicates) >>= (λ ps. Ok (roll-StepExpr
    (record { axis = (out-StepExpr c.args.step.now).axis; test = c.in_ok-test.test; predicates = ps })))) (Err err)
    (bound_step_is S c.args.step.now ∙ ap (λ m. m >>= λ u. in_order (map (bound S) (out-StepExpr c.args.step.now).predicates) >>=
    (λ ps. Ok (roll-StepExpr (record { axis = (out-StepExpr c.args.step.now).axis; test = u; predicates = ps })))) c.in_ok-test.ensures)
    (stops (in_order (map (bound S) (out-StepExpr c.args.step.now).predicates)) (λ ps. Ok (roll-StepExpr
    (record { axis = (out-StepExpr c.args.step.now).axis; test = c.in_ok-test.test; predicates = ps }))) err c.in_err-predicates.ensures))

pub bind_step-returns : goal.bind_step-returns
bind_step-returns t c =
    let S = scope c.args.around.now in
    bound_step_is S c.args.step.now ∙ (ap (λ m. m >>= λ u. in_order (map (bound S) (out-StepExpr c.args.step.now).predicates) >>=
    (λ ps. Ok (roll-StepExpr (record { axis = (out-StepExpr c.args.step.now).axis; test = u; predicates = ps })))) c.in_ok-test.ensures
    ∙ ap (λ m. m >>= (λ ps. Ok (roll-StepExpr (record { axis = (out-StepExpr c.args.step.now).axis; test = c.in_ok-test.test; predicates = ps })))) c.in_ok-predicates.ensures)
