use Rattle.std.proofs.Common.{rules, ◌≡◌, sym, ap, ◌∙◌, [], ◌∷◌, ◌++◌, map, Ok, Err}
use Rattle.xpath_binding.specs.declared.error.BindError.{BindError}
use Rattle.xpath_binding.specs.Around.{scope}
use Rattle.xpath_binding.specs.Binding.{in_order, bound_pattern_step}
use Rattle.xpath_binding.proofs.Answered.{also, told}
use Rattle.xpath_binding.proofs.InOrder.{one_more, stops_at}
use Rattle.xpath_binding.proofs.patterns.bind_pattern_steps.Goals as goal

pub returns-in_err-bind_pattern_step : goal.returns-in_err-bind_pattern_step
returns-in_err-bind_pattern_step c =
    let S = scope c.args.around.now in
    let err : BindError = c.in_err-bind_pattern_step.field-0.0 in
    let gives : c.from_residual.result ≡ Err err = search rules in
    told (in_order (map (bound_pattern_step S) c.args.steps.now)) c.from_residual.result err gives
    (also (in_order (map (bound_pattern_step S) c.args.steps.now)) (in_order (map (bound_pattern_step S) c.as_slice-step-items.result.now)) (Err err)
    (ap (λ xs. in_order (map (bound_pattern_step S) xs)) (sym c.as_slice-step-items.ensures))
    (stops_at (bound_pattern_step S) c.as_slice-step-items.result.now c.loop-step.step-index c.step-item.result c.loop-step.bound err c.loop-step-test.true c.step-item.is
    c.loop-step.invariant c.in_err-bind_pattern_step.ensures))

pub loop-step-preserved : goal.loop-step-preserved
loop-step-preserved c =
    let S = scope c.args.around.now in
    let pushed : c.push.new.self ≡ c.loop-step.bound ++ c.in_ok-bind_pattern_step.field-0 ∷ [] = search rules in
    one_more (bound_pattern_step S) c.as_slice-step-items.result.now c.loop-step.step-index c.step-item.result c.loop-step.bound c.in_ok-bind_pattern_step.field-0 c.loop-step-test.true c.step-item.is
    c.loop-step.invariant c.in_ok-bind_pattern_step.ensures ∙ ap Ok (sym pushed)
