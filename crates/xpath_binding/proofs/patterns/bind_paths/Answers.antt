use Rattle.std.proofs.Common.{rules, ◌≡◌, sym, ap, ◌∙◌, [], ◌∷◌, ◌++◌, map, Ok, Err}
use Rattle.xpath_binding.specs.declared.error.BindError.{BindError}
use Rattle.xpath_binding.specs.Around.{scope}
use Rattle.xpath_binding.specs.Binding.{in_order, bound_pattern_path}
use Rattle.xpath_binding.proofs.Answered.{also, told}
use Rattle.xpath_binding.proofs.InOrder.{one_more, stops_at}
use Rattle.xpath_binding.proofs.patterns.bind_paths.Goals as goal

pub returns-in_err-bind_pattern_path : goal.returns-in_err-bind_pattern_path
returns-in_err-bind_pattern_path c =
    let S = scope c.args.around.now in
    let err : BindError = c.in_err-bind_pattern_path.field-0.0 in
    let gives : c.from_residual.result ≡ Err err = search rules in
    told (in_order (map (bound_pattern_path S) c.args.paths.now)) c.from_residual.result err gives
    (also (in_order (map (bound_pattern_path S) c.args.paths.now)) (in_order (map (bound_pattern_path S) c.as_slice-path-items.result.now)) (Err err)
    (ap (λ xs. in_order (map (bound_pattern_path S) xs)) (sym c.as_slice-path-items.ensures))
    (stops_at (bound_pattern_path S) c.as_slice-path-items.result.now c.loop-path.path-index c.path-item.result c.loop-path.bound err c.loop-path-test.true c.path-item.is
    c.loop-path.invariant c.in_err-bind_pattern_path.ensures))

pub loop-path-preserved : goal.loop-path-preserved
loop-path-preserved c =
    let S = scope c.args.around.now in
    let pushed : c.push.new.self ≡ c.loop-path.bound ++ c.in_ok-bind_pattern_path.field-0 ∷ [] = search rules in
    one_more (bound_pattern_path S) c.as_slice-path-items.result.now c.loop-path.path-index c.path-item.result c.loop-path.bound c.in_ok-bind_pattern_path.field-0 c.loop-path-test.true c.path-item.is
    c.loop-path.invariant c.in_ok-bind_pattern_path.ensures ∙ ap Ok (sym pushed)
