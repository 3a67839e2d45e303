use Rattle.std.proofs.Common.{◌∙◌, ap, length}
use Rattle.std.proofs.lemmas.Iterator.Adapters.{YieldsList-from_vec}
use Rattle.std.proofs.lemmas.Iterator.Consumers.{YieldsList-end, YieldsList-so_far, YieldsList-turn}
use Rattle.xpath_binding.specs.Names.{resolution}
use Rattle.sheet_values.specs.Expressions.{bound_part}
use Rattle.sheet_values.proofs.Loops.{ends, stops_at}
use Rattle.sheet_values.proofs.expressions.bind_parts.Goals as goal

pub returns-in_err-bind_part : goal.returns-in_err-bind_part
returns-in_err-bind_part c =
    let h = c.into_iter-part-iterator.ensures.into_iter_gives in
    let i = c.into_vec-part-items.ensures in
    let road = YieldsList-from_vec {s = c.into_iter-part-iterator.result} c.args.parts (h.0 ∙ i) (h.1 ∙ c.into_vec-part-items.result.ok.0 ∙ ap length i) in
    stops_at (bound_part (resolution c.args.scopes.now)) c.loop-part.bound c.loop-part.yielded c.args.parts c.in-Some.part c.from_residual.result c.in_err-bind_part.field-0.0 c.loop-part.invariant
    (YieldsList-so_far road c.loop-part.yielded _ c.loop-part.yielded_by)
    (YieldsList-turn road c.loop-part.yielded _ c.loop-part.yielded_by _ c.next.new.self c.in-Some.part c.in-Some.is c.next.ensures.steps)
    c.from_residual.ensures.1 c.in_err-bind_part.ensures

pub returns : goal.returns
returns c =
    let h = c.into_iter-part-iterator.ensures.into_iter_gives in
    let i = c.into_vec-part-items.ensures in
    let road = YieldsList-from_vec {s = c.into_iter-part-iterator.result} c.args.parts (h.0 ∙ i) (h.1 ∙ c.into_vec-part-items.result.ok.0 ∙ ap length i) in
    ends (bound_part (resolution c.args.scopes.now)) c.loop-part.bound c.loop-part.yielded c.args.parts c.loop-part.invariant
    (YieldsList-end road c.loop-part.yielded _ c.loop-part.yielded_by _ c.next.new.self c.in-None.is c.next.ensures.steps).0
