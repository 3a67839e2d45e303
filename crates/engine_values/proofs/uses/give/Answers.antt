use Rattle.std.proofs.Common.{refl, subst, ◌+◌, arith}
use Rattle.engine_core.proofs.Moves.{does_same}
use Rattle.engine_core.specs.Holding.{scene}
use Rattle.engine_core.specs.Standing.{stand_of, state_in}
use Rattle.engine_core.specs.Weight.{use_weight}
use Rattle.engine_values.specs.Finding.{FoundThere, uses_so}
use Rattle.engine_values.proofs.uses.give.Goals as goal

pub returns-in-Value : goal.returns-in-Value
returns-in-Value g c = λ lookups rules steps s t.
    let m = c.args.core.now in
    let z = scene g.S.ItemStream.walks g.S.ItemStream.follows lookups rules in
    rw c.in-Value.is (does_same z steps (λ u. uses_so m.sheet.now u m.frames (stand_of m) (state_in m) c.args.how c.in-Value.value)
    (λ u. uses_so m.sheet.now u m.frames (stand_of m) (state_in m) c.args.how c.in-Value.value) (use_weight c.args.how + 1) (use_weight c.args.how + 3) m c.use_value.new.core
    c.use_value.result (λ u y. refl) refl (λ low. omega arith) (c.use_value.ensures lookups rules steps s (subst (FoundThere z steps) c.in-Value.is t)))
