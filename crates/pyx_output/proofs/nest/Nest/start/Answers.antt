use Rattle.std.proofs.Common.{ap, refl}
use Rattle.xml_names.specs.Bindings.{Scoped, all_bindings}
use Rattle.pyx_output.proofs.nest.Nest.start.Goals as goal

pub invariant_of-result : goal.invariant_of-result
invariant_of-result c =
    let scopes = ap (λ (it : Scoped). it.scopes) c.in_ok-start.ensures in
    let none = c.new.ensures.items in
    (rw (none, scopes) refl, c.new-2.ensures (all_bindings c.in_ok-start.field-0.scopes))
