use Rattle.std.proofs.Common.{◌≡◌, reverse, sym, ap, ◌∙◌}
use Rattle.xml_names.specs.Bindings.{all_bindings}
use Rattle.pyx_output.specs.Bytes.{in_force}
use Rattle.pyx_output.proofs.Nested.{in_force_is}
use Rattle.pyx_output.proofs.nest.Nest.resolve.Goals as goal

pub returns : goal.returns
returns c =
    let is = in_force_is (reverse c.self.inside.opened.items) c.self.inside.scopes.scopes c.self.invariant.0 in
    let same : in_force c.args.self.now ≡ all_bindings c.self.inside.scopes.scopes = sym (ap in_force c.self.view_is) ∙ is in
    rw same c.resolve.ensures.innermost
