use Rattle.std.proofs.Common.{◌≡◌, reverse, sym, ap, ◌∙◌, List}
use Rattle.xml_names.specs.declared.scopes.Binding.{Binding}
use Rattle.xml_names.specs.Bindings.{all_bindings}
use Rattle.pyx_output.specs.Bytes.{in_force}
use Rattle.pyx_output.specs.Numbered.{numbered, first_free}
use Rattle.pyx_output.proofs.Nested.{in_force_is}
use Rattle.pyx_output.proofs.nest.Nest.free_prefix.Goals as goal

pub returns-clause-prefix : goal.returns-clause-prefix
returns-clause-prefix c =
    let is = in_force_is (reverse c.self.inside.opened.items) c.self.inside.scopes.scopes c.self.invariant.0 in
    let same : all_bindings c.self.inside.scopes.scopes ≡ in_force c.args.self.now = sym is ∙ ap in_force c.self.view_is in
    c.in_ok-prefix.ensures ∙ (ap numbered c.in_ok-number.ensures.first ∙ ap (λ (bound : List Binding). numbered (first_free bound)) same)
