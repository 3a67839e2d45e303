use Rattle.std.proofs.Common.{◌++◌, ◌∷◌, [], List, ℕ, ap, subst, sym, ◌∙◌}
use Rattle.xml_names.specs.declared.scopes.Binding.{Binding}
use Rattle.xml_names.specs.Bindings.{Scoped, all_bindings}
use Rattle.pyx_output.specs.Bytes.{Element, in_force}
use Rattle.pyx_output.specs.FreeNumbers.{Tells}
use Rattle.pyx_output.specs.declared.nest.Open.{Open}
use Rattle.pyx_output.proofs.Nested.{opened_nested, opened_elements}
use Rattle.pyx_output.proofs.nest.Nest.open.Goals as goal

pub invariant_of-self-2 : goal.invariant_of-self-2
invariant_of-self-2 c =
    let opened = c.push_reserved.ensures.items
    ∙ (ap (λ (front : List Open). front ++ record { name = c.args.name; numbers = c.new.result } ∷ []) c.in_ok-reserve.ensures.items
    ∙ ap (λ (numbers : List ℕ). c.self.inside.opened.items ++ record { name = c.args.name; numbers = numbers } ∷ []) c.new.ensures) in
    let scopes = ap (λ (it : Scoped). it.scopes) c.in_ok-push.ensures.ok in (
      opened_nested c.args.name c.self.inside.opened.items _ c.self.inside.scopes.scopes _ opened scopes c.self.invariant.0,
      subst (λ (scopes : List (List Binding)). Tells c.self.inside.numbers [] (all_bindings scopes)) (sym scopes) c.self.invariant.1,
    )

pub returns : goal.returns
returns c =
    let opened = c.push_reserved.ensures.items
    ∙ (ap (λ (front : List Open). front ++ record { name = c.args.name; numbers = c.new.result } ∷ []) c.in_ok-reserve.ensures.items
    ∙ ap (λ (numbers : List ℕ). c.self.inside.opened.items ++ record { name = c.args.name; numbers = numbers } ∷ []) c.new.ensures) in
    opened_elements c.args.name c.self.inside.opened.items _ c.self.inside.scopes.scopes _ opened (ap (λ (it : Scoped). it.scopes) c.in_ok-push.ensures.ok) c.self.invariant.0
    ∙ ap (λ (elements : List Element). record { name = c.args.name; bound = in_force elements } ∷ elements) c.self.view_is
