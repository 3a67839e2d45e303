use Rattle.std.proofs.Common.{[], ℕ, List, reverse, sym, subst, ap, ◌∙◌}
use Rattle.xml_names.specs.declared.scopes.Binding.{Binding}
use Rattle.xml_names.specs.Bindings.{all_bindings}
use Rattle.pyx_output.specs.FreeNumbers.{Tells}
use Rattle.pyx_output.specs.Nesting.{elements_of, AreNested}
use Rattle.pyx_output.proofs.Nested.{last_scopes, closed_nested}
use Rattle.pyx_output.proofs.Telling.{told_closed}
use Rattle.pyx_output.proofs.nest.Nest.close.Goals as goal

pub pop-requires-2 : goal.pop-requires-2
pop-requires-2 c = last_scopes c.in-Some.inner c.pop.new.self.items c.self.inside.opened.items c.self.inside.scopes.scopes (c.in-Some.ensures {u = tt}).items c.self.invariant.0

pub look_again-requires : goal.look_again-requires
look_again-requires c =
    let opened = reverse c.self.inside.opened.items in
    let scope = c.pop-2.ensures.scopes.0 in
    let is = c.pop-2.ensures.scopes.1 in
    let closed = closed_nested c.in-Some.inner c.pop.new.self.items c.self.inside.opened.items scope c.pop-2.new.self.scopes (c.in-Some.ensures {u = tt}).items
    (subst (λ (scopes : List (List Binding)). AreNested opened scopes) is c.self.invariant.0) in
    let before = subst (λ (scopes : List (List Binding)). Tells c.self.inside.numbers [] (all_bindings scopes)) is c.self.invariant.1 in
    subst (λ (numbers : List ℕ). Tells c.self.inside.numbers numbers (all_bindings c.pop-2.new.self.scopes)) (sym c.as_slice.ensures)
    (told_closed c.self.inside.numbers scope (all_bindings c.pop-2.new.self.scopes) c.in-Some.inner.numbers closed.has before)

pub returns : goal.returns
returns c =
    let opened = reverse c.self.inside.opened.items in
    let scope = c.pop-2.ensures.scopes.0 in
    let is = c.pop-2.ensures.scopes.1 in
    let closed = closed_nested c.in-Some.inner c.pop.new.self.items c.self.inside.opened.items scope c.pop-2.new.self.scopes (c.in-Some.ensures {u = tt}).items
    (subst (λ (scopes : List (List Binding)). AreNested opened scopes) is c.self.invariant.0) in
    (_, sym c.self.view_is ∙ (ap (elements_of opened) is ∙ closed.elements))
