use Rattle.std.proofs.Common.{◌<◌, ℕ, List, Option, length, reverse, sym, subst, ap, ◌∙◌}
use Rattle.xml_names.specs.declared.scopes.Binding.{Binding}
use Rattle.xml_names.specs.Bindings.{all_bindings}
use Rattle.pyx_output.specs.Bytes.{Element}
use Rattle.pyx_output.specs.FreeNumbers.{Tells}
use Rattle.pyx_output.specs.Nesting.{elements_of, with_declared}
use Rattle.pyx_output.proofs.Nested.{declared_nested, declared_seen, all_declared}
use Rattle.pyx_output.proofs.Telling.{told_declared, doubtful}
use Rattle.pyx_output.proofs.nest.Nest.declare.Goals as goal

pub look_again-requires : goal.look_again-requires
look_again-requires c =
    let binding : Binding = record { prefix = c.args.prefix.now; uri = c.args.uri.now } in
    let all = ap all_bindings c.in_ok-bind.ensures.ok ∙ all_declared binding c.self.inside.scopes.scopes in
    let told = told_declared c.self.inside.numbers binding (all_bindings c.self.inside.scopes.scopes) c.number_of-number.result c.number_of-number.ensures c.self.invariant.1 in
    subst (λ (number : Option ℕ). Tells c.self.inside.numbers (doubtful number) (all_bindings c.bind.new.self.scopes)) c.in-Some.is
    (subst (λ (bound : List Binding). Tells c.self.inside.numbers (doubtful c.number_of-number.result) bound) (sym all) told)

pub invariant_of-self-in-Some : goal.invariant_of-self-in-Some
invariant_of-self-in-Some c =
    let binding : Binding = record { prefix = c.args.prefix.now; uri = c.args.uri.now } in
    let opened = reverse c.self.inside.opened.items in
    let some : 0 < length (elements_of opened c.self.inside.scopes.scopes) = subst (λ (elements : List Element). 0 < length elements) (sym c.self.view_is) c.requires.inside in
    let noted = c.in_ok-note.ensures.ok in
    let bound = c.in_ok-bind.ensures.ok in
    (rw (noted, bound) (declared_nested binding c.number_of-number.result opened c.self.inside.scopes.scopes c.number_of-number.ensures some c.self.invariant.0), c.look_again.ensures)

pub invariant_of-self-in-None : goal.invariant_of-self-in-None
invariant_of-self-in-None c =
    let binding : Binding = record { prefix = c.args.prefix.now; uri = c.args.uri.now } in
    let opened = reverse c.self.inside.opened.items in
    let some : 0 < length (elements_of opened c.self.inside.scopes.scopes) = subst (λ (elements : List Element). 0 < length elements) (sym c.self.view_is) c.requires.inside in
    let noted = c.in_ok-note.ensures.ok in
    let bound = c.in_ok-bind.ensures.ok in
    let all = ap all_bindings bound ∙ all_declared binding c.self.inside.scopes.scopes in
    let told = told_declared c.self.inside.numbers binding (all_bindings c.self.inside.scopes.scopes) c.number_of-number.result c.number_of-number.ensures c.self.invariant.1 in (
      rw (noted, bound) (declared_nested binding c.number_of-number.result opened c.self.inside.scopes.scopes c.number_of-number.ensures some c.self.invariant.0),
      subst (λ (number : Option ℕ). Tells c.self.inside.numbers (doubtful number) (all_bindings c.bind.new.self.scopes)) c.in-None.is
          (subst (λ (bound : List Binding). Tells c.self.inside.numbers (doubtful c.number_of-number.result) bound) (sym all) told),
    )

pub returns-in-None : goal.returns-in-None
returns-in-None c =
    let binding : Binding = record { prefix = c.args.prefix.now; uri = c.args.uri.now } in
    let opened = reverse c.self.inside.opened.items in
    let some : 0 < length (elements_of opened c.self.inside.scopes.scopes) = subst (λ (elements : List Element). 0 < length elements) (sym c.self.view_is) c.requires.inside in
    declared_seen binding c.number_of-number.result c.self.inside.opened.items c.note.new.opened.items c.self.inside.scopes.scopes c.bind.new.self.scopes c.in_ok-note.ensures.ok c.in_ok-bind.ensures.ok some c.self.invariant.0
    ∙ ap (with_declared binding) c.self.view_is
