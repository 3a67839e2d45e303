use Rattle.std.proofs.Common.{◌≡◌, ◌≤◌, ◌+◌, ◌++◌, ◌∷◌, [], List, length, None, sym, ap, ◌∙◌, arith}
use Rattle.std.proofs.lemmas.Grind.{common_steps}
use Rattle.result_events.specs.declared.event.Attribute.{Attribute}
use Rattle.result_events.specs.Places.{place_from}
use Rattle.result_events.proofs.Standing.{place_from-append}
use Rattle.result_events.proofs.attributes.Attributes.add.Goals as goal

pub invariant_of-self-2 : goal.invariant_of-self-2
invariant_of-self-2 c = λ above name.
    let old = c.self.inside.list.items in
    let items : c.push_reserved.new.self.items ≡ old ++ c.args.attribute ∷ [] =
    c.push_reserved.ensures.items ∙ ap (λ (xs : List Attribute). xs ++ c.args.attribute ∷ []) c.in_ok-reserve.ensures.items in
    let given : c.as_slice.result.now ≡ old = c.as_slice.ensures.value ∙ c.in_ok-reserve.ensures.items in
    let many : 8 ≤ length c.as_slice.result.now = rw given (let above = rw items at above in grind (arith, common_steps)) in
    let noted = rw given at ((c.in_ok-note_next.ensures {u = tt}).ok many name) in
    let none : place_from c.args.attribute.name 0 old ≡ None = rw c.self.view_is c.requires in
    let last : 0 + length old ≡ length old = omega arith in
    let stands = rw last at (place_from-append name 0 0 c.args.attribute old none) in
    rw items (noted ∙ sym stands)
