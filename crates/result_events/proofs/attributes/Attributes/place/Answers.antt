use Rattle.std.proofs.Common.{◌<◌, ◌+◌, List, length, sym, ap, ◌∙◌, arith}
use Rattle.std.proofs.Math.ListN.{length-set}
use Rattle.std.proofs.lemmas.Grind.{common_steps}
use Rattle.result_events.specs.declared.event.Attribute.{Attribute}
use Rattle.result_events.specs.Places.{place_from}
use Rattle.result_events.specs.Tidy.{placed}
use Rattle.result_events.proofs.Placing.{placed-Some, placed-None}
use Rattle.result_events.proofs.Standing.{place_from-position, place_from-placed, within}
use Rattle.result_events.proofs.attributes.Attributes.place.Goals as goal

pub index_mut-requires : goal.index_mut-requires
index_mut-requires c =
    let finds = rw (← c.self.view_is) at (sym (c.in_ok-at.ensures {u = tt}) ∙ c.in-Some.is) in
    let below : c.in-Some.at < 0 + length c.self.inside.list.items = within c.args.attribute.name 0 c.self.inside.list.items c.in-Some.at finds in
    grind (arith, common_steps)

pub invariant_of-self : goal.invariant_of-self
invariant_of-self c = λ above name.
    let old = c.self.inside.list.items in
    let finds = rw (← c.self.view_is) at (sym (c.in_ok-at.ensures {u = tt}) ∙ c.in-Some.is) in
    let above = rw length-set at above in
    c.self.invariant above name
    ∙ sym (place_from-placed name 0 0 c.in-Some.at c.args.attribute old finds)
    ∙ ap (λ (xs : List Attribute). place_from name 0 xs) (sym (placed-Some c.args.attribute old c.in-Some.at (place_from-position c.args.attribute.name old ∙ finds)))

pub returns-in-Some : goal.returns-in-Some
returns-in-Some c =
    let old = c.self.inside.list.items in
    let finds = rw (← c.self.view_is) at (sym (c.in_ok-at.ensures {u = tt}) ∙ c.in-Some.is) in
    placed-Some c.args.attribute old c.in-Some.at (place_from-position c.args.attribute.name old ∙ finds) ∙ ap (placed c.args.attribute) c.self.view_is

pub returns-in-None : goal.returns-in-None
returns-in-None c =
    let none = sym (c.in_ok-at.ensures {u = tt}) ∙ c.in-None.is in
    rw (← placed-None c.args.attribute c.args.self.now (place_from-position c.args.attribute.name c.args.self.now ∙ none)) c.add.ensures
