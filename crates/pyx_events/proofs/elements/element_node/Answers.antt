use Rattle.std.proofs.Common.{◌∷◌, ℕ, List, ap}
use Rattle.pyx_events.specs.declared.event.Event.TheVariants.{Node}
use Rattle.pyx_events.proofs.Numbered.{numbers_are}
use Rattle.pyx_events.proofs.elements.element_node.Goals as goal

pub returns : goal.returns
returns c =
    let element = c.args.element in
    let attributes = c.args.attributes in
    ap (λ (uris : List ℕ). Node element.row attributes.rows c.args.declarations uris c.args.line)
    (numbers_are c.args.scopes.now.uris (element.row ∷ attributes.rows) attributes.numbers c.numbers_tell_uris.ensures.told c.requires)
