use Rattle.std.proofs.Common.{ap, sym, ◌∷◌, ◌∙◌}
use Rattle.sheet_source.specs.Building.{completed}
use Rattle.sheet_source.proofs.Taking.{opens}
use Rattle.sheet_source.proofs.building.Building.take.Goals as goal

pub returns-then-is_element : goal.returns-then-is_element
returns-then-is_element c = λ events.
    opens _ _ c.in-Node.row c.in-Node.attributes c.in-Node.declarations c.in-Node.uris c.in-Node.line events (sym c.is_element.ensures ∙ c.if-is_element.true)
    c.in_ok-open_element-in-Node.ensures.stack c.in_ok-open_element-in-Node.ensures.scopes c.in_ok-open_element-in-Node.ensures.nodes
    ∙ ap (λ event. completed c.args.self.now (event ∷ events)) (sym c.in-Node.is)
