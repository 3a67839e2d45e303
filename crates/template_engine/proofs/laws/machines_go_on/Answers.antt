use Rattle.engine_core.specs.Holding.{scene}
use Rattle.template_engine.proofs.Turning.{is_of_later}
use Rattle.template_engine.proofs.laws.machines_go_on.Goals as goal

pub returns : goal.returns
returns g c = λ lookups rules before later m grows lawful is.
    is_of_later (scene g.S.ItemStream.walks g.S.ItemStream.follows lookups rules) g.met.S.ItemStream.goes_on before later grows lawful m is
