use Rattle.doc_model.specs.NodeTests.{meets}
use Rattle.axis_walkers.proofs.Offering.{met_moves}
use Rattle.axis_walkers.proofs.selection.meets.Goals as goal

pub returns-in-Kind-clause-met : goal.returns-in-Kind-clause-met
returns-in-Kind-clause-met g c = met_moves _ _ (meets c.args.principal c.args.test.now) c.args.met.now c.requires.seen c.kind.ensures.moves c.requires.met

pub returns-in-AnyName-clause-met : goal.returns-in-AnyName-clause-met
returns-in-AnyName-clause-met g c = met_moves _ _ (meets c.args.principal c.args.test.now) c.args.met.now c.requires.seen c.kind-in-AnyName.ensures.moves c.requires.met
