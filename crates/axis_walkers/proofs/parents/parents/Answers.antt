use Rattle.std.proofs.Common.{◌∙◌, sym, ap}
use Rattle.doc_model.specs.declared.row.Axis.TheVariants as axis
use Rattle.doc_model.specs.declared.row.Kind.TheVariants.{Element}
use Rattle.doc_model.specs.Answers.{Known}
use Rattle.doc_model.specs.NodeTests.{meets}
use Rattle.doc_laws.proofs.Moving.{moves_on}
use Rattle.axis_walkers.proofs.Loops
use Rattle.axis_walkers.proofs.Offering.{met_fresh}
use Rattle.axis_walkers.proofs.Walks
use Rattle.axis_walkers.proofs.parents.parents.Goals as goal

pub parent-requires : goal.parent-requires
parent-requires g c = c.requires

pub offer-requires-clause-joined : goal.offer-requires-clause-joined
offer-requires-clause-joined g c = Loops.parent_within _ c.args.n c.in-Some.above (sym c.in-Some.ensures.value)

pub offer-requires-clause-seen : goal.offer-requires-clause-seen
offer-requires-clause-seen g c = c.parent.ensures.moves.seen

pub offer-requires-clause-met : goal.offer-requires-clause-met
offer-requires-clause-met g c = met_fresh (g.V.NodeView.sees c.parent.new.self) (meets Element c.args.test.now) _ c.new-found.ensures.met

pub returns-in_err-offer-in-Some-clause-moves : goal.returns-in_err-offer-in-Some-clause-moves
returns-in_err-offer-in-Some-clause-moves g c = moves_on _ _ _ c.parent.ensures.moves c.offer.ensures.moves

pub returns-in_err-offer-in-Some-clause-answers : goal.returns-in_err-offer-in-Some-clause-answers
returns-in_err-offer-in-Some-clause-answers g c =
    Loops.out_of_memory (g.V.NodeView.sees c.args.view.now) (g.V.NodeView.sees c.offer.new.view) c.args.n axis.Parent c.args.test.now c.from_residual.result c.from_residual.ensures.1

pub returns-in_ok-offer-in-Some-clause-moves : goal.returns-in_ok-offer-in-Some-clause-moves
returns-in_ok-offer-in-Some-clause-moves g c = moves_on _ _ _ c.parent.ensures.moves c.offer.ensures.moves

pub returns-in_ok-offer-in-Some-clause-answers : goal.returns-in_ok-offer-in-Some-clause-answers
returns-in_ok-offer-in-Some-clause-answers g c =
    Walks.parent_rows c.new-found.result.met c.new-found.result.rows _ _ _ c.args.n c.in-Some.above c.args.test.now _ _
    (record { none = c.new-found.ensures.met; empty = c.new-found.ensures.rows }) c.requires c.parent.ensures.moves
    (sym c.in-Some.ensures.value) c.offer.ensures.moves c.offer.ensures.met c.in_ok-offer-in-Some.ensures.rows ∙ ap Known (sym c.into_rows.ensures)

pub returns-in-None-clause-moves : goal.returns-in-None-clause-moves
returns-in-None-clause-moves g c = c.parent.ensures.moves

pub returns-in-None-clause-answers : goal.returns-in-None-clause-answers
returns-in-None-clause-answers g c =
    Walks.no_parent_rows c.new-found.result.met c.new-found.result.rows _ _ c.args.n c.args.test.now
    (record { none = c.new-found.ensures.met; empty = c.new-found.ensures.rows }) c.requires c.parent.ensures.moves (sym c.in-None.ensures.value) ∙ ap Known (sym c.into_rows-in-None.ensures)
