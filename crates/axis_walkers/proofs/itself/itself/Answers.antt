use Rattle.std.proofs.Common.{◌∙◌, sym, ap}
use Rattle.doc_model.specs.declared.row.Axis.TheVariants as axis
use Rattle.doc_model.specs.Answers.{Known}
use Rattle.axis_walkers.proofs.Loops
use Rattle.axis_walkers.proofs.Walks
use Rattle.axis_walkers.proofs.itself.itself.Goals as goal

pub offer_itself-requires-clause-joined : goal.offer_itself-requires-clause-joined
offer_itself-requires-clause-joined g c = c.requires

pub offer_itself-requires-clause-fresh : goal.offer_itself-requires-clause-fresh
offer_itself-requires-clause-fresh g c = c.new-found.ensures.met

pub returns-in_err-offer_itself-clause-moves : goal.returns-in_err-offer_itself-clause-moves
returns-in_err-offer_itself-clause-moves g c = c.offer_itself.ensures.moves

pub returns-in_err-offer_itself-clause-answers : goal.returns-in_err-offer_itself-clause-answers
returns-in_err-offer_itself-clause-answers g c =
    Loops.out_of_memory (g.V.NodeView.sees c.args.view.now) (g.V.NodeView.sees c.offer_itself.new.view) c.args.n axis.Itself c.args.test.now c.from_residual.result c.from_residual.ensures.1

pub returns-clause-moves : goal.returns-clause-moves
returns-clause-moves g c = c.offer_itself.ensures.moves

pub returns-clause-answers : goal.returns-clause-answers
returns-clause-answers g c = Walks.itself_rows c.new-found.result.met c.new-found.result.rows _ _ c.args.n c.args.test.now _ _
    (record {
      none = c.new-found.ensures.met;
      empty =
          c.new-found.ensures.rows;
    }) c.requires c.offer_itself.ensures.moves c.offer_itself.ensures.met c.in_ok-offer_itself.ensures.rows ∙ ap Known (sym c.into_rows.ensures)
