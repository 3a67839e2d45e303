use Rattle.std.proofs.Common.{◌∙◌, ◌+◌, sym, refl, ap, arith}
use Rattle.doc_model.specs.declared.row.Axis.TheVariants as axis
use Rattle.doc_model.specs.declared.row.Kind.TheVariants.{Element}
use Rattle.doc_model.specs.Answers.{Known}
use Rattle.doc_model.specs.NodeTests.{meets}
use Rattle.doc_model.specs.Rows.{rows_of}
use Rattle.doc_laws.proofs.Ends.{extent_le}
use Rattle.doc_laws.proofs.Growth.{joined_grows}
use Rattle.doc_laws.proofs.Moving.{moves_on}
use Rattle.axis_walkers.proofs.Loops
use Rattle.axis_walkers.proofs.Offering.{met_fresh}
use Rattle.axis_walkers.proofs.Walks
use Rattle.axis_walkers.proofs.descendants.descendants.Goals as goal

pub extent-requires : goal.extent-requires
extent-requires g c = c.requires

pub returns-in-None-clause-moves : goal.returns-in-None-clause-moves
returns-in-None-clause-moves g c = c.extent.ensures.moves

pub returns-in-None-clause-answers : goal.returns-in-None-clause-answers
returns-in-None-clause-answers g c =
    Walks.waits (g.V.NodeView.sees c.args.view.now) (g.V.NodeView.sees c.extent.new.self) c.args.n c.args.n axis.Descendant c.args.test.now c.requires (λ p h. refl) c.in-None.ensures.value

pub offer_range-requires-clause-order : goal.offer_range-requires-clause-order
offer_range-requires-clause-order g c = omega (arith, c.in-Some.ensures.value.1)

pub offer_range-requires-clause-within : goal.offer_range-requires-clause-within
offer_range-requires-clause-within g c =
    (let j = joined_grows _ _ c.args.n c.extent.ensures.moves.grows c.requires in omega (arith, c.in-Some.ensures.value.1, extent_le (rows_of (g.V.NodeView.sees c.extent.new.self).steps) c.args.n j))

pub offer_range-requires-clause-seen : goal.offer_range-requires-clause-seen
offer_range-requires-clause-seen g c = c.extent.ensures.moves.seen

pub offer_range-requires-clause-met : goal.offer_range-requires-clause-met
offer_range-requires-clause-met g c = met_fresh (g.V.NodeView.sees c.extent.new.self) (meets Element c.args.test.now) _ c.new-found.ensures.met

pub returns-in_err-offer_range-clause-moves : goal.returns-in_err-offer_range-clause-moves
returns-in_err-offer_range-clause-moves g c = moves_on _ _ _ c.extent.ensures.moves c.offer_range.ensures.moves

pub returns-in_err-offer_range-clause-answers : goal.returns-in_err-offer_range-clause-answers
returns-in_err-offer_range-clause-answers g c =
    Loops.out_of_memory (g.V.NodeView.sees c.args.view.now) (g.V.NodeView.sees c.offer_range.new.view) c.args.n axis.Descendant c.args.test.now c.from_residual.result c.from_residual.ensures.1

pub returns-clause-moves : goal.returns-clause-moves
returns-clause-moves g c = moves_on _ _ _ c.extent.ensures.moves c.offer_range.ensures.moves

pub returns-clause-answers : goal.returns-clause-answers
returns-clause-answers g c = Walks.descendant_rows c.new-found.result.met c.new-found.result.rows _ _ _ c.args.n (c.args.n + 1) c.in-Some.end c.args.test.now _
    (record { none = c.new-found.ensures.met; empty = c.new-found.ensures.rows }) c.requires c.extent.ensures.moves c.in-Some.ensures.value.0
    (omega arith) c.in-Some.ensures.value.1 c.offer_range.ensures.moves c.in_ok-offer_range.ensures.rows ∙ ap Known (sym c.into_rows.ensures)
