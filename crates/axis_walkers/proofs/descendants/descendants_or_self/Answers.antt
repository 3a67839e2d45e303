use Rattle.std.proofs.Common.{◌∙◌, ◌+◌, sym, refl, ap, arith}
use Rattle.doc_model.specs.declared.row.Axis.TheVariants as axis
use Rattle.doc_model.specs.Answers.{Known}
use Rattle.doc_model.specs.Rows.{rows_of}
use Rattle.doc_laws.proofs.Ends.{extent_le}
use Rattle.doc_laws.proofs.Growth.{joined_grows}
use Rattle.doc_laws.proofs.Moving.{moves_on}
use Rattle.doc_laws.proofs.Root.{length_grows}
use Rattle.axis_walkers.proofs.Loops
use Rattle.axis_walkers.proofs.Walks
use Rattle.axis_walkers.proofs.descendants.descendants_or_self.Goals as goal

pub extent-requires : goal.extent-requires
extent-requires g c = c.requires

pub returns-in-None-clause-moves : goal.returns-in-None-clause-moves
returns-in-None-clause-moves g c = c.extent.ensures.moves

pub returns-in-None-clause-answers : goal.returns-in-None-clause-answers
returns-in-None-clause-answers g c =
    Walks.waits (g.V.NodeView.sees c.args.view.now) (g.V.NodeView.sees c.extent.new.self) c.args.n c.args.n axis.DescendantOrSelf c.args.test.now c.requires (λ p h. refl) c.in-None.ensures.value

pub offer_itself-requires-clause-joined : goal.offer_itself-requires-clause-joined
offer_itself-requires-clause-joined g c = joined_grows _ _ c.args.n c.extent.ensures.moves.grows c.requires

pub offer_itself-requires-clause-fresh : goal.offer_itself-requires-clause-fresh
offer_itself-requires-clause-fresh g c = c.new-found.ensures.met

pub returns-in_err-offer_itself-clause-moves : goal.returns-in_err-offer_itself-clause-moves
returns-in_err-offer_itself-clause-moves g c = moves_on _ _ _ c.extent.ensures.moves c.offer_itself.ensures.moves

pub returns-in_err-offer_itself-clause-answers : goal.returns-in_err-offer_itself-clause-answers
returns-in_err-offer_itself-clause-answers g c =
    Loops.out_of_memory (g.V.NodeView.sees c.args.view.now) (g.V.NodeView.sees c.offer_itself.new.view) c.args.n axis.DescendantOrSelf c.args.test.now c.from_residual.result c.from_residual.ensures.1

pub offer_range-requires-clause-order : goal.offer_range-requires-clause-order
offer_range-requires-clause-order g c = omega (arith, c.in-Some.ensures.value.1)

pub offer_range-requires-clause-within : goal.offer_range-requires-clause-within
offer_range-requires-clause-within g c =
    (let j = joined_grows _ _ c.args.n c.extent.ensures.moves.grows c.requires in omega
    (arith, c.in-Some.ensures.value.1, extent_le (rows_of (g.V.NodeView.sees c.extent.new.self).steps) c.args.n j, length_grows _ _ c.offer_itself.ensures.moves.grows))

pub offer_range-requires-clause-seen : goal.offer_range-requires-clause-seen
offer_range-requires-clause-seen g c = c.offer_itself.ensures.moves.seen

pub offer_range-requires-clause-met : goal.offer_range-requires-clause-met
offer_range-requires-clause-met g c = c.offer_itself.ensures.met

pub returns-in_err-offer_range-clause-moves : goal.returns-in_err-offer_range-clause-moves
returns-in_err-offer_range-clause-moves g c = moves_on _ _ _ (moves_on _ _ _ c.extent.ensures.moves c.offer_itself.ensures.moves) c.offer_range.ensures.moves

pub returns-in_err-offer_range-clause-answers : goal.returns-in_err-offer_range-clause-answers
returns-in_err-offer_range-clause-answers g c =
    Loops.out_of_memory (g.V.NodeView.sees c.args.view.now)
    (g.V.NodeView.sees c.offer_range.new.view) c.args.n axis.DescendantOrSelf c.args.test.now c.from_residual-in_err-offer_range.result c.from_residual-in_err-offer_range.ensures.1

pub returns-clause-moves : goal.returns-clause-moves
returns-clause-moves g c = moves_on _ _ _ (moves_on _ _ _ c.extent.ensures.moves c.offer_itself.ensures.moves) c.offer_range.ensures.moves

pub returns-clause-answers : goal.returns-clause-answers
returns-clause-answers g c = Walks.descendant_or_self_rows c.new-found.result.met c.new-found.result.rows _ _ _ _ c.args.n (c.args.n + 1) c.in-Some.end c.args.test.now _ _ _
    (record { none = c.new-found.ensures.met; empty = c.new-found.ensures.rows }) c.requires c.extent.ensures.moves c.in-Some.ensures.value.0
    (omega arith) c.in-Some.ensures.value.1 c.offer_itself.ensures.moves c.offer_itself.ensures.met c.in_ok-offer_itself.ensures.rows c.offer_range.ensures.moves c.in_ok-offer_range.ensures.rows ∙ ap Known (sym c.into_rows.ensures)
