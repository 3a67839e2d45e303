use Rattle.std.proofs.Common.{◌∙◌, ◌<◌, length, sym, refl, ap, arith}
use Rattle.doc_model.specs.declared.row.Axis.TheVariants as axis
use Rattle.doc_model.specs.declared.row.Kind.TheVariants.{Element}
use Rattle.doc_model.specs.Answers.{Known}
use Rattle.doc_model.specs.NodeTests.{meets}
use Rattle.doc_model.specs.Rows.{rows_of}
use Rattle.doc_laws.proofs.Ends.{extent_le, shut_grows}
use Rattle.doc_laws.proofs.Growth.{joined_grows}
use Rattle.doc_laws.proofs.Moving.{moves_on}
use Rattle.doc_laws.proofs.Root.{root_extent, no_open_in_shut}
use Rattle.axis_walkers.proofs.Loops
use Rattle.axis_walkers.proofs.Offering.{met_fresh}
use Rattle.axis_walkers.proofs.Walks
use Rattle.axis_walkers.proofs.following.following.Goals as goal

pub extent-requires : goal.extent-requires
extent-requires g c = (let j = c.requires in omega (arith, j))

pub returns-in-None-clause-moves : goal.returns-in-None-clause-moves
returns-in-None-clause-moves g c = c.extent.ensures.moves

pub returns-in-None-clause-answers : goal.returns-in-None-clause-answers
returns-in-None-clause-answers g c =
    Walks.waits (g.V.NodeView.sees c.args.view.now) (g.V.NodeView.sees c.extent.new.self) c.args.n 0 axis.Following c.args.test.now c.requires (λ p h. refl) c.in-None.ensures.value

pub extent-requires-2 : goal.extent-requires-2
extent-requires-2 g c = joined_grows _ _ c.args.n c.extent.ensures.moves.grows c.requires

pub unreachable-requires : goal.unreachable-requires
unreachable-requires g c =
    let j = joined_grows _ _ c.args.n c.extent.ensures.moves.grows c.requires in
    let z : 0 < length (rows_of (g.V.NodeView.sees c.extent.new.self).steps) = omega (arith, j) in
    let k = joined_grows _ _ c.args.n c.extent-2.ensures.moves.grows j in
    let r = shut_grows _ _ 0 c.extent-2.ensures.moves.grows c.extent-2.ensures.moves.seen.lawful z c.in-Some.ensures.value.0 in
    no_open_in_shut _ _ c.args.n c.extent-2.ensures.moves.seen.lawful z c.in-Some.ensures.value.0 c.in-None-extent.ensures.value

pub offer_range-requires-clause-order : goal.offer_range-requires-clause-order
offer_range-requires-clause-order g c =
    let j = joined_grows _ _ c.args.n c.extent.ensures.moves.grows c.requires in
    let z : 0 < length (rows_of (g.V.NodeView.sees c.extent.new.self).steps) = omega (arith, j) in
    let k = joined_grows _ _ c.args.n c.extent-2.ensures.moves.grows j in
    let r = shut_grows _ _ 0 c.extent-2.ensures.moves.grows c.extent-2.ensures.moves.seen.lawful z c.in-Some.ensures.value.0 in
    omega (
      arith,
      c.in-Some.ensures.value.1,
      c.in-Some-extent.ensures.value.1,
      r.1,
      root_extent
          (g.V.NodeView.sees c.extent-2.new.self).steps c.extent-2.ensures.moves.seen.lawful.each,
      extent_le (rows_of (g.V.NodeView.sees c.extent-2.new.self).steps) c.args.n k,
    )

pub offer_range-requires-clause-within : goal.offer_range-requires-clause-within
offer_range-requires-clause-within g c =
    let j = joined_grows _ _ c.args.n c.extent.ensures.moves.grows c.requires in
    let z : 0 < length (rows_of (g.V.NodeView.sees c.extent.new.self).steps) = omega (arith, j) in
    let k = joined_grows _ _ c.args.n c.extent-2.ensures.moves.grows j in
    let r = shut_grows _ _ 0 c.extent-2.ensures.moves.grows c.extent-2.ensures.moves.seen.lawful z c.in-Some.ensures.value.0 in
    omega (arith, c.in-Some.ensures.value.1, r.1, root_extent (g.V.NodeView.sees c.extent-2.new.self).steps c.extent-2.ensures.moves.seen.lawful.each)

pub offer_range-requires-clause-seen : goal.offer_range-requires-clause-seen
offer_range-requires-clause-seen g c = c.extent-2.ensures.moves.seen

pub offer_range-requires-clause-met : goal.offer_range-requires-clause-met
offer_range-requires-clause-met g c = met_fresh (g.V.NodeView.sees c.extent-2.new.self) (meets Element c.args.test.now) _ c.new-found.ensures.met

pub returns-in_err-offer_range-clause-moves : goal.returns-in_err-offer_range-clause-moves
returns-in_err-offer_range-clause-moves g c = moves_on _ _ _ (moves_on _ _ _ c.extent.ensures.moves c.extent-2.ensures.moves) c.offer_range.ensures.moves

pub returns-in_err-offer_range-clause-answers : goal.returns-in_err-offer_range-clause-answers
returns-in_err-offer_range-clause-answers g c =
    Loops.out_of_memory (g.V.NodeView.sees c.args.view.now) (g.V.NodeView.sees c.offer_range.new.view) c.args.n axis.Following c.args.test.now c.from_residual.result c.from_residual.ensures.1

pub returns-clause-moves : goal.returns-clause-moves
returns-clause-moves g c = moves_on _ _ _ (moves_on _ _ _ c.extent.ensures.moves c.extent-2.ensures.moves) c.offer_range.ensures.moves

pub returns-clause-answers : goal.returns-clause-answers
returns-clause-answers g c =
    let j = joined_grows _ _ c.args.n c.extent.ensures.moves.grows c.requires in
    let z : 0 < length (rows_of (g.V.NodeView.sees c.extent.new.self).steps) = omega (arith, j) in
    let k = joined_grows _ _ c.args.n c.extent-2.ensures.moves.grows j in
    let r = shut_grows _ _ 0 c.extent-2.ensures.moves.grows c.extent-2.ensures.moves.seen.lawful z c.in-Some.ensures.value.0 in
    Walks.following_rows c.new-found.result.met c.new-found.result.rows _ _ _ c.args.n c.in-Some-extent.from c.in-Some.end c.args.test.now _
    (record { none = c.new-found.ensures.met; empty = c.new-found.ensures.rows }) c.requires
    (moves_on _ _ _ c.extent.ensures.moves c.extent-2.ensures.moves) r.0 c.in-Some-extent.ensures.value.0 c.in-Some-extent.ensures.value.1
    (c.in-Some.ensures.value.1 ∙ sym r.1) c.offer_range.ensures.moves c.in_ok-offer_range.ensures.rows ∙ ap Known (sym c.into_rows.ensures)
