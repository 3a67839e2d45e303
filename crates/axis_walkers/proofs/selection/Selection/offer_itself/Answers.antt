use Rattle.std.proofs.Common.{sym}
use Rattle.doc_laws.proofs.Growth.{joined_grows}
use Rattle.doc_laws.proofs.Moving.{moves_on}
use Rattle.axis_walkers.proofs.Offering.{shown_then}
use Rattle.axis_walkers.proofs.selection.Selection.offer_itself.Goals as goal

pub offer-requires-clause-joined : goal.offer-requires-clause-joined
offer-requires-clause-joined g c = joined_grows _ _ c.args.n c.shown.ensures.moves.grows c.requires.joined

pub returns-clause-moves : goal.returns-clause-moves
returns-clause-moves g c = moves_on _ _ _ c.shown.ensures.moves c.offer.ensures.moves

pub returns-clause-rows : goal.returns-clause-rows
returns-clause-rows g c = shown_then _ _ c.args.n c.args.test.now c.offer.result _ _ (joined_grows _ _ c.args.n c.shown.ensures.moves.grows c.requires.joined)
    (sym c.if-not-shown.ensures.value) c.offer.ensures.moves c.offer.ensures.rows
