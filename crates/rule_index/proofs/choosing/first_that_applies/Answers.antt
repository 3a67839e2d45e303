use Rattle.std.proofs.Common.{◌+◌, ◌∙◌, refl, ap, sym, drop, get_or, cond, Some}
use Rattle.doc_model.specs.declared.row.Row.{Row}
use Rattle.doc_model.specs.Answers.{Known}
use Rattle.doc_laws.proofs.Moving.{moves_none}
use Rattle.key_sources.proofs.Loops.{leaves_start, leaves_same, leaves_on, leaves_stops, leaves_end}
use Rattle.key_sources.proofs.Saying.{went_none, went_on, says_exit}
use Rattle.patterns.proofs.Lasting.{told}
use Rattle.patterns.proofs.Standing.{row_later}
use Rattle.rule_choice.specs.Choice.{first_that}
use Rattle.xpath_nodes.proofs.Holding.{there_on}
use Rattle.rule_index.specs.Applying.{applies}
use Rattle.rule_index.proofs.Chosen.{first_at, first_end, keeps_applies}
use Rattle.rule_index.proofs.choosing.first_that_applies.Goals as goal

pub loop-place-init : goal.loop-place-init
loop-place-init g c = record {
  went = went_none c.requires.stands;
  there = c.requires.there;
  named = c.requires.named;
  leaves = leaves_start (moves_none _ c.requires.stands.seen) (λ R. refl);
}

pub applies-requires-clause-stands : goal.applies-requires-clause-stands
applies-requires-clause-stands g c = c.loop-place.invariant.went.stands

pub applies-requires-clause-named : goal.applies-requires-clause-named
applies-requires-clause-named g c = c.loop-place.invariant.named

pub returns-in_err-here-clause-went : goal.returns-in_err-here-clause-went
returns-in_err-here-clause-went g c = went_on c.loop-place.invariant.went c.in_err-here.ensures.went

pub returns-in_err-here-clause-answers : goal.returns-in_err-here-clause-answers
returns-in_err-here-clause-answers g c =
    let place = get_or c.args.places.now c.loop-place.place-index 0 in
    says_exit c.from_residual.result c.from_residual.ensures.1
    (leaves_stops (λ R here. cond here (Known (Some place)) (first_that (applies R c.args.rules.now c.args.mode c.args.n) (drop (c.loop-place.place-index + 1) c.args.places.now)))
    c.loop-place.invariant.leaves
    (λ R. first_at (applies R c.args.rules.now c.args.mode c.args.n) c.args.places.now c.loop-place.place-index c.loop-place-test.true) c.in_err-here.ensures.went.moves
    (told c.loop-place.invariant.went.stays c.in_err-here.ensures.answers))

pub returns-then-here-clause-went : goal.returns-then-here-clause-went
returns-then-here-clause-went g c = went_on c.loop-place.invariant.went c.in_ok-here.ensures.went

pub returns-then-here-clause-answers : goal.returns-then-here-clause-answers
returns-then-here-clause-answers g c =
    let place = get_or c.args.places.now c.loop-place.place-index 0 in
    leaves_end
    (leaves_on (λ R here. cond here (Known (Some place)) (first_that (applies R c.args.rules.now c.args.mode c.args.n) (drop (c.loop-place.place-index + 1) c.args.places.now)))
    c.loop-place.invariant.leaves
    (λ R. first_at (applies R c.args.rules.now c.args.mode c.args.n) c.args.places.now c.loop-place.place-index c.loop-place-test.true)
    (keeps_applies c.args.rules.now c.args.mode c.args.n place) c.in_ok-here.ensures.went.moves (told c.loop-place.invariant.went.stays c.in_ok-here.ensures.answers))
    (moves_none _ c.in_ok-here.ensures.went.moves.seen)
    (λ R. ap (λ here. cond here (Known (Some place)) (first_that (applies R c.args.rules.now c.args.mode c.args.n) (drop (c.loop-place.place-index + 1) c.args.places.now))) c.if-here.true)

pub loop-place-preserved : goal.loop-place-preserved
loop-place-preserved g c =
    let place = get_or c.args.places.now c.loop-place.place-index 0 in
    record {
      went = went_on c.loop-place.invariant.went c.in_ok-here.ensures.went;
      there = there_on _ _ c.args.n c.in_ok-here.ensures.went.moves c.loop-place.invariant.there;
      named = c.loop-place.invariant.named ∙ ap (λ (row : Row). row.local) (sym (row_later _ _ c.args.n c.in_ok-here.ensures.went.moves.grows c.loop-place.invariant.there.0));
      leaves = leaves_same
          (λ R. ap (λ here. cond here (Known (Some place)) (first_that (applies R c.args.rules.now c.args.mode c.args.n) (drop (c.loop-place.place-index + 1) c.args.places.now))) c.if-here.false)
          (leaves_on (λ R here. cond here (Known (Some place)) (first_that (applies R c.args.rules.now c.args.mode c.args.n) (drop (c.loop-place.place-index + 1) c.args.places.now)))
          c.loop-place.invariant.leaves
          (λ R. first_at (applies R c.args.rules.now c.args.mode c.args.n) c.args.places.now c.loop-place.place-index c.loop-place-test.true)
          (keeps_applies c.args.rules.now c.args.mode c.args.n place) c.in_ok-here.ensures.went.moves (told c.loop-place.invariant.went.stays c.in_ok-here.ensures.answers));
    }

pub returns-clause-went : goal.returns-clause-went
returns-clause-went g c = c.loop-place.invariant.went

pub returns-clause-answers : goal.returns-clause-answers
returns-clause-answers g c = leaves_end c.loop-place.invariant.leaves (moves_none _ c.loop-place.invariant.went.moves.seen)
    (λ R. first_end (applies R c.args.rules.now c.args.mode c.args.n) c.args.places.now c.loop-place.place-index c.loop-place-test.false)
