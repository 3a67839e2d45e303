use Rattle.std.proofs.Common.{◌≡◌, ◌+◌, ◌++◌, ◌∷◌, [], ◌∙◌, ap, refl, sym, subst, string_bytes, arith}
use Rattle.line_feeder.specs.declared.fed.Fed.TheVariants as fed
use Rattle.line_feeder.specs.Feeds.{feeds_of}
use Rattle.sessions.specs.Standing.{steps_of_session}
use Rattle.pyx_events.specs.Steps.{steps_to}
use Rattle.turn_play.specs.Progress.{made_after, progress_text}
use Rattle.turn_play.specs.Turns.{runs, total}
use Rattle.turn_play.proofs.LeaveLemmas.{Asking, leaves_nothing, leaves_starved, leaves_as}
use Rattle.turn_play.proofs.PlayLemmas.{turn_told}
use Rattle.turn_play.proofs.play.play_item.Goals as goal

pub returns-in-Lines-clause-leaves : goal.returns-in-Lines-clause-leaves
returns-in-Lines-clause-leaves g c =
    let asked : total (c.args.item ∷ []) ≡ c.in-Lines.count + 0 = ap (λ item. total (item ∷ [])) c.in-Lines.is in
    leaves_as _ _ _ _ _ _ c.in-Lines.count (total (c.args.item ∷ [])) _ _ (omega (arith, asked)) refl c.feed_up_to.ensures

pub returns-in-Ok-clause-leaves : goal.returns-in-Ok-clause-leaves
returns-in-Ok-clause-leaves g c =
    let begun = c.fed_lines_are_a_beginning.ensures in
    let law : Asking = record { going = begun.going; later = c.what_was_asked_stays_asked.ensures } in
    let e = c.in-Ok.ensures in
    let none : total (c.args.item ∷ []) ≡ 0 = ap (λ item. total (item ∷ [])) c.in-Reader.is in
    leaves_nothing law _ _ _ _ (total (c.args.item ∷ [])) none c.requires.going e.answer e.given e.holds e.readers (λ limits told count at. e.at limits told _ count at)

pub returns-in-Err-clause-leaves : goal.returns-in-Err-clause-leaves
returns-in-Err-clause-leaves g c =
    let begun = c.fed_lines_are_a_beginning.ensures in
    let law : Asking = record { going = begun.going; later = c.what_was_asked_stays_asked.ensures } in
    leaves_starved law _ _ _ _ _ c.run_one.ensures.holds c.run_one.ensures.readers

pub returns-in-Ok-clause-said : goal.returns-in-Ok-clause-said
returns-in-Ok-clause-said g c = λ limits bytes count at _.
    let begun = c.fed_lines_are_a_beginning.ensures in
    let steps = begun.steps _ _ _ bytes _ at.lines at.fed in
    let going = begun.going _ _ _ bytes _ at.lines at.fed in
    let told = turn_told limits bytes count c.in-Reader.reader (steps_of_session c.args.session.now) _ _ (rw (at.limited, at.counted) at steps)
    (rw (at.limited, at.counted) at going) c.in-Ok.ensures.said in
    told ∙ ap (λ item. string_bytes c.args.said.now ++ progress_text (runs (made_after limits bytes) (feeds_of limits bytes) count (item ∷ []))) (sym c.in-Reader.is)
