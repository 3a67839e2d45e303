use Rattle.std.proofs.Common.{◌≡◌, ℕ, List, [], Option, Some, ap, sym, ◌∙◌, subst, refl, length, string_bytes}
use Rattle.std.proofs.lemmas.List.{length-replicate}
use Rattle.cmd_words.specs.Turns.{turns_of}
use Rattle.sessions.specs.Standing.{counts_of, steps_of_session}
use Rattle.turn_play.specs.Playing.{IsAt, FindsWithin, TellsAll}
use Rattle.turn_play.specs.Progress.{progress_text}
use Rattle.driver.specs.Judged.{early_runs}
use Rattle.driver.proofs.JudgedLemmas.{IfOk-both, early_text, judged_made, judged_flawed, stops_from, Flawed-inj, unread, quiet}
use Rattle.driver.proofs.transform.transform.Goals as goal

pub play_turns-requires-clause-items : goal.play_turns-requires-clause-items
play_turns-requires-clause-items g c =
    let readers : length (counts_of c.in_ok-session.session) ≡ length c.args.plan.now.pairs = ap length c.in_ok-session.ensures.counts ∙ length-replicate c.len.result 0 ∙ c.len.ensures in
    let items : c.as_slice.result.now ≡ turns_of c.args.plan.now = c.as_slice.ensures ∙ c.in_ok-items.ensures in
    rw (readers, items) c.requires.within.each_turn

pub returns-in-Ended-clause-made : goal.returns-in-Ended-clause-made
returns-in-Ended-clause-made g c =
    let left = g.S.Source.left c.args.source.now in
    let e = c.play_turns.ensures in
    let begun : (told : Option (List ℕ)) → IsAt c.in_ok-session.session c.args.limits told told 0 =
    λ told. record { limited = c.in_ok-session.ensures.limits; lines = []; fed = c.in_ok-session.ensures.fed told; counted = refl } in
    let found = e.leaves.1.found e.over c.args.limits left 0 (begun left) in
    let items : c.as_slice.result.now ≡ turns_of c.args.plan.now = c.as_slice.ensures ∙ c.in_ok-items.ensures in
    let early : (bytes : List ℕ) → left ≡ Some bytes → string_bytes c.play_turns.new.said ≡ progress_text (early_runs c.args.limits c.args.plan.now bytes) =
    λ bytes is. early_text c.args.limits c.args.plan.now bytes c.as_slice.result.now _ _ c.new-said.ensures.bytes items
    (e.said c.args.limits bytes (subst (λ l. IsAt c.in_ok-session.session c.args.limits (Some bytes) l 0) (sym is) (begun (Some bytes))) (subst TellsAll (sym c.in-Ended.is) tt)) in
    IfOk-both c.finish.result _ _ _ (rw c.as_slice-in-Ended.ensures at c.finish.ensures.outcomes) (rw c.as_slice-in-Ended.ensures at c.finish.ensures.said) (λ made outcomes said. (
      _,
      (
        judged_made c.args.limits c.args.plan.now left _ e.leaves.0 _ _ made.outcomes _ _ c.in-Ended.is found early outcomes refl,
        (said, quiet (length c.args.plan.now.pairs) (steps_of_session c.play_turns.new.session) made.outcomes outcomes),
      ),
    ))

pub returns-in-Flawed-clause-flawed : goal.returns-in-Flawed-clause-flawed
returns-in-Flawed-clause-flawed g c = λ said is.
    let left = g.S.Source.left c.args.source.now in
    let e = c.play_turns.ensures in
    let begun : (told : Option (List ℕ)) → IsAt c.in_ok-session.session c.args.limits told told 0 =
    λ told. record { limited = c.in_ok-session.ensures.limits; lines = []; fed = c.in_ok-session.ensures.fed told; counted = refl } in
    let found = e.leaves.1.found e.over c.args.limits left 0 (begun left) in
    let items : c.as_slice.result.now ≡ turns_of c.args.plan.now = c.as_slice.ensures ∙ c.in_ok-items.ensures in
    let early : (bytes : List ℕ) → left ≡ Some bytes → string_bytes c.play_turns.new.said ≡ progress_text (early_runs c.args.limits c.args.plan.now bytes) =
    λ bytes is. early_text c.args.limits c.args.plan.now bytes c.as_slice.result.now _ _ c.new-said.ensures.bytes items
    (e.said c.args.limits bytes (subst (λ l. IsAt c.in_ok-session.session c.args.limits (Some bytes) l 0) (sym is) (begun (Some bytes))) (subst TellsAll (sym c.in-Flawed.is) tt)) in (
      string_bytes c.play_turns.new.said,
      (
        c.in-Flawed.flaw,
        (
          judged_flawed c.args.limits c.args.plan.now left _ e.leaves.0 _ _ c.in-Flawed.flaw _ c.in-Flawed.is found early,
          ap string_bytes (sym (Flawed-inj c.say_flaw.new.said said is)) ∙ c.in_ok-say_flaw-in-Flawed.ensures,
        ),
      ),
    )

pub returns-in-Failed-clause-failed : goal.returns-in-Failed-clause-failed
returns-in-Failed-clause-failed g c = λ _.
    let left = g.S.Source.left c.args.source.now in
    let e = c.play_turns.ensures in
    let begun : IsAt c.in_ok-session.session c.args.limits left left 0 =
    record { limited = c.in_ok-session.ensures.limits; lines = []; fed = c.in_ok-session.ensures.fed left; counted = refl } in
    let found = e.leaves.1.found e.over c.args.limits left 0 begun in
    let read = (subst (FindsWithin c.args.limits left _ 0 e.leaves.0 _) c.in-Failed.is found).2 in
    (e.leaves.1.rose c.in-Failed.is, stops_from c.args.limits left _ read.0 read.1)

pub unreachable-requires : goal.unreachable-requires
unreachable-requires g c = absurd (c.play_turns.ensures.over c.in-Line.is)

pub play_turns-requires-clause-going : goal.play_turns-requires-clause-going
play_turns-requires-clause-going g c = (c.in_ok-session.ensures.fed (g.S.Source.left c.args.source.now)).going

pub returns-in-Ended-clause-asked : goal.returns-in-Ended-clause-asked
returns-in-Ended-clause-asked g c =
    let left = g.S.Source.left c.args.source.now in
    c.play_turns.ensures.leaves.1.asked c.args.limits left 0 (record { limited = c.in_ok-session.ensures.limits; lines = []; fed = c.in_ok-session.ensures.fed left; counted = refl })

pub returns-in_err-say_flaw-in-Flawed-clause-asked : goal.returns-in_err-say_flaw-in-Flawed-clause-asked
returns-in_err-say_flaw-in-Flawed-clause-asked g c =
    let left = g.S.Source.left c.args.source.now in
    c.play_turns.ensures.leaves.1.asked c.args.limits left 0 (record { limited = c.in_ok-session.ensures.limits; lines = []; fed = c.in_ok-session.ensures.fed left; counted = refl })

pub returns-in-Flawed-clause-asked : goal.returns-in-Flawed-clause-asked
returns-in-Flawed-clause-asked g c =
    let left = g.S.Source.left c.args.source.now in
    c.play_turns.ensures.leaves.1.asked c.args.limits left 0 (record { limited = c.in_ok-session.ensures.limits; lines = []; fed = c.in_ok-session.ensures.fed left; counted = refl })

pub returns-in-Failed-clause-asked : goal.returns-in-Failed-clause-asked
returns-in-Failed-clause-asked g c =
    let left = g.S.Source.left c.args.source.now in
    c.play_turns.ensures.leaves.1.asked c.args.limits left 0 (record { limited = c.in_ok-session.ensures.limits; lines = []; fed = c.in_ok-session.ensures.fed left; counted = refl })

pub returns-in-Memory-clause-asked : goal.returns-in-Memory-clause-asked
returns-in-Memory-clause-asked g c =
    let left = g.S.Source.left c.args.source.now in
    c.play_turns.ensures.leaves.1.asked c.args.limits left 0 (record { limited = c.in_ok-session.ensures.limits; lines = []; fed = c.in_ok-session.ensures.fed left; counted = refl })
