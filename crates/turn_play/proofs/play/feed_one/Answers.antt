use Rattle.std.proofs.Common.{◌+◌, ◌∷◌, ◌∙◌, ap, length, arith}
use Rattle.turn_play.proofs.LeaveLemmas.{Asking, in_time, found_by, found_next, found_here}
use Rattle.turn_play.proofs.play.feed_one.Goals as goal

pub returns : goal.returns
returns g c =
    let begun = c.fed_lines_are_a_beginning.ensures in
    let law : Asking = record { going = begun.going; later = c.what_was_asked_stays_asked.ensures } in
    let e = c.feed.ensures in
    record {
      going = λ line limits told count at.
          let next = e.line told at.lines at.fed line in
          record { limited = e.limits ∙ at.limited; lines = next.0 ∷ at.lines; fed = next.1; counted = omega (arith, at.counted) };
      found = λ over limits told count at.
          let found = found_by _ told _ at.lines _ _ c.feed.result over (e.ended told at.lines at.fed) (λ flaw. e.flawed told at.lines flaw at.fed) (e.failed told at.lines at.fed) in
          let within = found_next _ told _ (length at.lines) _ c.feed.result found in
          found_here _ limits told _ _ count 1 _ _ at.limited at.counted within;
      asked = λ limits told count at. in_time law c.args.session.now limits told _ _ count at (length at.lines + 1) (omega arith) (e.asked told at.lines at.fed);
      kept = λ _. e.kept;
      given = λ line. ((e.counted line).0, λ _. (e.counted line).1);
      rose = e.rose c.requires.going;
      later = e.later;
      holds = e.holds;
      readers = ap length e.counts;
    }
