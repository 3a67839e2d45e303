-- What feeds and turns leave, one after the other.
use Rattle.std.proofs.Common.{◌≡◌, ◌≢◌, ◌⊎◌, inl, inr, ℕ, zero, suc, ◌+◌, ◌<◌, ◌≤◌, List, Option, Some, None, IfSome, length, refl, ap, sym, ◌∙◌, subst, arith}
use Rattle.std.proofs.lemmas.Bool.{cases_lt}
use Rattle.doc_model.specs.declared.flaw.Flaw.{Flaw}
use Rattle.doc_model.specs.declared.limits.Limits.{Limits}
use Rattle.doc_model.specs.declared.step.Step.{Step}
use Rattle.doc_model.specs.Cells.{Cells}
use Rattle.edge.specs.Causes.{Rose}
use Rattle.pyx_lines.specs.declared.line.Line.{Line}
use Rattle.pyx_events.specs.Steps.{steps_of}
use Rattle.line_feeder.specs.declared.fed.Fed.{Fed}
use Rattle.line_feeder.specs.declared.fed.Fed.TheVariants as fed
use Rattle.line_feeder.specs.declared.feeder.Feeder.{Feeder}
use Rattle.line_feeder.specs.Feeding.{IsWhole, FindsEnd, FindsFlaw, Fails}
use Rattle.line_feeder.specs.Feeds.{feeds_of}
use Rattle.line_feeder.specs.Reads.{HasReadFor}
use Rattle.line_feeder.specs.Standing as feeding
use Rattle.sessions.specs.declared.session.Session.{Session}
use Rattle.sessions.specs.Standing.{Holds, answer_of, limits_of, lines_given, counts_of, steps_of_session}
use Rattle.turn_play.specs.Playing.{IsAt, Finds, FindsLast, FindsWithin, IsReadInTime, Leaves}

-- the last feed is still to come, and what was read for some feeds was read for more, as the feeder's crate says it
pub record Asking : Type 0 where
  pub going : (feeder : Feeder) (limits : Limits) (cells : Cells) (bytes : List ℕ) (left : Option (List ℕ)) (lines : List Line) → feeding.HasBeenFed feeder limits cells (Some bytes) left lines
      → length lines < feeds_of limits bytes
  pub later : (told left : Option (List ℕ)) (feeds more : ℕ) → feeds < more → HasReadFor told left feeds → HasReadFor told left more

read_by : Asking → (told left : Option (List ℕ)) (feeds more : ℕ) → feeds ≤ more → HasReadFor told left feeds → HasReadFor told left more
read_by law told left feeds more few it = by_order (cases_lt feeds more)
  where
    by_order : (feeds < more) ⊎ (more ≤ feeds) → HasReadFor told left more
    by_order (inl below) = law.later told left feeds more below it
    by_order (inr above) = let same : feeds ≡ more = omega (arith, few, above) in subst (HasReadFor told left) same it

-- what was read for the next feed at most was read in time
pub in_time : Asking → (session : Session) (limits : Limits) (told left left' : Option (List ℕ)) (count : ℕ) (at : IsAt session limits told left count) (feeds : ℕ) → feeds ≤ length at.lines + 1
    → HasReadFor told left' feeds → IsReadInTime limits told left'
in_time law session limits None left left' count at feeds few it = tt
in_time law session limits (Some bytes) left left' count at feeds few it =
    let below = law.going _ _ _ bytes left at.lines at.fed in
    subst (λ (l : Limits). HasReadFor (Some bytes) left' (feeds_of l bytes)) at.limited (read_by law (Some bytes) left' feeds (feeds_of (limits_of session) bytes) (omega (arith, below, few)) it)

pub IsAt-at : (session : Session) (limits : Limits) (told left : Option (List ℕ)) (count count' : ℕ) → count ≡ count' → IsAt session limits told left count → IsAt session limits told left count'
IsAt-at session limits told left count count' same at = record { limited = at.limited; lines = at.lines; fed = at.fed; counted = at.counted ∙ same }

-- a count of faults that rose later rose
pub Rose-later : (first before now : ℕ) → first ≤ before → Rose before now → Rose first now
Rose-later first before now later rose = omega (arith, later, rose)

whole_last : (limits : Limits) (told : Option (List ℕ)) (lines : List Line) (flaw : Option Flaw) (steps : List Step) →
    IfSome told (λ bytes. IsWhole limits bytes lines flaw steps) → IfSome told (λ bytes. FindsLast limits bytes (length lines) flaw × (steps ≡ steps_of limits bytes))
whole_last limits None lines flaw steps whole = tt
whole_last limits (Some bytes) lines flaw steps whole = (record { first = whole.first; feed = whole.found }, sym whole.all)

flaw_last : (limits : Limits) (told : Option (List ℕ)) (lines : List Line) (flaw : Option Flaw) (steps : List Step) →
    IfSome told (λ bytes. IsWhole limits bytes lines flaw steps) → IfSome told (λ bytes. FindsLast limits bytes (length lines) flaw)
flaw_last limits None lines flaw steps whole = tt
flaw_last limits (Some bytes) lines flaw steps whole = record { first = whole.first; feed = whole.found }

-- what a feed says where it isn't answered by Line
pub found_by : (limits : Limits) (told left : Option (List ℕ)) (lines : List Line) (old new : List Step) (answer : Fed) → answer ≢ fed.Line →
    (answer ≡ fed.Ended → FindsEnd limits told left lines old new) →
    ((flaw : Flaw) → answer ≡ fed.Flawed flaw → FindsFlaw limits told lines flaw old new) →
    (answer ≡ fed.Failed → Fails limits told left lines old new) →
    Finds limits told left (length lines) new answer
found_by limits told left lines old new fed.Line over ended flawed failed = absurd (over refl)
found_by limits told left lines old new fed.Ended over ended flawed failed = let f = ended refl in (f.end, whole_last limits told lines None new f.whole)
found_by limits told left lines old new (fed.Flawed flaw) over ended flawed failed = flaw_last limits told lines (Some flaw) new (flawed flaw refl).whole
found_by limits told left lines old new fed.Failed over ended flawed failed = (lines, (failed refl).read)
found_by limits told left lines old new fed.Memory over ended flawed failed = tt

-- the next feed found it
pub found_next : (limits : Limits) (told left : Option (List ℕ)) (count : ℕ) (steps : List Step) (answer : Fed) → Finds limits told left count steps answer
    → FindsWithin limits told left count 1 steps answer
found_next limits told left count steps fed.Line found = absurd found
found_next limits told left count steps fed.Ended found = let at : count ≡ count + 0 = omega arith in (0, omega arith, subst (λ k. Finds limits told left k steps fed.Ended) at found)
found_next limits told left count steps (fed.Flawed flaw) found = let at : count ≡ count + 0 = omega arith in (0, omega arith, subst (λ k. Finds limits told left k steps (fed.Flawed flaw)) at found)
found_next limits told left count steps fed.Failed found = (0, omega arith, found)
found_next limits told left count steps fed.Memory found = tt

-- the same under other names
pub found_here : (limits limits' : Limits) (told left : Option (List ℕ)) (count count' most : ℕ) (steps : List Step) (answer : Fed) → limits ≡ limits' → count ≡ count'
    → FindsWithin limits told left count most steps answer → FindsWithin limits' told left count' most steps answer
found_here limits limits' told left count count' most steps answer at_limits at_count found =
    subst (λ (l : Limits). FindsWithin l told left count' most steps answer) at_limits (subst (λ (k : ℕ). FindsWithin limits told left k most steps answer) at_count found)

-- what was found within some lines after others was found within all of them
further : (limits : Limits) (told left : Option (List ℕ)) (count before more whole : ℕ) (steps : List Step) (answer : Fed) → before + more ≤ whole →
    FindsWithin limits told left (count + before) more steps answer → FindsWithin limits told left count whole steps answer
further limits told left count before more whole steps fed.Line room f = absurd f
further limits told left count before more whole steps fed.Ended room f =
    let at : count + before + f.0 ≡ count + (before + f.0) = omega arith in (before + f.0, omega (arith, room, f.1), subst (λ k. Finds limits told left k steps fed.Ended) at f.2)
further limits told left count before more whole steps (fed.Flawed flaw) room f =
    let at : count + before + f.0 ≡ count + (before + f.0) = omega arith in (before + f.0, omega (arith, room, f.1), subst (λ k. Finds limits told left k steps (fed.Flawed flaw)) at f.2)
further limits told left count before more whole steps fed.Failed room f = (before + f.0, omega (arith, room, f.1), f.2)
further limits told left count before more whole steps fed.Memory room f = tt

memory_goes_not_on : fed.Memory ≡ fed.Line → ⊥
memory_goes_not_on is = cc

few_given : (before first more given : ℕ) → before ≤ 4294967295 ⊎ (first ≡ 0) → (0 < more → given ≤ 4294967295) → given ≡ before + more → 0 < first + more → given ≤ 4294967295
few_given before first zero given (inl few) bound is some = omega (arith, few, is)
few_given before first zero given (inr none) bound is some = absurd (omega (arith, none, some))
few_given before first (suc more) given few bound is some = bound (omega arith)

bound_of : (first before : ℕ) → (0 < first → before ≤ 4294967295) → before ≤ 4294967295 ⊎ (first ≡ 0)
bound_of zero before bound = inr refl
bound_of (suc first) before bound = inl (bound (omega arith))

-- lines that are fed, and then what is left of the next
pub leaves_join : (old mid new : Session) (left left' left'' : Option (List ℕ)) (faults faults' faults'' first more most : ℕ) (answer : Fed) → first + more ≡ most →
    Leaves old mid left left' faults faults' first fed.Line → Leaves mid new left' left'' faults' faults'' more answer → Leaves old new left left'' faults faults'' most answer
leaves_join old mid new left left' left'' faults faults' faults'' first more most answer same a b = record {
  going = λ line limits told count at. IsAt-at new limits told left'' (count + first + more) (count + most) (omega (arith, same))
      (b.going line limits told (count + first) (a.going refl limits told count at));
  found = λ over limits told count at. further limits told left'' count first more most _ answer (omega (arith, same)) (b.found over limits told (count + first) (a.going refl limits told count at));
  asked = λ limits told count at. b.asked limits told (count + first) (a.going refl limits told count at);
  kept = b.kept;
  given = λ line.
      let one = a.given refl in
      let two = b.given line in
      (omega (arith, same, one.0, two.0), λ some. few_given _ first more _ (bound_of first _ one.1) two.1 two.0 (omega (arith, some, same)));
  rose = λ failed. Rose-later faults faults' faults'' a.later (b.rose failed);
  later = omega (arith, a.later, b.later);
  holds = b.holds;
  readers = b.readers ∙ a.readers;
}

-- nothing was read, and the source goes on
pub leaves_nothing : Asking → (old new : Session) (left : Option (List ℕ)) (faults most : ℕ) → most ≡ 0 → answer_of old ≡ None → answer_of new ≡ answer_of old
    → lines_given new ≡ lines_given old → Holds new
    → length (counts_of new) ≡ length (counts_of old) → ((limits : Limits) (told : Option (List ℕ)) (count : ℕ) → IsAt old limits told left count → IsAt new limits told left count)
    → Leaves old new left left faults faults most fed.Line
leaves_nothing law old new left faults most none going answer given holds readers same = record {
  going = λ _ limits told count at. IsAt-at new limits told left count (count + most) (omega (arith, none)) (same limits told count at);
  found = λ over. absurd (over refl);
  asked = λ limits told count at. in_time law old limits told left left count at (length at.lines) (omega arith) at.fed.asked;
  kept = λ _. answer ∙ going;
  given = λ _. (omega (arith, none, given), λ some. absurd (omega (arith, none, some)));
  rose = λ is. absurd (line_is_no_failure is);
  later = omega arith;
  holds = holds;
  readers = readers;
}
  where
    line_is_no_failure : fed.Line ≡ fed.Failed → ⊥
    line_is_no_failure is = cc

-- nothing was read, for want of memory
pub leaves_starved : Asking → (old new : Session) (left : Option (List ℕ)) (faults most : ℕ) → Holds new → length (counts_of new) ≡ length (counts_of old)
    → Leaves old new left left faults faults most fed.Memory
leaves_starved law old new left faults most holds readers = record {
  going = λ is. absurd (memory_goes_not_on is);
  found = λ _ limits told count at. tt;
  asked = λ limits told count at. in_time law old limits told left left count at (length at.lines) (omega arith) at.fed.asked;
  kept = λ other. absurd (other refl);
  given = λ is. absurd (memory_goes_not_on is);
  rose = λ is. absurd (memory_is_no_failure is);
  later = omega arith;
  holds = holds;
  readers = readers;
}
  where
    memory_is_no_failure : fed.Memory ≡ fed.Failed → ⊥
    memory_is_no_failure is = cc

-- what was found within some lines was found within more
pub leaves_within : (old new : Session) (left left' : Option (List ℕ)) (faults faults' most whole : ℕ) (answer : Fed) → answer ≢ fed.Line → most ≤ whole
    → Leaves old new left left' faults faults' most answer
    → Leaves old new left left' faults faults' whole answer
leaves_within old new left left' faults faults' most whole answer over room it = record {
  going = λ line. absurd (over line);
  found = λ _ limits told count at.
      let here : count ≡ count + 0 = omega arith in
      further limits told left' count 0 most whole _ answer (omega (arith, room))
      (subst (λ k. FindsWithin limits told left' k most (steps_of_session new) answer) here (it.found over limits told count at));
  asked = it.asked;
  kept = it.kept;
  given = λ line. absurd (over line);
  rose = it.rose;
  later = it.later;
  holds = it.holds;
  readers = it.readers;
}

-- by another name of the answer
pub leaves_as : (old new : Session) (left left' : Option (List ℕ)) (faults faults' most most' : ℕ) (answer answer' : Fed) → most ≡ most' → answer ≡ answer'
    → Leaves old new left left' faults faults' most answer
    → Leaves old new left left' faults faults' most' answer'
leaves_as old new left left' faults faults' most most' answer answer' same is it =
    subst (λ (n : ℕ). Leaves old new left left' faults faults' n answer') same (subst (λ (a : Fed). Leaves old new left left' faults faults' most a) is it)
