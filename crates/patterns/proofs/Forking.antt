-- A node whose ancestors are to be tried, and the loop over turns.
use Rattle.std.proofs.Common.{◌≡◌, refl, sym, ap, ◌∙◌, subst, ℕ, suc, ◌+◌, ◌*◌, ◌^◌, ◌<◌, ◌≤◌, List, [], ◌∷◌, ◌++◌}
use Rattle.std.proofs.Common.{length, get_or, drop, reverse, Bool, true, false, cond, ltb, Option, Some, None, Result, Ok, Err, IfOk, IfSome, arith}
use Rattle.std.proofs.lemmas.Bool.{ltb-true}
use Rattle.std.proofs.lemmas.List.{reverse-append}
use Rattle.std.proofs.lemmas.Option.{get_or_from_slice_get}
use Rattle.std.specs.Prelude.{slice_get}
use Rattle.doc_model.specs.declared.node_test.Test.TheVariants as test
use Rattle.doc_model.specs.declared.row.Axis.TheVariants as axis
use Rattle.doc_model.specs.Answers.{Known}
use Rattle.doc_model.specs.declared.step.Step.{Step}
use Rattle.doc_model.specs.Lawful.{Grows, IsLawful}
use Rattle.doc_model.specs.View.{Seen, Moves}
use Rattle.doc_laws.proofs.Moving.{moves_on}
use Rattle.key_sources.specs.Going.{Lookups, reading_by}
use Rattle.key_sources.proofs.Loops.{Leaves, leaves_start}
use Rattle.key_sources.proofs.Saying.{says_after}
use Rattle.xpath_laws.specs.Sound.{Each, IsThere}
use Rattle.xpath_meaning.specs.Match.{match_step, is_step_to, match_path}
use Rattle.xpath_meaning.specs.Outcome.{Outcome, ◌>>=◌, some_holds}
use Rattle.xpath_meaning.specs.Reading.{Reading}
use Rattle.xpath_nodes.proofs.Turning.{then_then, some_turns}
use Rattle.xpath_syntax.specs.declared.pattern.PatternPath.{PatternPath}
use Rattle.xpath_syntax.specs.declared.pattern.PatternStep.{PatternStep}
use Rattle.patterns.specs.declared.trials.Place.{Place}
use Rattle.patterns.specs.declared.trials.Turn.{Turn}
use Rattle.patterns.specs.declared.trials.Turn.TheVariants.{Missed, Up, Fork}
use Rattle.patterns.specs.Places.{tried_with, forks_with, weight, burden, TurnIsBefore, TurnIsWithin, IsLighter, GoesAs}
use Rattle.patterns.specs.Trials.{steps_left, place_at, each_tried, tries, turn_behind, turn_of, turned, resumed, gone}
use Rattle.patterns.proofs.Going.{left_length, left_more, turn_is, search_is, each_push, weight_push}
use Rattle.patterns.proofs.Standing.{says_grown, there_grows}

-- ---- one more node whose ancestors are to be tried

pub forks_each : (T : Place → Type 0) (place : Place) (tried : ℕ) (forks : List Place) → Each T forks → T place → Each T (forks_with place tried forks)
forks_each T place tried forks a t = by (ltb place.steps tried)
  where
    by : (b : Bool) → Each T (cond b (forks ++ place ∷ []) forks)
    by true = each_push T forks place a t
    by false = a

less_with : (before tried tried' weight' weight node : ℕ) → before < tried → tried' ≡ before → weight' < weight + node → node < 4294967296 → tried' * 4294967296 + weight' < tried * 4294967296 + weight
less_with before tried tried' weight' weight node a e b c = omega (arith, a, e, b, c)

less_same : (tried tried' weight' weight : ℕ) → tried' ≡ tried → weight' < weight → tried' * 4294967296 + weight' < tried * 4294967296 + weight
less_same tried tried' weight' weight e b = omega (arith, e, b)

pub fork_lighter : (place : Place) (tried tried' weight' : ℕ) (forks : List Place) → place.node < 2 ^ 32 → tried' ≡ tried_with place tried → weight' < weight (forks_with place tried forks)
    → tried' * 2 ^ 32 + weight' < burden tried forks
fork_lighter place tried tried' weight' forks r e l = by (ltb place.steps tried) refl e l
  where
    by : (b : Bool) → ltb place.steps tried ≡ b → tried' ≡ cond b place.steps tried → weight' < weight (cond b (forks ++ place ∷ []) forks) → tried' * 2 ^ 32 + weight' < tried * 2 ^ 32 + weight forks
    by true t e l =
        let less = ltb-true place.steps tried t in
        let w = weight_push forks place in
        less_with place.steps tried tried' weight' (weight forks) place.node less e (omega (arith, w, l)) r
    by false t e l = less_same tried tried' weight' (weight forks) e l

-- in the words of a turn
pub lighter_some : {E : Type 0} (place : Place) (tried tried' : ℕ) (forks forks' left : List Place) (result : Result (Option Place) E) → place.node < 2 ^ 32 → tried' ≡ tried_with place tried
    → forks' ≡ forks_with place tried forks
    → IfOk result (λ found. IfSome found (λ next. weight left < weight forks')) → IfOk result (λ found. IsLighter tried forks (Fork place) tried' left found)
lighter_some place tried tried' forks forks' left (Ok None) r e f l = tt
lighter_some place tried tried' forks forks' left (Ok (Some next)) r e f l = fork_lighter place tried tried' (weight left) forks r e (subst (λ fs. weight left < weight fs) f l)
lighter_some place tried tried' forks forks' left (Err x) r e f l = tt

forked : (R : Reading) (path : PatternPath) (place : Place) (tried : ℕ) (forks : List Place)
    → (turned R path tried (Some (Fork place)) >>= resumed R path (reverse forks)) ≡ resumed R path (reverse (forks_with place tried forks)) (Some (tried_with place tried))
forked R path place tried forks = by (ltb place.steps tried)
  where
    by : (b : Bool)
        → (cond b (R.axis axis.Ancestor test.Any place.node >>= λ above. each_tried (tries R path.start (steps_left path.parts place.steps)) above place.steps) (Known (Some tried))
        >>= resumed R path (reverse forks))
        ≡ resumed R path (reverse (cond b (forks ++ place ∷ []) forks)) (Some (cond b place.steps tried))
    by true = ap (λ fs. resumed R path fs (Some place.steps)) (sym (reverse-append forks (place ∷ [])))
    by false = refl

pub fork_goes : {M E : Type 0} (s : Seen M) (place : Place) (tried tried' after : ℕ) (forks forks' left : List Place) (result : Result (Option Place) E) → tried' ≡ tried_with place tried
    → forks' ≡ forks_with place tried forks → after ≡ tried'
    → IfOk result (λ found. (path : PatternPath) → GoesAs s (λ R. Known (Some tried')) (λ R. resumed R path (reverse forks')) (λ R. gone R path tried' left found))
    → IfOk result (λ found. (path : PatternPath) → GoesAs s (λ R. turned R path tried (Some (Fork place))) (λ R. resumed R path (reverse forks)) (λ R. gone R path after left found))
fork_goes s place tried tried' after forks forks' left (Err x) e f h w = tt
fork_goes s place tried tried' after forks forks' left (Ok found) e f h w = λ path. record {
  same = λ lookups steps g l.
      let R = reading_by lookups s.rules steps in
      forked R path place tried forks ∙ ap (λ fs. resumed R path (reverse fs) (Some (tried_with place tried))) (sym f) ∙ ap (λ k. resumed R path (reverse forks') (Some k)) (sym e)
      ∙ (w path).same lookups steps g l ∙ ap (λ k. gone R path k left found) (sym h);
}

-- behind a step that does not lead there
pub missed_goes : {M E : Type 0} (s : Seen M) (turn : Turn) (tried after : ℕ) (forks left : List Place) (result : Result (Option Place) E) → turn ≡ Missed → after ≡ tried
    → IfOk result (λ found. (path : PatternPath) → GoesAs s (λ R. Known (Some tried)) (λ R. resumed R path (reverse forks)) (λ R. gone R path tried left found))
    → IfOk result (λ found. (path : PatternPath) → GoesAs s (λ R. turned R path tried (Some turn)) (λ R. resumed R path (reverse forks)) (λ R. gone R path after left found))
missed_goes s turn tried after forks left (Err x) e h w = tt
missed_goes s turn tried after forks left (Ok found) e h w = λ path. record {
  same = λ lookups steps g l.
      let R = reading_by lookups s.rules steps in
      ap (λ t. turned R path tried (Some t) >>= resumed R path (reverse forks)) e ∙ (w path).same lookups steps g l ∙ ap (λ k. gone R path k left found) (sym h);
}

-- ---- a turn of the search

-- the step before so many is the first of those that are left
pub turn_at : (R : Reading) (path : PatternPath) (n count before : ℕ) (step : PatternStep) → count ≡ suc before → before < length path.parts → slice_get path.parts before ≡ Some step
    → turn_of R path.start (steps_left path.parts count) n ≡ (is_step_to R (match_step step) n >>= λ here. cond here (turn_behind R step.deep before n) (Known (Some Missed)))
turn_at R path n count before step c l e =
    ap (λ k. turn_of R path.start (steps_left path.parts k) n) c
    ∙ ap (λ steps. turn_of R path.start steps n) (left_more path.parts before step l)
    ∙ ap (λ s. turn_of R path.start (match_step s ∷ steps_left path.parts before) n) (get_or_from_slice_get path.parts before step step e)
    ∙ ap (λ k. is_step_to R (match_step step) n >>= λ here. cond here (turn_behind R step.deep k n) (Known (Some Missed))) (left_length path.parts before (omega (arith, l)))

pub search_turns : (R : Reading) (path : PatternPath) (tried : ℕ) (forks : List Place) (at : Place) → at.steps ≤ length path.parts
    → gone R path tried forks (Some at) ≡ (turn_of R path.start (steps_left path.parts at.steps) at.node >>= λ turn. turned R path tried turn >>= resumed R path (reverse forks))
search_turns R path tried forks at l =
    ap (λ o. o >>= resumed R path (reverse forks)) (turn_is R path tried at l)
    ∙ then_then (turn_of R path.start (steps_left path.parts at.steps) at.node) (turned R path tried) (resumed R path (reverse forks))

-- what is left, in the words of a search that goes on
pub leaves_goes : {M A B : Type 0} {lookups : Lookups} {s t u : Seen M} {way : Reading → Outcome A} {left : Reading → A → Outcome B} {other whole : Reading → Outcome B}
    → Leaves lookups s t (λ R. way R >>= left R) whole → Moves t u → GoesAs u way left other → Leaves lookups s u other whole
leaves_goes {lookups = lookups} w m h = record { rest = λ v result n a. w.rest v result (moves_on _ _ _ m n) (says_after m (says_grown n (λ steps g l. h.same lookups steps g l) a)) }

-- ---- the search ends

less_by : (a b k l : ℕ) → a < b → k < 18446744073709551616 → a * 18446744073709551616 + k < b * 18446744073709551616 + l
less_by a b k l h r = omega (arith, h, r)

same_by : (a b k l : ℕ) → a ≡ b → k < l → a * 18446744073709551616 + k < b * 18446744073709551616 + l
same_by a b k l e h = omega (arith, e, h)

pub search_ends : (tried tried' count : ℕ) (forks forks' : List Place) (turn : Turn) (next : Place) → IsLighter tried forks turn tried' forks' (Some next) → TurnIsBefore count turn
    → next.steps < 2 ^ 64
    → burden tried' forks' * 2 ^ 64 + next.steps < burden tried forks * 2 ^ 64 + count
search_ends tried tried' count forks forks' Missed next l b r = less_by (burden tried' forks') (burden tried forks) next.steps count l r
search_ends tried tried' count forks forks' (Up place) next l b r = same_by (burden tried' forks') (burden tried forks) next.steps count l.1 (subst (λ (p : Place). p.steps < count) (sym l.0) b)
search_ends tried tried' count forks forks' (Fork place) next l b r = less_by (burden tried' forks') (burden tried forks) next.steps count l r

-- ---- one of some items

pub some_at : {A : Type 0} (f : A → Outcome Bool) (xs : List A) (i : ℕ) (x : A) → i < length xs → x ≡ get_or xs i x
    → some_holds f (drop i xs) ≡ (f x >>= λ here. cond here (Known true) (some_holds f (drop (i + 1) xs)))
some_at f xs i x h e = some_turns f xs i x h ∙ ap (λ y. f y >>= λ here. cond here (Known true) (some_holds f (drop (i + 1) xs))) (sym e)

-- ---- the search as a whole

-- what is left in words that hold at what a view has seen and at every lawful growth
leaves_grown : {M A : Type 0} {lookups : Lookups} {s t : Seen M} {left other whole : Reading → Outcome A} → Leaves lookups s t left whole
    → ((steps : List Step) → Grows t.steps steps → IsLawful steps → left (reading_by lookups t.rules steps) ≡ other (reading_by lookups t.rules steps)) → Leaves lookups s t other whole
leaves_grown w h = record { rest = λ u result n a. w.rest u result n (says_grown n h a) }

pub search_starts : {M : Type 0} {lookups : Lookups} {s t : Seen M} (path : PatternPath) (n count tried : ℕ) (forks : List Place) → Moves s t → IsThere t.rules t.steps n
    → count ≡ length path.parts → tried ≡ count → forks ≡ []
    → Leaves lookups s t (λ R. gone R path tried forks (Some (place_at count n))) (λ R. match_path R path n)
search_starts {lookups = lookups} {t = t} path n count tried forks m w c e f =
    leaves_grown (leaves_start m (λ R. refl))
    (λ steps g l.
    let R = reading_by lookups t.rules steps in
    search_is lookups t.rules steps l path n (there_grows t.rules t.steps steps n g w)
    ∙ ap (λ k. gone R path k [] (Some (place_at k n))) (sym c) ∙ ap (λ k. gone R path k [] (Some (place_at count n))) (sym e) ∙ ap (λ fs. gone R path tried fs (Some (place_at count n))) (sym f))

pub before_within : (count most : ℕ) (turn : Turn) → TurnIsBefore count turn → count ≤ most → TurnIsWithin most turn
before_within count most Missed b l = tt
before_within count most (Up place) b l = omega (arith, b, l)
before_within count most (Fork place) b l = omega (arith, b, l)
