-- The answer of a plan, from what the play of its turns found.
use Rattle.std.proofs.Common.{◌≡◌, ◌⊎◌, ℕ, zero, suc, ◌+◌, List, [], ◌∷◌, ◌++◌, Option, Some, None, length, map, refl, ap, sym, ◌∙◌, subst, inl, inr}
use Rattle.std.specs.Prelude.{Result, Ok, Err, IfOk, IsErrOf, String}
use Rattle.std.specs.Global.{Global}
use Rattle.std.specs.List.{range_with_len}
use Rattle.driver.specs.declared.transform.Stop.TheVariants as stop
use Rattle.std.proofs.lemmas.Grind.{flat_map-append}
use Rattle.doc_model.specs.declared.flaw.Flaw.{Flaw}
use Rattle.doc_model.specs.declared.limits.Limits.{Limits}
use Rattle.doc_model.specs.declared.step.Step.{Step}
use Rattle.pyx_lines.specs.declared.line.Line.{Line}
use Rattle.pyx_events.specs.Steps.{steps_of}
use Rattle.cmd_words.specs.declared.item.Item.{Item}
use Rattle.cmd_words.specs.declared.planned.Plan.{Plan}
use Rattle.cmd_words.specs.Turns.{turns_of}
use Rattle.line_feeder.specs.declared.fed.Fed.{Fed}
use Rattle.line_feeder.specs.declared.fed.Fed.TheVariants as fed
use Rattle.line_feeder.specs.Feeding.{WasReadSo}
use Rattle.line_feeder.specs.Feeds.{feeds_of}
use Rattle.sessions.specs.declared.outcome.Outcome.{Outcome}
use Rattle.sessions.specs.Running.{made_of, outcome_of, outcomes_of}
use Rattle.turn_play.specs.Playing.{FindsWithin, IsReadInTime}
use Rattle.turn_play.specs.Progress.{made_after, progress_line, progress_text}
use Rattle.turn_play.specs.Turns.{passes, runs, last_runs}
use Rattle.delivery.specs.Answer.{made_answer, flawed_answer, messages_from, messages_of}
use Rattle.driver.specs.Judged.{early_runs, all_runs, judged}
use Rattle.driver.specs.Top.{IsJudged, StopsWithoutFlaw}

-- a result that is Ok with both
pub IfOk-both : {T E : Type 0} (r : Result T E) (P Q R : T → Type 0) → IfOk r P → IfOk r Q → ((x : T) → P x → Q x → R x) → IfOk r R
IfOk-both (Ok x) P Q R p q both = both x p q
IfOk-both (Err e) P Q R p q both = tt

-- the text of the turns before the end, where nothing was said before
pub early_text : (limits : Limits) (plan : Plan) (bytes : List ℕ) (items : List Item) (said said' : List ℕ) → said ≡ [] → items ≡ turns_of plan →
    said' ≡ said ++ progress_text (runs (made_after limits bytes) (feeds_of limits bytes) 0 (passes (feeds_of limits bytes) items)) →
    said' ≡ progress_text (early_runs limits plan bytes)
early_text limits plan bytes items said said' none same then =
    then ∙ ap (λ l. l ++ progress_text (runs (made_after limits bytes) (feeds_of limits bytes) 0 (passes (feeds_of limits bytes) items))) none
    ∙ ap (λ l. progress_text (runs (made_after limits bytes) (feeds_of limits bytes) 0 (passes (feeds_of limits bytes) l))) same

-- the source was read to its end: the answer is what was made
pub judged_made : (limits : Limits) (plan : Plan) (told left : Option (List ℕ)) (most : ℕ) (steps : List Step) (answer : Fed) (outcomes : List Outcome) (early progress : List ℕ) →
    answer ≡ fed.Ended → FindsWithin limits told left 0 most steps answer →
    ((bytes : List ℕ) → told ≡ Some bytes → early ≡ progress_text (early_runs limits plan bytes)) →
    outcomes ≡ outcomes_of (length plan.pairs) steps →
    progress ≡ early ++ progress_text (last_runs (length plan.pairs) (λ reader. made_of reader steps)) →
    IsJudged limits plan told left (made_answer plan.pairs outcomes progress)
judged_made limits plan None left most steps answer outcomes early progress ended finds before made said =
    let found = subst (FindsWithin limits None left 0 most steps) ended finds in
    record { planned = inl (found.2.0, (outcomes, (progress, refl))); exact = tt }
judged_made limits plan (Some bytes) left most steps answer outcomes early progress ended finds before made said =
    let found = subst (FindsWithin limits (Some bytes) left 0 most steps) ended finds in
    let whole = found.2.1 in
    let all : outcomes ≡ outcomes_of (length plan.pairs) (steps_of limits bytes) = made ∙ ap (outcomes_of (length plan.pairs)) whole.1 in
    let told : progress ≡ progress_text (all_runs limits plan bytes) =
    said ∙ ap (λ l. l ++ progress_text (last_runs (length plan.pairs) (λ reader. made_of reader steps))) (before bytes refl)
    ∙ ap (λ s. progress_text (early_runs limits plan bytes) ++ progress_text (last_runs (length plan.pairs) (λ reader. made_of reader s))) whole.1
    ∙ sym (flat_map-append progress_line (early_runs limits plan bytes) (last_runs (length plan.pairs) (λ reader. made_of reader (steps_of limits bytes)))) in
    record {
      planned = inl (found.2.0, (outcomes, (progress, refl)));
      exact = ap (λ o. made_answer plan.pairs o progress) all ∙ ap (λ p. made_answer plan.pairs (outcomes_of (length plan.pairs) (steps_of limits bytes)) p) told
          ∙ ap (judged limits plan bytes) (sym whole.0.first);
    }

-- the first flaw was found: the answer tells it
pub judged_flawed : (limits : Limits) (plan : Plan) (told left : Option (List ℕ)) (most : ℕ) (steps : List Step) (answer : Fed) (flaw : Flaw) (early : List ℕ) →
    answer ≡ fed.Flawed flaw → FindsWithin limits told left 0 most steps answer →
    ((bytes : List ℕ) → told ≡ Some bytes → early ≡ progress_text (early_runs limits plan bytes)) →
    IsJudged limits plan told left (flawed_answer early flaw)
judged_flawed limits plan None left most steps answer flaw early flawed finds before = record { planned = inr (early, (flaw, refl)); exact = tt }
judged_flawed limits plan (Some bytes) left most steps answer flaw early flawed finds before =
    let found = subst (FindsWithin limits (Some bytes) left 0 most steps) flawed finds in
    record {
      planned = inr (early, (flaw, refl));
      exact = ap (λ p. flawed_answer p flaw) (before bytes refl) ∙ ap (judged limits plan bytes) (sym found.2.first);
    }

-- a read failed
pub stops_from : (limits : Limits) (told left : Option (List ℕ)) (lines : List Line) → WasReadSo limits told left lines → StopsWithoutFlaw limits told left
stops_from limits None left lines read = tt
stops_from limits (Some bytes) None lines read = absurd read
stops_from limits (Some bytes) (Some xs) lines read = record { read = read.read; all = read.all; flawless = read.flawless }

pub Flawed-inj : {T : Type 0} (said said' : String Global) → IsErrOf {T = T} (Err (stop.Flawed said)) (stop.Flawed said') → said ≡ said'
Flawed-inj said said' same = cc

-- words that are a plan have one
pub some_plan : (plan : Option Plan) → (plan ≡ None → ⊥) → (it : Plan) × (plan ≡ Some it)
some_plan None other = absurd (other refl)
some_plan (Some plan) other = (plan, refl)

-- nothing was read
pub unread : (limits : Limits) (left : Option (List ℕ)) → IsReadInTime limits left left
unread limits None = tt
unread limits (Some bytes) = inl refl

-- the readers have no messages
quiet_from : (steps : List Step) (count from first : ℕ) → messages_from first (map (λ reader. outcome_of reader steps) (range_with_len from count)) ≡ []
quiet_from steps zero from first = refl
quiet_from steps (suc count) from first = quiet_from steps count (from + 1) (first + 1)

pub quiet : (readers : ℕ) (steps : List Step) (outcomes : List Outcome) → outcomes ≡ outcomes_of readers steps → messages_of outcomes ≡ []
quiet readers steps outcomes are = ap messages_of are ∙ quiet_from steps readers 0 0
