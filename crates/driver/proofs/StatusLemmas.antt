-- What each status tells of the answer that was due.
use Rattle.std.proofs.Common.{◌≡◌, ◌≢◌, ◌⊎◌, ℕ, List, Option, Some, None, Bool, true, false, if◌then◌else◌, IfSome, refl, ap, sym, ◌∙◌, subst, inl, inr, arith, ◌≤◌}
use Rattle.std.specs.List.{list_any}
use Rattle.std.specs.Io.KnownBytes.{IsAtEnd}
use Rattle.doc_model.specs.declared.limits.Limits.{Limits}
use Rattle.cmd_words.specs.declared.planned.Plan.{Plan}
use Rattle.cmd_words.specs.Words.{plan_of}
use Rattle.pyx_events.specs.Flaw.{flaw_of}
use Rattle.delivery.specs.Answer.{Answer, has_fault, code_of}
use Rattle.delivery.specs.Delivery.{Outputs, Delivers, IsDelivered}
use Rattle.driver.specs.Judged.{answer_of, planned, judged, usage_answer, read_failed_answer, memory_answer}
use Rattle.driver.specs.Top.{Outside, Answers, IsDue, IsOfPlan, IsJudged, ReadFails}

-- any status but 6 is that of the answer, which was delivered
delivers : (answer : Answer) (code : ℕ) (before after : Outputs) → IsDelivered answer code before after → code ≢ 6 → Delivers answer code before after
delivers answer code before after (inl it) other = it
delivers answer code before after (inr (inl it)) other = absurd (other it.status)
delivers answer code before after (inr (inr it)) other = absurd (other it.status)

abbrev code_by : Bool → ℕ
code_by b = if b then 1 else 0

by_fault : (b : Bool) → (code_by b ≡ 0) ⊎ (code_by b ≡ 1)
by_fault true = inr refl
by_fault false = inl refl

-- an answer of the source's own has status 0 or 1, where it was read to its end, or 4
record OwnStatus (left : Option (List ℕ)) (status : ℕ) : Type 0 where
  few : status ≤ 4
  other : status ≢ 2
  whole : (status ≡ 0) ⊎ (status ≡ 1) → IsAtEnd left

own_status : (plan : Plan) (left : Option (List ℕ)) (answer : Answer) → IsOfPlan plan left answer → OwnStatus left answer.status
own_status plan left answer (inl made) = by_code (by_fault (list_any has_fault made.1.0))
  where
    status : answer.status ≡ code_of made.1.0
    status = ap (λ (a : Answer). a.status) made.1.1.1

    by_code : (code_of made.1.0 ≡ 0) ⊎ (code_of made.1.0 ≡ 1) → OwnStatus left answer.status
    by_code (inl is) = record { few = omega (arith, status, is); other = λ two. omega (arith, status, is, two); whole = λ _. made.0 }
    by_code (inr is) = record { few = omega (arith, status, is); other = λ two. omega (arith, status, is, two); whole = λ _. made.0 }
own_status plan left answer (inr flawed) = record {
  few = omega (arith, four);
  other = λ two. omega (arith, four, two);
  whole = λ low. absurd (by_low low);
}
  where
    four : answer.status ≡ 4
    four = ap (λ (a : Answer). a.status) flawed.1.1

    by_low : (answer.status ≡ 0) ⊎ (answer.status ≡ 1) → ⊥
    by_low (inl is) = omega (arith, four, is)
    by_low (inr is) = omega (arith, four, is)

-- where the source tells its bytes
pub told_answer : (limits : Limits) (words : List (List ℕ)) (bytes : List ℕ) (code : ℕ) (before after : Outside) → Answers limits words code before after →
    before.left ≡ Some bytes → code ≢ 5 → code ≢ 6 → code ≢ 7 → Delivers (answer_of limits words bytes) code before.out after.out
told_answer limits words bytes code before after a told not_5 not_6 not_7 = by_cause a.cause
  where
    it : Delivers a.due code before.out after.out
    it = delivers a.due code before.out after.out a.delivered not_6

    told_as : (answer : Answer) → a.due ≡ answer → Delivers answer code before.out after.out
    told_as answer same = subst (λ (due : Answer). Delivers due code before.out after.out) same it

    by_cause : IsDue limits words before after a.due → Delivers (answer_of limits words bytes) code before.out after.out
    by_cause (inl usage) = told_as (answer_of limits words bytes) (usage.1 ∙ sym (ap (λ (plan : Option Plan). planned limits plan bytes) usage.0))
    by_cause (inr (plan, (is, inl own))) =
        let exact = subst (λ (l : Option (List ℕ)). IfSome l (λ bytes. a.due ≡ judged limits plan bytes (flaw_of limits bytes))) told own.exact in
        told_as (answer_of limits words bytes) (exact ∙ sym (ap (λ (plan : Option Plan). planned limits plan bytes) is))
    by_cause (inr (plan, (is, inr (inl fails)))) = absurd (not_5 (it.status ∙ ap (λ (answer : Answer). answer.status) fails.told))
    by_cause (inr (plan, (is, inr (inr starved)))) = absurd (not_7 (it.status ∙ ap (λ (answer : Answer). answer.status) starved))

-- status 2
pub two_tells : (limits : Limits) (words : List (List ℕ)) (code : ℕ) (before after : Outside) → Answers limits words code before after → code ≡ 2 → plan_of words ≡ None
two_tells limits words code before after a two = by_cause a.cause
  where
    it : Delivers a.due code before.out after.out
    it = delivers a.due code before.out after.out a.delivered (λ six. omega (arith, two, six))

    by_cause : IsDue limits words before after a.due → plan_of words ≡ None
    by_cause (inl usage) = usage.0
    by_cause (inr (plan, (is, inl own))) = absurd ((own_status plan after.left a.due own.planned).other (sym it.status ∙ two))
    by_cause (inr (plan, (is, inr (inl fails)))) = absurd (let five = ap (λ (answer : Answer). answer.status) fails.told in omega (arith, it.status, five, two))
    by_cause (inr (plan, (is, inr (inr starved)))) = absurd (let seven = ap (λ (answer : Answer). answer.status) starved in omega (arith, it.status, seven, two))

-- words that are no plan
pub words_first : (limits : Limits) (words : List (List ℕ)) (code : ℕ) (before after : Outside) → Answers limits words code before after → plan_of words ≡ None → (code ≡ 2) ⊎ (code ≡ 6)
words_first limits words code before after a none = by_cause a.cause
  where
    by_end : a.due ≡ usage_answer → IsDelivered a.due code before.out after.out → (code ≡ 2) ⊎ (code ≡ 6)
    by_end usage (inl it) = inl (it.status ∙ ap (λ (answer : Answer). answer.status) usage)
    by_end usage (inr (inl it)) = inr it.status
    by_end usage (inr (inr it)) = inr it.status

    by_cause : IsDue limits words before after a.due → (code ≡ 2) ⊎ (code ≡ 6)
    by_cause (inl usage) = by_end usage.1 a.delivered
    by_cause (inr (plan, (is, due))) = let both = sym none ∙ is in cc

-- statuses 0 and 1
pub low_tells : (limits : Limits) (words : List (List ℕ)) (code : ℕ) (before after : Outside) → Answers limits words code before after → (code ≡ 0) ⊎ (code ≡ 1) → IsAtEnd after.left
low_tells limits words code before after a low = by_cause a.cause
  where
    few : (code ≡ 0) ⊎ (code ≡ 1) → code ≤ 1
    few (inl is) = omega (arith, is)
    few (inr is) = omega (arith, is)

    it : Delivers a.due code before.out after.out
    it = delivers a.due code before.out after.out a.delivered (λ six. let few = few low in omega (arith, few, six))

    by_cause : IsDue limits words before after a.due → IsAtEnd after.left
    by_cause (inl usage) = absurd (let few = few low in let two = ap (λ (answer : Answer). answer.status) usage.1 in omega (arith, it.status, two, few))
    by_cause (inr (plan, (is, inl own))) = (own_status plan after.left a.due own.planned).whole (subst (λ (n : ℕ). (n ≡ 0) ⊎ (n ≡ 1)) it.status low)
    by_cause (inr (plan, (is, inr (inl fails)))) = absurd (let few = few low in let five = ap (λ (answer : Answer). answer.status) fails.told in omega (arith, it.status, five, few))
    by_cause (inr (plan, (is, inr (inr starved)))) = absurd (let few = few low in let seven = ap (λ (answer : Answer). answer.status) starved in omega (arith, it.status, seven, few))

-- status 5
pub five_tells : (limits : Limits) (words : List (List ℕ)) (code : ℕ) (before after : Outside) → Answers limits words code before after → code ≡ 5 →
    ReadFails limits before after read_failed_answer × Delivers read_failed_answer code before.out after.out
five_tells limits words code before after a five = by_cause a.cause
  where
    it : Delivers a.due code before.out after.out
    it = delivers a.due code before.out after.out a.delivered (λ six. omega (arith, five, six))

    by_cause : IsDue limits words before after a.due → ReadFails limits before after read_failed_answer × Delivers read_failed_answer code before.out after.out
    by_cause (inl usage) = absurd (let two = ap (λ (answer : Answer). answer.status) usage.1 in omega (arith, it.status, two, five))
    by_cause (inr (plan, (is, inl own))) = absurd (let few = (own_status plan after.left a.due own.planned).few in omega (arith, it.status, few, five))
    by_cause (inr (plan, (is, inr (inl fails)))) =
        (record { rose = fails.rose; stops = fails.stops; told = refl }, subst (λ (due : Answer). Delivers due code before.out after.out) fails.told it)
    by_cause (inr (plan, (is, inr (inr starved)))) = absurd (let seven = ap (λ (answer : Answer). answer.status) starved in omega (arith, it.status, seven, five))

-- status 7
pub seven_tells : (limits : Limits) (words : List (List ℕ)) (code : ℕ) (before after : Outside) → Answers limits words code before after → code ≡ 7 → Delivers memory_answer code before.out after.out
seven_tells limits words code before after a seven = by_cause a.cause
  where
    it : Delivers a.due code before.out after.out
    it = delivers a.due code before.out after.out a.delivered (λ six. omega (arith, seven, six))

    by_cause : IsDue limits words before after a.due → Delivers memory_answer code before.out after.out
    by_cause (inl usage) = absurd (let two = ap (λ (answer : Answer). answer.status) usage.1 in omega (arith, it.status, two, seven))
    by_cause (inr (plan, (is, inl own))) = absurd (let few = (own_status plan after.left a.due own.planned).few in omega (arith, it.status, few, seven))
    by_cause (inr (plan, (is, inr (inl fails)))) = absurd (let five = ap (λ (answer : Answer). answer.status) fails.told in omega (arith, it.status, five, seven))
    by_cause (inr (plan, (is, inr (inr starved)))) = subst (λ (due : Answer). Delivers due code before.out after.out) starved it
