-- The text of the turns that were played.
use Rattle.std.proofs.Common.{◌≡◌, ◌≢◌, ℕ, ◌+◌, ◌<◌, ◌≤◌, List, [], ◌∷◌, ◌++◌, Option, Some, Bool, true, false, cond, All, refl, ap, sym, ◌∙◌, arith}
use Rattle.std.proofs.Common.{append_assoc, append-nil, subst, take, drop, get_or, length}
use Rattle.std.proofs.lemmas.List.{take_more, take-append-drop}
use Rattle.std.specs.List.{list_any}
use Rattle.std.proofs.lemmas.Grind.{flat_map-append}
use Rattle.std.proofs.lemmas.List.FromFn.{map-range_with_len_more}
use Rattle.doc_model.specs.declared.flaw.Flaw.{Flaw}
use Rattle.doc_model.specs.declared.limits.Limits.{Limits}
use Rattle.doc_model.specs.declared.step.Step.{Step}
use Rattle.cmd_words.specs.declared.item.Item.{Item}
use Rattle.cmd_words.specs.declared.item.Item.TheVariants.{Reader}
use Rattle.cmd_words.specs.Items.{IsItem}
use Rattle.pyx_events.specs.Steps.{steps_to}
use Rattle.line_feeder.specs.declared.fed.Fed.{Fed}
use Rattle.line_feeder.specs.declared.fed.Fed.TheVariants as fed
use Rattle.line_feeder.specs.Feeds.{feeds_of}
use Rattle.sessions.specs.Running.{made_of}
use Rattle.turn_play.specs.Playing.{FindsWithin, TellsAll}
use Rattle.turn_play.specs.Progress.{made_after, progress_line, progress_text}
use Rattle.turn_play.specs.Turns.{Run, feeds, repeated, passes, runs, last_runs, total}
use Rattle.turn_play.proofs.TurnLemmas.{total-feeds, total-still, total-append, repeated-more, runs-append, runs-over, runs-one, runs-more, runs-passes}

-- the source's last feed is one of so many after these
abbrev pub IsLastWithin : Limits → List ℕ → ℕ → ℕ → Type 0
IsLastWithin limits bytes count most = (more : ℕ) × (more < most) × (feeds_of limits bytes ≡ count + more + 1)

-- by this answer the source's last feed was found
pub told_last : (limits : Limits) (bytes : List ℕ) (left : Option (List ℕ)) (count most : ℕ) (steps : List Step) (answer : Fed) →
    answer ≢ fed.Line → TellsAll answer → FindsWithin limits (Some bytes) left count most steps answer → IsLastWithin limits bytes count most
told_last limits bytes left count most steps fed.Line over tells found = absurd (over refl)
told_last limits bytes left count most steps fed.Ended over tells found = (found.0, found.1, found.2.1.0.feed)
told_last limits bytes left count most steps (fed.Flawed flaw) over tells found = (found.0, found.1, found.2.feed)
told_last limits bytes left count most steps fed.Failed over tells found = absurd tells
told_last limits bytes left count most steps fed.Memory over tells found = absurd tells

-- a text that tells some turns, and then others, tells both
pub text-more : (said said' said'' : List ℕ) (xs ys : List Run) → said' ≡ said ++ progress_text xs → said'' ≡ said' ++ progress_text ys →
    said'' ≡ said ++ progress_text (xs ++ ys)
text-more said said' said'' xs ys first then =
    then ∙ ap (λ l. l ++ progress_text ys) first ∙ append_assoc said (progress_text xs) (progress_text ys)
    ∙ ap (λ l. said ++ l) (sym (flat_map-append progress_line xs ys))

-- the pass in which the last feed was found
pub pass_said : (made : ℕ → ℕ → ℕ) (limits : Limits) (bytes : List ℕ) (readers n : ℕ) (items : List Item) (said said' said'' : List ℕ) → All (IsItem readers) items →
    IsLastWithin limits bytes (total (repeated n items)) (total items) →
    said' ≡ said ++ progress_text (runs made (feeds_of limits bytes) 0 (repeated n items)) →
    said'' ≡ said' ++ progress_text (runs made (feeds_of limits bytes) (total (repeated n items)) items) →
    said'' ≡ said ++ progress_text (runs made (feeds_of limits bytes) 0 (passes (feeds_of limits bytes) items))
pass_said made limits bytes readers n items said said' said'' each last first then = by_feeding (list_any feeds items) refl
  where
    feed : ℕ
    feed = feeds_of limits bytes

    by_feeding : (b : Bool) → list_any feeds items ≡ b → said'' ≡ said ++ progress_text (runs made feed 0 (passes feed items))
    by_feeding true feeding =
        let all = runs-passes made feed n last.0 items (total-feeds readers items each feeding) last.1 last.2 in
        let chosen : repeated feed items ≡ passes feed items = sym (ap (λ b. cond b (repeated feed items) items) feeding) in
        text-more said said' said'' (runs made feed 0 (repeated n items)) (runs made feed (total (repeated n items)) items) first then
        ∙ ap (λ l. said ++ progress_text l) (all ∙ ap (λ l. runs made feed 0 l) chosen)
    by_feeding false still =
        let none = total-still items still in
        absurd (omega (arith, none, last.1))

-- a list that doesn't feed is gone through once
pub once_said : (made : ℕ → ℕ → ℕ) (last n : ℕ) (items : List Item) (said said' said'' : List ℕ) →
    list_any feeds items ≡ false → n ≡ 0 →
    said' ≡ said ++ progress_text (runs made last 0 (repeated n items)) →
    said'' ≡ said' ++ progress_text (runs made last (total (repeated n items)) items) →
    said'' ≡ said ++ progress_text (runs made last 0 (passes last items))
once_said made last n items said said' said'' still first_pass first then =
    let first' : said' ≡ said ++ progress_text [] = first ∙ ap (λ k. said ++ progress_text (runs made last 0 (repeated k items))) first_pass in
    let then' : said'' ≡ said' ++ progress_text (runs made last 0 items) = then ∙ ap (λ k. said' ++ progress_text (runs made last (total (repeated k items)) items)) first_pass in
    text-more said said' said'' [] (runs made last 0 items) first' then'
    ∙ ap (λ b. said ++ progress_text (runs made last 0 (cond b (repeated last items) items))) (sym still)

-- the text of one pass more
pub pass_more : (made : ℕ → ℕ → ℕ) (last n : ℕ) (items : List Item) (said said' said'' : List ℕ) →
    said' ≡ said ++ progress_text (runs made last 0 (repeated n items)) →
    said'' ≡ said' ++ progress_text (runs made last (total (repeated n items)) items) →
    said'' ≡ said ++ progress_text (runs made last 0 (repeated (n + 1) items))
pass_more made last n items said said' said'' first then =
    text-more said said' said'' (runs made last 0 (repeated n items)) (runs made last (total (repeated n items)) items) first then
    ∙ ap (λ l. said ++ progress_text l) (sym (runs-more made last n items))

pub total_pass : (n : ℕ) (items : List Item) → total (repeated n items) + total items ≡ total (repeated (n + 1) items)
total_pass n items = sym (ap total (repeated-more n items) ∙ total-append (repeated n items) items)

-- one more last turn
pub text-one : (said said' said'' : List ℕ) (made : ℕ → ℕ) (reader count : ℕ) → said' ≡ said ++ progress_text (last_runs reader made) → count ≡ made reader →
    said'' ≡ said' ++ progress_line (record { reader = reader; made = count }) → said'' ≡ said ++ progress_text (last_runs (reader + 1) made)
text-one said said' said'' made reader count first same then =
    let run : ℕ → Run = λ i. record { reader = i; made = made i } in
    let one : said'' ≡ said' ++ progress_text (run reader ∷ []) =
    then ∙ ap (λ m. said' ++ progress_line (record { reader = reader; made = m })) same ∙ ap (λ l. said' ++ l) (sym (append-nil (progress_line (run reader)))) in
    text-more said said' said'' (last_runs reader made) (run reader ∷ []) first one
    ∙ ap (λ l. said ++ progress_text l) (sym (map-range_with_len_more run 0 reader reader (omega arith)))

-- the line of a turn before the last feed
pub turn_told : (limits : Limits) (bytes : List ℕ) (count reader : ℕ) (steps : List Step) (said said' : List ℕ) →
    steps ≡ steps_to limits bytes count → count < feeds_of limits bytes →
    said' ≡ said ++ progress_line (record { reader = reader; made = made_of reader steps }) →
    said' ≡ said ++ progress_text (runs (made_after limits bytes) (feeds_of limits bytes) count (Reader reader ∷ []))
turn_told limits bytes count reader steps said said' same before then =
    let run : Run = record { reader = reader; made = made_after limits bytes reader count } in
    then ∙ ap (λ s. said ++ progress_line (record { reader = reader; made = made_of reader s })) same
    ∙ ap (λ l. said ++ l) (sym (append-nil (progress_line run)))
    ∙ ap (λ l. said ++ progress_text l) (sym (runs-one (made_after limits bytes) (feeds_of limits bytes) count reader [] before))

-- the items up to this one, and it
items_more : (items : List Item) (i : ℕ) (d : Item) → i < length items → take (i + 1) items ≡ take i items ++ get_or items i d ∷ []
items_more items i d within = take_more items i d within

-- the lines that the items up to this one and it ask for
pub total_more : (items : List Item) (i : ℕ) (d : Item) → i < length items → total (take i items) + total (get_or items i d ∷ []) ≡ total (take (i + 1) items)
total_more items i d within = sym (ap total (items_more items i d within) ∙ total-append (take i items) (get_or items i d ∷ []))

-- are some of those of all items
pub total_within : (items : List Item) (i : ℕ) (d : Item) → i < length items → total (take i items) + total (get_or items i d ∷ []) ≤ total items
total_within items i d within =
    let whole = ap total (sym (take-append-drop (i + 1) items)) ∙ total-append (take (i + 1) items) (drop (i + 1) items) in
    omega (arith, total_more items i d within, whole)

-- the text of the turns of the items up to this one, and of its own
pub items_said : (made : ℕ → ℕ → ℕ) (last count : ℕ) (items : List Item) (i : ℕ) (d : Item) (said said' said'' : List ℕ) → i < length items →
    said' ≡ said ++ progress_text (runs made last count (take i items)) →
    said'' ≡ said' ++ progress_text (runs made last (count + total (take i items)) (get_or items i d ∷ [])) →
    said'' ≡ said ++ progress_text (runs made last count (take (i + 1) items))
items_said made last count items i d said said' said'' within first then =
    text-more said said' said'' (runs made last count (take i items)) (runs made last (count + total (take i items)) (get_or items i d ∷ [])) first then
    ∙ ap (λ l. said ++ progress_text l) (sym (runs-append made last count (take i items) (get_or items i d ∷ [])) ∙ ap (runs made last count) (sym (items_more items i d within)))

-- where the last feed was found, the items after it give no turn
items_over : (made : ℕ → ℕ → ℕ) (last count : ℕ) (items : List Item) (i : ℕ) (said said' : List ℕ) →
    last ≤ count + total (take i items) →
    said' ≡ said ++ progress_text (runs made last count (take i items)) →
    said' ≡ said ++ progress_text (runs made last count items)
items_over made last count items i said said' over is =
    let none = runs-over made last (count + total (take i items)) (drop i items) over in
    let all : runs made last count items ≡ runs made last count (take i items) =
    ap (runs made last count) (sym (take-append-drop i items)) ∙ runs-append made last count (take i items) (drop i items)
    ∙ ap (λ l. runs made last count (take i items) ++ l) none ∙ append-nil _ in
    is ∙ ap (λ l. said ++ progress_text l) (sym all)

-- the text of all items, where the last feed was found within this one
pub last_said : (made : ℕ → ℕ → ℕ) (limits : Limits) (bytes : List ℕ) (count : ℕ) (items : List Item) (i : ℕ) (d : Item) (said said' said'' : List ℕ) → i < length items →
    IsLastWithin limits bytes (count + total (take i items)) (total (get_or items i d ∷ [])) →
    said' ≡ said ++ progress_text (runs made (feeds_of limits bytes) count (take i items)) →
    said'' ≡ said' ++ progress_text (runs made (feeds_of limits bytes) (count + total (take i items)) (get_or items i d ∷ [])) →
    said'' ≡ said ++ progress_text (runs made (feeds_of limits bytes) count items)
last_said made limits bytes count items i d said said' said'' within last first then =
    items_over made (feeds_of limits bytes) count items (i + 1) said said''
    (omega (arith, last.1, last.2, total_more items i d within))
    (items_said made (feeds_of limits bytes) count items i d said said' said'' within first then)

pub TellsAll-line : (answer : Fed) → answer ≡ fed.Line → TellsAll answer
TellsAll-line answer line = subst TellsAll (sym line) tt
