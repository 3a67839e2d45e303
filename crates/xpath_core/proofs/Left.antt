-- What is left at a place in child steps, as it moves on.
use Rattle.std.proofs.Common.{◌≡◌, refl, sym, ap, ◌∙◌, ℕ, zero, suc, ◌<◌, List, [], ◌∷◌, ◌++◌, length, drop, Bool, true, false, cond, append_assoc, arith, Option, Some, None}
use Rattle.std.specs.Prelude.{slice_get}
use Rattle.doc_model.specs.Answers as answer
use Rattle.xpath_core.specs.declared.levels.Child.{Child}
use Rattle.xpath_core.specs.declared.levels.Child.TheVariants as child
use Rattle.xpath_core.specs.declared.levels.Level.{Level}
use Rattle.xpath_core.specs.Left.{level_left, entered, left_of, fresh_level, after_child, entered_by, child_left, levels_after}
use Rattle.xpath_meaning.specs.declared.context.Context.{Context}
use Rattle.xpath_meaning.specs.Items.{if_passed, steps_items}
use Rattle.xpath_meaning.specs.Meanings.{MeantStep}
use Rattle.xpath_meaning.specs.Outcome.{Outcome, ◌>>=◌}
use Rattle.xpath_meaning.specs.Reading.{Reading}
use Rattle.xpath_meaning.specs.Streams.{Stream, Ending, Whole, Fault, Cut, all_of, behind, then_stream, stream_of, first_in, first_item}
use Rattle.xpath_values.specs.declared.value.Value.{Value}

-- ---- streams

behind_behind : (xs ys : List ℕ) (ending : Ending) (next : Stream) → behind (xs ++ ys) ending next ≡ record { items = xs ++ (behind ys ending next).items; ending = (behind ys ending next).ending }
behind_behind xs ys Whole next = ap (λ items. record { items = items; ending = next.ending }) (append_assoc xs ys next.items)
behind_behind xs ys (Fault f) next = refl
behind_behind xs ys (Cut m) next = refl

then_behind : (xs : List ℕ) (ending : Ending) (s t : Stream) → then_stream (behind xs ending s) t ≡ behind xs ending (then_stream s t)
then_behind xs Whole s t = behind_behind xs s.items s.ending t
then_behind xs (Fault f) s t = refl
then_behind xs (Cut m) s t = refl

pub then_assoc : (r s t : Stream) → then_stream (then_stream r s) t ≡ then_stream r (then_stream s t)
then_assoc r s t = then_behind r.items r.ending s t

-- the first item of a stream, or of what comes behind it
abbrev pub or_next : Outcome (Option ℕ) → Option ℕ → Outcome (Option ℕ)
or_next next None = next
or_next next (Some n) = answer.Known (Some n)

first_behind : (xs : List ℕ) (ending : Ending) (t : Stream) → first_item (behind xs ending t) ≡ (first_in xs ending >>= or_next (first_item t))
first_behind [] Whole t = refl
first_behind [] (Fault f) t = refl
first_behind [] (Cut m) t = refl
first_behind (n ∷ ns) Whole t = refl
first_behind (n ∷ ns) (Fault f) t = refl
first_behind (n ∷ ns) (Cut m) t = refl

pub first_then : (s t : Stream) → first_item (then_stream s t) ≡ (first_item s >>= or_next (first_item t))
first_then s t = first_behind s.items s.ending t

pub first_of_stream : {A : Type 0} (o : Outcome A) (f : A → Stream) → first_item (stream_of o f) ≡ (o >>= λ x. first_item (f x))
first_of_stream (answer.Known x) f = refl
first_of_stream (answer.Fault e) f = refl
first_of_stream (answer.Open m) f = refl

pub if_entered : (b : Bool) (inside : ℕ → Stream) (n : ℕ) → if_passed b (inside n) ≡ entered inside (cond b (Some n) None)
if_entered true inside n = refl
if_entered false inside n = refl

all_known : (o : Outcome (Option ℕ)) → o ≡ (o >>= λ item. answer.Known item)
all_known (answer.Known x) = refl
all_known (answer.Fault e) = refl
all_known (answer.Open m) = refl

then_known : {A B : Type 0} (o : Outcome A) (f : A → Outcome B) (g : B → Outcome B) → ((o >>= f) >>= g) ≡ (o >>= λ x. f x >>= g)
then_known (answer.Known x) f g = refl
then_known (answer.Fault e) f g = refl
then_known (answer.Open m) f g = refl

-- ---- levels

module _ (R : Reading) (values : List Value) (c : Context) where
  -- what lies behind the children of the step at this place
  abbrev pub inside_at : List MeantStep → ℕ → ℕ → Stream
  inside_at steps i n = steps_items (drop (suc i) steps) n R values c

  pub left_enter : (steps : List MeantStep) (levels : List Level) (n : ℕ) → length levels < length steps
      → left_of steps levels (Some n) R values c ≡ left_of steps (levels ++ fresh_level n ∷ []) None R values c
  left_enter [] [] n h = absurd (omega arith)
  left_enter (step ∷ steps) [] n h = refl
  left_enter [] (level ∷ levels) n h = absurd (omega arith)
  left_enter (step ∷ steps) (level ∷ levels) n h =
      ap (λ s. then_stream s (level_left step (λ k. steps_items steps k R values c) level R values c)) (left_enter steps levels n (omega arith))

  pub left_item : (steps : List MeantStep) (levels : List Level) (n : ℕ) → length levels ≡ length steps
      → left_of steps levels (Some n) R values c ≡ then_stream (all_of (n ∷ [])) (left_of steps levels None R values c)
  left_item [] [] n h = refl
  left_item (step ∷ steps) [] n h = absurd (omega arith)
  left_item [] (level ∷ levels) n h = absurd (omega arith)
  left_item (step ∷ steps) (level ∷ levels) n h =
      ap (λ s. then_stream s (level_left step (λ k. steps_items steps k R values c) level R values c)) (left_item steps levels n (omega arith))
      ∙ then_assoc (all_of (n ∷ [])) (left_of steps levels None R values c) (level_left step (λ k. steps_items steps k R values c) level R values c)

  -- the innermost level comes to a child
  pub left_goes_on : (steps : List MeantStep) (levels : List Level) (i : ℕ) (step : MeantStep) (level : Level) (x : Child) → suc i ≡ length levels → slice_get levels i ≡ Some level
      → slice_get steps i ≡ Some step
      → level_left step (inside_at steps i) level R values c ≡ child_left step (inside_at steps i) level x R values c
      → left_of steps levels None R values c ≡ left_of steps (levels_after i level x levels) (entered_by x) R values c
  left_goes_on steps [] i step level x h l s e = absurd (omega arith)
  left_goes_on [] (here ∷ levels) i step level x h l s e = absurd (let no : ◌≡◌ {A = Option MeantStep} None (Some step) = s in cc)
  left_goes_on (first ∷ steps) (here ∷ []) zero step level x h l s e = one x e
    where
      same_level : here ≡ level
      same_level = let is : ◌≡◌ {A = Option Level} (Some here) (Some level) = l in cc

      same_step : first ≡ step
      same_step = let is : ◌≡◌ {A = Option MeantStep} (Some first) (Some step) = s in cc

      inside : ℕ → Stream
      inside k = steps_items steps k R values c

      now : level_left first inside here R values c ≡ level_left step inside level R values c
      now = ap (λ l. level_left first inside l R values c) same_level ∙ ap (λ s. level_left s inside level R values c) same_step

      one : (x : Child) → level_left step inside level R values c ≡ child_left step inside level x R values c
          → left_of (first ∷ steps) (here ∷ []) None R values c ≡ left_of (first ∷ steps) (levels_after zero level x (here ∷ [])) (entered_by x) R values c
      one child.None e = now ∙ e
      one (child.Other n children) e = now ∙ e ∙ ap (λ s. level_left s inside (after_child level (child.Other n children)) R values c) (sym same_step)
      one (child.Tested n children tested) e = now ∙ e ∙ ap (λ s. child_left s inside level (child.Tested n children tested) R values c) (sym same_step)
  left_goes_on (first ∷ steps) (here ∷ []) (suc i) step level x h l s e = absurd (omega arith)
  left_goes_on (first ∷ steps) (here ∷ next ∷ levels) zero step level x h l s e = absurd (omega arith)
  left_goes_on (first ∷ steps) (here ∷ next ∷ levels) (suc i) step level x h l s e =
      ap (λ s. then_stream s (level_left first (λ k. steps_items steps k R values c) here R values c)) (left_goes_on steps (next ∷ levels) i step level x (omega arith) l s e)
      ∙ outer x
    where
      outer : (x : Child) → then_stream (left_of steps (levels_after i level x (next ∷ levels)) (entered_by x) R values c) (level_left first (λ k. steps_items steps k R values c) here R values c)
          ≡ left_of (first ∷ steps) (levels_after (suc i) level x (here ∷ next ∷ levels)) (entered_by x) R values c
      outer child.None = refl
      outer (child.Other n children) = refl
      outer (child.Tested n children tested) = refl

  -- what comes behind the first item of the innermost level
  abbrev pub rest_first : List MeantStep → List Level → Option ℕ → Outcome (Option ℕ)
  rest_first [] levels item = answer.Known item
  rest_first (step ∷ steps) [] item = answer.Known item
  rest_first (step ∷ steps) (level ∷ []) item = answer.Known item
  rest_first (step ∷ steps) (level ∷ next ∷ levels) item = rest_first steps (next ∷ levels) item >>= or_next (first_item (level_left step (λ k. steps_items steps k R values c) level R values c))

  pub left_first : (steps : List MeantStep) (levels : List Level) (i : ℕ) (step : MeantStep) (level : Level) → suc i ≡ length levels → slice_get levels i ≡ Some level → slice_get steps i ≡ Some step
      → first_item (left_of steps levels None R values c) ≡ (first_item (level_left step (inside_at steps i) level R values c) >>= rest_first steps levels)
  left_first steps [] i step level h l s = absurd (omega arith)
  left_first [] (here ∷ levels) i step level h l s = absurd (let no : ◌≡◌ {A = Option MeantStep} None (Some step) = s in cc)
  left_first (first ∷ steps) (here ∷ []) zero step level h l s =
      let same_level : here ≡ level = (let is : ◌≡◌ {A = Option Level} (Some here) (Some level) = l in cc) in
      let same_step : first ≡ step = (let is : ◌≡◌ {A = Option MeantStep} (Some first) (Some step) = s in cc) in
      ap (λ l. first_item (level_left first (λ k. steps_items steps k R values c) l R values c)) same_level
      ∙ ap (λ s. first_item (level_left s (λ k. steps_items steps k R values c) level R values c)) same_step
      ∙ all_known (first_item (level_left step (λ k. steps_items steps k R values c) level R values c))
  left_first (first ∷ steps) (here ∷ []) (suc i) step level h l s = absurd (omega arith)
  left_first (first ∷ steps) (here ∷ next ∷ levels) zero step level h l s = absurd (omega arith)
  left_first (first ∷ steps) (here ∷ next ∷ levels) (suc i) step level h l s =
      first_then (left_of steps (next ∷ levels) None R values c) (level_left first (λ k. steps_items steps k R values c) here R values c)
      ∙ ap (λ o. o >>= or_next (first_item (level_left first (λ k. steps_items steps k R values c) here R values c))) (left_first steps (next ∷ levels) i step level (omega arith) l s)
      ∙ then_known (first_item (level_left step (inside_at steps i) level R values c)) (rest_first steps (next ∷ levels))
      (or_next (first_item (level_left first (λ k. steps_items steps k R values c) here R values c)))
