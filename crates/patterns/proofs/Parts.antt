-- Parts of a match stay.
use Rattle.std.proofs.Common.{refl, ℕ, List, [], ◌∷◌, map, Bool, true, false, Option, Some, None}
use Rattle.std.specs.Prelude.{◌||◌, ⊤}
use mathlib.Core.List.{reverse_aux}
use Rattle.doc_model.specs.declared.node_test.Test.{Test}
use Rattle.doc_model.specs.declared.node_test.Test.TheVariants as test
use Rattle.doc_model.specs.declared.row.Axis.TheVariants as axis
use Rattle.doc_model.specs.Answers.{Stays}
use Rattle.doc_model.specs.Document.{is_member}
use Rattle.xpath_funcs.specs.Spaces.{words}
use Rattle.xpath_syntax.specs.declared.pattern.PatternStart.{PatternStart}
use Rattle.xpath_syntax.specs.declared.pattern.PatternStart.TheVariants as start
use Rattle.xpath_syntax.specs.declared.pattern.PatternStep.{PatternStep}
use Rattle.xpath_meaning.specs.declared.context.Size.{Size}
use Rattle.xpath_meaning.specs.Conversions.{first_of}
use Rattle.xpath_meaning.specs.Match.{MatchStep, match_step, fits, beside, size_of, context_at, says, position_in, passes, passes_all, fits_below}
use Rattle.xpath_meaning.specs.Match.{is_step_to, is_found_by_ids, is_found_by_key, starts}
use Rattle.xpath_meaning.specs.Meanings.{Meant}
use Rattle.xpath_meaning.specs.Reading.{Reading, Extends}
use Rattle.xpath_laws.proofs.Staying.{bind_stays, if_stays, each_stays, kept_stays}
use Rattle.xpath_laws.proofs.Keeping.{MeantKeeps, AllKeep, holds_keeps}
use Rattle.xpath_laws.proofs.Expressions.{step_keeps}

pub beside_stays : (attribute whole : Bool) (test : Test) (R Q : Reading) → Extends R Q → (above n : ℕ) → Stays (beside attribute whole test R above n) (beside attribute whole test Q above n)
beside_stays true whole test R Q x above n = x.axis axis.Attribute test above
beside_stays false true test R Q x above n = x.axis axis.Child test above
beside_stays false false test R Q x above n = bind_stays _ _ _ _ (x.axis axis.PrecedingSibling test n) (λ before. refl)

pub says_stays : (R Q : Reading) → Extends R Q → (size : Size) (m : Meant) → MeantKeeps m → (position n : ℕ) → Stays (says R size m position n) (says Q size m position n)
says_stays R Q x size m k position n = holds_keeps m k R Q x [] (context_at size position n)

passes_stays : (R Q : Reading) → Extends R Q → (known : Bool) (n : ℕ) (predicates : List Meant) → AllKeep predicates → (nodes : List ℕ)
    → Stays (passes R known n predicates nodes) (passes Q known n predicates nodes)
passes_stays R Q x known n [] k nodes = refl
passes_stays R Q x known n (m ∷ []) k nodes = says_stays R Q x (size_of known nodes) m k.0 (position_in 1 n nodes) n
passes_stays R Q x known n (m ∷ l ∷ later) k nodes =
    bind_stays _ _ _ _ (kept_stays 1 _ _ nodes (says_stays R Q x (size_of known nodes) m k.0))
    (λ left. if_stays (is_member n left) _ _ _ _ (passes_stays R Q x known n (l ∷ later) k.1 left) refl)

passes_all_stays : (R Q : Reading) → Extends R Q → (step : MatchStep) (above n : ℕ) (predicates : List Meant) → AllKeep predicates
    → Stays (passes_all R step above n predicates) (passes_all Q step above n predicates)
passes_all_stays R Q x step above n [] k = refl
passes_all_stays R Q x step above n (m ∷ ms) k =
    bind_stays _ _ _ _ (beside_stays step.attribute step.whole step.test R Q x above n) (λ nodes. passes_stays R Q x (step.attribute || step.whole) n (m ∷ ms) k nodes)

below_stays : (R Q : Reading) → Extends R Q → (step : MatchStep) → AllKeep step.predicates → (n : ℕ) (above : Option ℕ) → Stays (fits_below R step n above) (fits_below Q step n above)
below_stays R Q x step k n None = refl
below_stays R Q x step k n (Some above) =
    bind_stays _ _ _ _ (x.row n) (λ row. if_stays (fits step.attribute step.test row) _ _ _ _ (passes_all_stays R Q x step above n step.predicates k) refl)

pub step_to_stays : (R Q : Reading) → Extends R Q → (step : MatchStep) → AllKeep step.predicates → (n : ℕ) → Stays (is_step_to R step n) (is_step_to Q step n)
step_to_stays R Q x step k n = bind_stays _ _ _ _ (x.axis axis.Parent test.Any n) (λ above. below_stays R Q x step k n (first_of above))

by_ids_stays : (R Q : Reading) → Extends R Q → (ids : List ℕ) (n : ℕ) → Stays (is_found_by_ids R ids n) (is_found_by_ids Q ids n)
by_ids_stays R Q x ids n = bind_stays _ _ _ _ x.whole (λ shut. bind_stays _ _ _ _ (each_stays (λ id. R.by_id id) (λ id. Q.by_id id) (words ids) (λ id. x.by_id id)) (λ lists. refl))

by_key_stays : (R Q : Reading) → Extends R Q → (slot : Option ℕ) (value : List ℕ) (n : ℕ) → Stays (is_found_by_key R slot value n) (is_found_by_key Q slot value n)
by_key_stays R Q x None value n = refl
by_key_stays R Q x (Some key) value n = bind_stays _ _ _ _ (x.by_key key value) (λ nodes. refl)

pub starts_stay : (R Q : Reading) → Extends R Q → (s : PatternStart) (n : ℕ) → Stays (starts R s n) (starts Q s n)
starts_stay R Q x start.Relative n = refl
starts_stay R Q x start.Root n = refl
starts_stay R Q x start.Deep n = refl
starts_stay R Q x (start.Id ids) n = by_ids_stays R Q x ids n
starts_stay R Q x (start.Key name value) n = by_key_stays R Q x name.slot value n

abbrev pub AllFit : List MatchStep → Type 0
AllFit [] = ⊤
AllFit (step ∷ steps) = AllKeep step.predicates × AllFit steps

pub all_fit : (steps : List PatternStep) → AllFit (map match_step steps)
all_fit [] = tt
all_fit (step ∷ steps) = (step_keeps step.part, all_fit steps)

-- the steps are gone through from the last one
pub reversed_fit : (steps done : List MatchStep) → AllFit steps → AllFit done → AllFit (reverse_aux steps done)
reversed_fit [] done k d = d
reversed_fit (step ∷ steps) done k d = reversed_fit steps (step ∷ done) k.1 (k.0, d)
