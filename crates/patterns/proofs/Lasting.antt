-- Meanings of patterns keep what they tell.
use Rattle.std.proofs.Common.{◌≡◌, refl, subst, ℕ, List, [], ◌∷◌, length, map, take, Bool, true, false, Result}
use Rattle.doc_model.specs.declared.node_test.Test.{Test}
use Rattle.doc_model.specs.declared.node_test.Test.TheVariants as test
use Rattle.doc_model.specs.declared.row.Axis.TheVariants as axis
use Rattle.doc_model.specs.Answers.{Stays}
use Rattle.doc_model.specs.View.{Seen}
use Rattle.key_sources.specs.Going.{Lookups, Made, Says}
use Rattle.key_sources.proofs.Saying.{Keeps}
use Rattle.xpath_laws.proofs.Expressions.{expr_keeps, step_keeps}
use Rattle.xpath_laws.proofs.Matching.{path_match_stays}
use Rattle.xpath_laws.proofs.Staying.{bind_stays, if_stays, kept_stays}
use Rattle.xpath_meaning.specs.declared.context.Size.{Size}
use Rattle.xpath_meaning.specs.declared.stop.EvalStop.{EvalStop}
use Rattle.xpath_meaning.specs.Evaluation.{meant}
use Rattle.xpath_meaning.specs.Match.{MatchStep, match_step, beside, says, is_step_to, starts, match_path}
use Rattle.xpath_meaning.specs.Outcome.{Outcome, kept_from}
use Rattle.xpath_meaning.specs.Reading.{Reading, Extends}
use Rattle.xpath_syntax.specs.declared.expression.Expr.{Expr}
use Rattle.xpath_syntax.specs.declared.pattern.PatternPath.{PatternPath}
use Rattle.xpath_syntax.specs.declared.pattern.PatternStart.{PatternStart}
use Rattle.xpath_syntax.specs.declared.pattern.PatternStep.{PatternStep}
use Rattle.patterns.specs.Trials.{steps_left, turn_behind, turn_of}
use Rattle.patterns.proofs.Parts.{beside_stays, says_stays, step_to_stays, starts_stay, AllFit, all_fit, reversed_fit}

pub keeps_path : (path : PatternPath) (n : ℕ) → Keeps (λ R. match_path R path n)
keeps_path path n = record { stays = λ R Q x. path_match_stays R Q x path n }

pub keeps_says : (size : Size) (predicate : Expr) (position n : ℕ) → Keeps (λ R. says R size (meant predicate) position n)
keeps_says size predicate position n = record { stays = λ R Q x. says_stays R Q x size (meant predicate) (expr_keeps predicate) position n }

pub keeps_kept : (size : Size) (predicate : Expr) (nodes : List ℕ) → Keeps (λ R. kept_from 1 (says R size (meant predicate)) nodes)
keeps_kept size predicate nodes = record { stays = λ R Q x. kept_stays 1 _ _ nodes (says_stays R Q x size (meant predicate) (expr_keeps predicate)) }

pub keeps_beside : (attribute whole : Bool) (test : Test) (above n : ℕ) → Keeps (λ R. beside attribute whole test R above n)
keeps_beside attribute whole test above n = record { stays = λ R Q x. beside_stays attribute whole test R Q x above n }

pub keeps_step : (step : PatternStep) (n : ℕ) → Keeps (λ R. is_step_to R (match_step step) n)
keeps_step step n = record { stays = λ R Q x. step_to_stays R Q x (match_step step) (step_keeps step.part) n }

pub keeps_starts : (start : PatternStart) (n : ℕ) → Keeps (λ R. starts R start n)
keeps_starts start n = record { stays = λ R Q x. starts_stay R Q x start n }

behind_stays : (R Q : Reading) → Extends R Q → (deep : Bool) (count n : ℕ) → Stays (turn_behind R deep count n) (turn_behind Q deep count n)
behind_stays R Q x true count n = refl
behind_stays R Q x false count n = bind_stays _ _ _ _ (x.axis axis.Parent test.Any n) (λ above. refl)

turn_stays : (R Q : Reading) → Extends R Q → (start : PatternStart) (steps : List MatchStep) → AllFit steps → (n : ℕ) → Stays (turn_of R start steps n) (turn_of Q start steps n)
turn_stays R Q x start [] k n = bind_stays _ _ _ _ (starts_stay R Q x start n) (λ here. refl)
turn_stays R Q x start (step ∷ steps) k n = bind_stays _ _ _ _ (step_to_stays R Q x step k.0 n) (λ here. if_stays here _ _ _ _ (behind_stays R Q x step.deep (length steps) n) refl)

pub keeps_turn : (path : PatternPath) (count n : ℕ) → Keeps (λ R. turn_of R path.start (steps_left path.parts count) n)
keeps_turn path count n = record {
  stays = λ R Q x. turn_stays R Q x path.start (steps_left path.parts count) (reversed_fit (map match_step (take count path.parts)) [] (all_fit (take count path.parts)) tt) n;
}

-- what a call says, in the words of the source as it was made
pub told : {M N A : Type 0} {s t : Seen M} {made now : Made N} {means : Reading → Outcome A} {result : Result A EvalStop} → now ≡ made → Says now.lookups means s t result
    → Says made.lookups means s t result
told {s = s} {t} {made} {now} {means} {result} e a = subst (λ (m : Made _). Says m.lookups means s t result) e a

-- what a look-up says, in the words of the string itself
pub key_said : {M : Type 0} {s t : Seen M} {lookups : Lookups} {key : ℕ} {value text : List ℕ} {result : Result (List ℕ) EvalStop} → text ≡ value → Says lookups (λ R. R.by_key key text) s t result
    → Says lookups (λ R. R.by_key key value) s t result
key_said {s = s} {t} {lookups} {key} {value} {text} {result} e a = subst (λ (x : List ℕ). Says lookups (λ R. R.by_key key x) s t result) e a
