-- Loops over calls: whatever is answered of what is left, the call answers of the whole.
use Rattle.std.proofs.Common.{◌≡◌, sym, ◌∙◌, subst, List, Result, Ok, Err}
use Rattle.doc_model.specs.declared.step.Step.{Step}
use Rattle.doc_model.specs.Answers as answer
use Rattle.doc_model.specs.Lawful.{Grows, IsLawful}
use Rattle.doc_model.specs.View.{Seen, Moves}
use Rattle.doc_laws.proofs.Calls.{known_later}
use Rattle.doc_laws.proofs.Moving.{moves_on}
use Rattle.doc_laws.proofs.Root.{lawful_before}
use Rattle.xpath_meaning.specs.declared.stop.EvalStop.{EvalStop}
use Rattle.xpath_meaning.specs.declared.stop.EvalStop.TheVariants.{NotYet, Fault, Memory}
use Rattle.xpath_meaning.specs.Outcome.{Outcome, ◌>>=◌}
use Rattle.xpath_meaning.specs.Reading.{Reading}
use Rattle.xpath_meaning.specs.Stops.{stop_of}
use Rattle.key_sources.specs.Going.{Lookups, reading_by, Says, Gives}
use Rattle.key_sources.proofs.Saying.{Keeps, lasts, says_same, says_after, says_then, says_stops, says_known, says_given, says_memory}

pub record Leaves {M A : Type 0} (lookups : Lookups) (s t : Seen M) (left whole : Reading → Outcome A) : Type 0 where
  pub rest : (u : Seen M) (result : Result A EvalStop) → Moves t u → Says lookups left t u result → Says lookups whole s u result

pub leaves_start : {M A : Type 0} {lookups : Lookups} {s t : Seen M} {left whole : Reading → Outcome A} → Moves s t → ((R : Reading) → whole R ≡ left R) → Leaves lookups s t left whole
leaves_start m e = record { rest = λ u result n a. says_after m (says_same e a) }

-- what is left in other words
pub leaves_same : {M A : Type 0} {lookups : Lookups} {s t : Seen M} {left other whole : Reading → Outcome A} → ((R : Reading) → left R ≡ other R) → Leaves lookups s t left whole
    → Leaves lookups s t other whole
leaves_same e w = record { rest = λ u result n a. w.rest u result n (says_same e a) }

-- a part is known
pub leaves_on : {M A B : Type 0} {lookups : Lookups} {s t u : Seen M} {left whole : Reading → Outcome A} {means : Reading → Outcome B} {x : B} (next : Reading → B → Outcome A)
    → Leaves lookups s t left whole → ((R : Reading) → left R ≡ (means R >>= next R)) → Keeps means → Moves t u → Says lookups means t u (Ok x) → Leaves lookups s u (λ R. next R x) whole
leaves_on next w e k m a = record { rest = λ v result n b. w.rest v result (moves_on _ _ _ m n) (says_same e (says_then next k m a n b)) }

-- a part stops
pub leaves_stops : {M A B : Type 0} {lookups : Lookups} {s t u : Seen M} {left whole : Reading → Outcome A} {means : Reading → Outcome B} {e : EvalStop} (next : Reading → B → Outcome A)
    → Leaves lookups s t left whole → ((R : Reading) → left R ≡ (means R >>= next R)) → Moves t u → Says {A = B} lookups means t u (Err e) → Says {A = A} lookups whole s u (Err e)
leaves_stops {u = u} {e = e} next w h m a = w.rest u (Err e) m (says_same h (says_stops next a))

-- a part that sees no document stops
pub leaves_fails : {M A B : Type 0} {lookups : Lookups} {s t u : Seen M} {left whole : Reading → Outcome A} {e : EvalStop} (outcome : Outcome B) (next : Reading → B → Outcome A)
    → Leaves lookups s t left whole → ((R : Reading) → left R ≡ (outcome >>= next R)) → Moves t u → Gives outcome (Err e) → Says {A = A} lookups whole s u (Err e)
leaves_fails {e = e} outcome next w h m g = leaves_stops next w h m (says_given outcome (Err e) m g)

pub leaves_end : {M A : Type 0} {lookups : Lookups} {s t u : Seen M} {left whole : Reading → Outcome A} {x : A} → Leaves lookups s t left whole → Moves t u
    → ((R : Reading) → left R ≡ answer.Known x) → Says lookups whole s u (Ok x)
leaves_end {u = u} {x = x} w m e = w.rest u (Ok x) m (says_known e)

pub leaves_memory : {M A : Type 0} {lookups : Lookups} {s t u : Seen M} {left whole : Reading → Outcome A} → Leaves lookups s t left whole → Moves t u → Says {A = A} lookups whole s u (Err Memory)
leaves_memory {u = u} w m = w.rest u (Err Memory) m says_memory

-- while a part stays known, what is left may be said in words that hold where it is known
pub says_under : {M A B : Type 0} {lookups : Lookups} {means : Reading → Outcome A} {left other : Reading → Outcome B} {s t u : Seen M} {x : A} (result : Result B EvalStop)
    → Keeps means → Says lookups means s t (Ok x) → Moves t u → ((R : Reading) → means R ≡ answer.Known x → other R ≡ left R) → Says lookups left t u result → Says lookups other t u result
says_under {M = M} {A = A} {B = B} {lookups = lookups} {means} {left} {other} {s} {t} {u} {x} result k a m h b = record { answers = by result b.answers }
  where
    at : List Step → Reading
    at steps = reading_by lookups u.rules steps

    known : (steps : List Step) → Grows t.steps steps → IsLawful steps → means (at steps) ≡ answer.Known x
    known steps g l = known_later (λ p. means (at p)) t.steps steps x (lasts means k lookups u.rules) g l
        (subst (λ rules. means (reading_by lookups rules t.steps) ≡ answer.Known x) (sym m.rules_stay) a.answers)

    same : (steps : List Step) → Grows t.steps steps → IsLawful steps → other (at steps) ≡ left (at steps)
    same steps g l = h (at steps) (known steps g l)

    by : (r : Result B EvalStop) → answer.Answers stop_of (λ rules steps. left (reading_by lookups rules steps)) t u r
        → answer.Answers stop_of (λ rules steps. other (reading_by lookups rules steps)) t u r
    by (Ok y) e = same u.steps m.grows m.seen.lawful ∙ e
    by (Err (Fault fault)) e = same u.steps m.grows m.seen.lawful ∙ e
    by (Err (NotYet row)) e = (e.0, e.1, e.2, same (e.0) e.1 (lawful_before (e.0) u.steps e.2 m.seen.lawful) ∙ e.3)
    by (Err Memory) e = tt
