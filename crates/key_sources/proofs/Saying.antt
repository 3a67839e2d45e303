-- How what calls say makes what a call above them says.
use Rattle.std.proofs.Common.{◌≡◌, refl, sym, ap, ◌∙◌, subst, ℕ, List, Result, Ok, Err}
use Rattle.std.specs.Prelude.{IsErrAnd}
use Rattle.doc_model.specs.declared.node_test.Test.{Test}
use Rattle.doc_model.specs.declared.row.Axis.{Axis}
use Rattle.doc_model.specs.declared.step.Step.{Step}
use Rattle.doc_model.specs.declared.strip_rule.StripRule.{StripRule}
use Rattle.doc_model.specs.Answers as answer
use Rattle.doc_model.specs.Answers.{Stays, Lasts}
use Rattle.doc_model.specs.Lawful.{Grows, IsLawful}
use Rattle.doc_model.specs.View.{Seen, Moves}
use Rattle.doc_laws.proofs.Calls.{after_moves, before_moves, first_stops, then_answers, as_means}
use Rattle.doc_laws.proofs.Growth.{Grows-refl}
use Rattle.doc_laws.proofs.Moving.{moves_on, moves_none}
use Rattle.fault_kinds.specs.declared.fault.FaultKind.{FaultKind}
use Rattle.key_sources.proofs.Values.{value_lasts}
use Rattle.xpath_meaning.specs.declared.stop.EvalStop.{EvalStop}
use Rattle.xpath_meaning.specs.declared.stop.EvalStop.TheVariants.{NotYet, Fault, Memory}
use Rattle.xpath_meaning.specs.Outcome.{Outcome, ◌>>=◌}
use Rattle.xpath_meaning.specs.Reading.{Reading, Extends}
use Rattle.xpath_meaning.specs.Stops.{stop_of}
use Rattle.xpath_laws.proofs.Reading.{reading_extends}
use Rattle.xpath_laws.proofs.Staying.{bind_stays, stays}
use Rattle.key_sources.specs.Going.{Lookups, Made, reading_by, Fits, Stands, Went, Says, Gives}

-- ---- what a source and a view leave behind

-- a source fits what it fitted once the view went on
abbrev pub FitsOn : Fits → Type 0
FitsOn fits = (rules : List StripRule) (before later : List Step) → fits rules before → Grows before later → IsLawful later → fits rules later

pub stands_on : {M : Type 0} {s t : Seen M} {fits : Fits} → FitsOn fits → Moves s t → Stands s fits → Stands t fits
stands_on {s = s} {t} {fits} on m w = record {
  seen = m.seen;
  kept = subst (λ rules. fits rules t.steps) (sym m.rules_stay) (on s.rules s.steps t.steps w.kept m.grows m.seen.lawful);
}

pub went_none : {M N : Type 0} {s : Seen M} {made : Made N} {fits : Fits} → Stands s fits → Went s s made made fits
went_none {s = s} w = record { moves = moves_none s w.seen; stays = refl; stands = w }

pub went_moves : {M N : Type 0} {s t : Seen M} {made : Made N} {fits : Fits} → FitsOn fits → Moves s t → Stands s fits → Went s t made made fits
went_moves on m w = record { moves = m; stays = refl; stands = stands_on on m w }

pub went_on : {M N : Type 0} {s t u : Seen M} {made now then : Made N} {fits later : Fits} → Went s t made now fits → Went t u now then later → Went s u made then later
went_on v w = record { moves = moves_on _ _ _ v.moves w.moves; stays = w.stays ∙ v.stays; stands = w.stands }

-- ---- meanings that keep what they tell

-- what is known or a fault stays on every reading that tells more
pub record Keeps {A : Type 0} (means : Reading → Outcome A) : Type 0 where
  pub stays : (before later : Reading) → Extends before later → Stays (means before) (means later)

pub lasts : {A : Type 0} (means : Reading → Outcome A) → Keeps means → (lookups : Lookups) (rules : List StripRule) → Lasts (λ steps. means (reading_by lookups rules steps))
lasts means k lookups rules = record { stays = λ p q g h. k.stays _ _ (reading_extends value_lasts rules lookups.keys lookups.id p q g h) }

pub keeps_value : (n : ℕ) → Keeps (λ R. R.value n)
keeps_value n = record { stays = λ R Q x. x.value n }

pub keeps_row : (n : ℕ) → Keeps (λ R. R.row n)
keeps_row n = record { stays = λ R Q x. x.row n }

pub keeps_axis : (axis : Axis) (test : Test) (n : ℕ) → Keeps (λ R. R.axis axis test n)
keeps_axis axis test n = record { stays = λ R Q x. x.axis axis test n }

pub keeps_whole : Keeps (λ R. R.whole)
keeps_whole = record { stays = λ R Q x. x.whole }

pub keeps_key : (key : ℕ) (value : List ℕ) → Keeps (λ R. R.by_key key value)
keeps_key key value = record { stays = λ R Q x. x.by_key key value }

pub keeps_id : (value : List ℕ) → Keeps (λ R. R.by_id value)
keeps_id value = record { stays = λ R Q x. x.by_id value }

pub keeps_same : {A : Type 0} (outcome : Outcome A) → Keeps (λ R. outcome)
keeps_same outcome = record { stays = λ R Q x. stays outcome }

pub keeps_then : {A B : Type 0} {means : Reading → Outcome A} (rest : Reading → A → Outcome B) → Keeps means → ((a : A) → Keeps (λ R. rest R a)) → Keeps (λ R. means R >>= rest R)
keeps_then rest k h = record { stays = λ R Q x. bind_stays _ _ _ _ (k.stays R Q x) (λ a. (h a).stays R Q x) }

-- ---- what calls say

-- the same meaning in other words
pub says_as : {M A : Type 0} {lookups : Lookups} {means other : Reading → Outcome A} {s t : Seen M} {result : Result A EvalStop}
    → ((rules : List StripRule) (steps : List Step) → other (reading_by lookups rules steps) ≡ means (reading_by lookups rules steps)) → Says lookups means s t result → Says lookups other s t result
says_as {lookups = lookups} {means} {other} {s} {t} {result} e a = record {
  answers = as_means stop_of (λ rules steps. means (reading_by lookups rules steps)) (λ rules steps. other (reading_by lookups rules steps)) s t result e a.answers;
}

pub says_same : {M A : Type 0} {lookups : Lookups} {means other : Reading → Outcome A} {s t : Seen M} {result : Result A EvalStop} → ((R : Reading) → other R ≡ means R)
    → Says lookups means s t result → Says lookups other s t result
says_same {lookups = lookups} e a = says_as (λ rules steps. e (reading_by lookups rules steps)) a

-- a call that comes after others, and one that comes before others
pub says_after : {M A : Type 0} {lookups : Lookups} {means : Reading → Outcome A} {s t u : Seen M} {result : Result A EvalStop} → Moves s t → Says lookups means t u result
    → Says lookups means s u result
says_after {lookups = lookups} {means} {s} {t} {u} {result} m a = record { answers = after_moves stop_of (λ rules steps. means (reading_by lookups rules steps)) s t u result m a.answers }

pub says_before : {M A : Type 0} {lookups : Lookups} {means : Reading → Outcome A} {s t u : Seen M} {result : Result A EvalStop} → Keeps means → Moves t u
    → Says lookups means s t result → Says lookups means s u result
says_before {lookups = lookups} {means} {s} {t} {u} {result} k m a = record {
  answers = before_moves stop_of (λ rules steps. means (reading_by lookups rules steps)) s t u result (lasts means k lookups) m a.answers;
}

-- the first part is known, and stays so in the second
pub says_then : {M A B : Type 0} {lookups : Lookups} {means : Reading → Outcome A} {s t u : Seen M} {x : A} {result : Result B EvalStop} (rest : Reading → A → Outcome B)
    → Keeps means → Moves s t → Says lookups means s t (Ok x) → Moves t u → Says lookups (λ R. rest R x) t u result → Says lookups (λ R. means R >>= rest R) s u result
says_then {lookups = lookups} {means} {s} {t} {u} {x} {result} rest k m a n b = record {
  answers = then_answers stop_of (λ rules steps. means (reading_by lookups rules steps)) (λ rules steps. rest (reading_by lookups rules steps)) s t u x result
      (lasts means k lookups) m n a.answers b.answers;
}

-- the first part stops, and so does the whole
pub says_stops : {M A B : Type 0} {lookups : Lookups} {means : Reading → Outcome A} {s t : Seen M} {e : EvalStop} (rest : Reading → A → Outcome B)
    → Says {A = A} lookups means s t (Err e) → Says {A = B} lookups (λ R. means R >>= rest R) s t (Err e)
says_stops {lookups = lookups} {means} {s} {t} {e} rest a = record {
  answers = first_stops stop_of (λ rules steps. means (reading_by lookups rules steps)) (λ rules steps. rest (reading_by lookups rules steps)) s t e a.answers;
}

-- the exit of a `?`
pub says_exit : {M A : Type 0} {lookups : Lookups} {means : Reading → Outcome A} {s t : Seen M} {e : EvalStop} (result : Result A EvalStop) → IsErrAnd result (λ d. d ≡ e)
    → Says lookups means s t (Err e) → Says lookups means s t result
says_exit {lookups = lookups} {means} {s} {t} (Err d) is a = subst (λ d. Says lookups means s t (Err d)) (sym is) a
says_exit (Ok x) is a = absurd is

pub says_failed : {M A B : Type 0} {lookups : Lookups} {means : Reading → Outcome A} {s t : Seen M} {e : EvalStop} (rest : Reading → A → Outcome B) (result : Result B EvalStop)
    → IsErrAnd result (λ d. d ≡ e)
    → Says {A = A} lookups means s t (Err e) → Says lookups (λ R. means R >>= rest R) s t result
says_failed rest result is a = says_exit result is (says_stops rest a)

-- want of memory
pub says_memory : {M A : Type 0} {lookups : Lookups} {means : Reading → Outcome A} {s t : Seen M} → Says lookups means s t (Err Memory)
says_memory = record { answers = tt }

-- what is known on every reading
pub says_known : {M A : Type 0} {lookups : Lookups} {means : Reading → Outcome A} {s t : Seen M} {x : A} → ((R : Reading) → means R ≡ answer.Known x) → Says lookups means s t (Ok x)
says_known {lookups = lookups} {t = t} e = record { answers = e (reading_by lookups t.rules t.steps) }

pub says_fault : {M A : Type 0} {lookups : Lookups} {means : Reading → Outcome A} {s t : Seen M} {fault : FaultKind} → ((R : Reading) → means R ≡ answer.Fault fault)
    → Says lookups means s t (Err (Fault fault))
says_fault {lookups = lookups} {t = t} e = record { answers = e (reading_by lookups t.rules t.steps) }

-- a part that sees no document
pub says_given : {M A : Type 0} {lookups : Lookups} {s t : Seen M} (outcome : Outcome A) (result : Result A EvalStop) → Moves s t → Gives outcome result → Says lookups (λ R. outcome) s t result
says_given outcome (Ok x) m e = record { answers = e }
says_given outcome (Err (Fault fault)) m e = record { answers = e }
says_given {s = s} outcome (Err (NotYet k)) m e = record { answers = (s.steps, Grows-refl s.steps, m.grows, e) }
says_given outcome (Err Memory) m e = record { answers = tt }

-- the first part is known, and the second sees no document
pub says_then_given : {M A B : Type 0} {lookups : Lookups} {means : Reading → Outcome A} {s t : Seen M} {x : A} (rest : A → Outcome B) (result : Result B EvalStop) → Moves s t
    → Says lookups means s t (Ok x) → Gives (rest x) result → Says lookups (λ R. means R >>= rest) s t result
says_then_given rest (Ok y) m a e = record { answers = ap (λ o. o >>= rest) a.answers ∙ e }
says_then_given rest (Err (Fault fault)) m a e = record { answers = ap (λ o. o >>= rest) a.answers ∙ e }
says_then_given {t = t} rest (Err (NotYet k)) m a e = record { answers = (t.steps, m.grows, Grows-refl t.steps, ap (λ o. o >>= rest) a.answers ∙ e) }
says_then_given rest (Err Memory) m a e = record { answers = tt }

-- ---- what calls that see no document give

pub gives_stops : {A B : Type 0} (o : Outcome A) (rest : A → Outcome B) (e : EvalStop) → Gives {A = A} o (Err e) → Gives {A = B} (o >>= rest) (Err e)
gives_stops o rest (Fault fault) g = ap (λ o. o >>= rest) g
gives_stops o rest (NotYet m) g = ap (λ o. o >>= rest) g
gives_stops o rest Memory g = tt

pub gives_exit : {A : Type 0} (o : Outcome A) (result : Result A EvalStop) (e : EvalStop) → IsErrAnd result (λ d. d ≡ e) → Gives {A = A} o (Err e) → Gives o result
gives_exit o (Err d) e is g = subst (λ d. Gives o (Err d)) (sym is) g
gives_exit o (Ok x) e is g = absurd is

pub gives_same : {A : Type 0} (a b : Outcome A) (result : Result A EvalStop) → a ≡ b → Gives a result → Gives b result
gives_same a b result e g = subst (λ o. Gives o result) e g
