-- How questions that are asked one after the other answer as one question does.
use Rattle.std.proofs.Common.{◌≡◌, refl, sym, ap, ◌∙◌, subst, ℕ, List, [], ◌∷◌, Result, Ok, Err}
use Rattle.std.specs.Prelude.{IsErrAnd}
use Rattle.std.specs.Result.{result_map_both}
use Rattle.copy_meaning.proofs.Lasting.{copy_lasts}
use Rattle.doc_laws.proofs.Calls.{after_moves, as_means, first_stops, then_answers}
use Rattle.doc_laws.proofs.Growth.{Grows-refl}
use Rattle.doc_laws.proofs.Moving.{moves_none, moves_on}
use Rattle.doc_model.specs.Answers as answer
use Rattle.doc_model.specs.Answers.{Lasts, Stays}
use Rattle.doc_model.specs.Lawful.{Grows, IsLawful}
use Rattle.doc_model.specs.View.{Seen, Moves}
use Rattle.doc_model.specs.declared.step.Step.{Step}
use Rattle.doc_model.specs.declared.strip_rule.StripRule.{StripRule}
use Rattle.engine_laws.specs.Growing.{Continues}
use Rattle.engine_meaning.specs.Places.{World}
use Rattle.engine_questions.proofs.Staying.{there_stays, worlds_continue}
use Rattle.engine_questions.specs.Asking.{Asked, IsNode, IsReady, Kept, Shows, world_by}
use Rattle.key_sources.proofs.Values.{value_lasts}
use Rattle.key_sources.specs.Going.{Fits, Gives, Lookups, Stands}
use Rattle.xpath_laws.proofs.Reading.{reading_extends}
use Rattle.xpath_laws.specs.Sound.{AllValues, Each, IsContext, IsThere, IsValue}
use Rattle.xpath_meaning.specs.declared.context.Context.{Context}
use Rattle.xpath_meaning.specs.declared.stop.EvalStop.{EvalStop}
use Rattle.xpath_meaning.specs.declared.stop.EvalStop.TheVariants.{NotYet, Fault, Memory}
use Rattle.xpath_meaning.specs.Outcome.{Outcome, ◌>>=◌}
use Rattle.xpath_meaning.specs.Stops.{stop_of}
use Rattle.xpath_values.specs.declared.value.Value.{Value}
use Rattle.xpath_values.specs.declared.value.Value.TheVariants.{Nodes, Atom, Fragment}

-- what is seen of some steps is seen of every lawful growth
pub world_goes_on : (lookups : Lookups) (rules : List StripRule) (before later : List Step) → Grows before later → IsLawful later
    → Continues (world_by lookups rules before) (world_by lookups rules later)
world_goes_on lookups rules before later g l =
    worlds_continue lookups rules before later (reading_extends value_lasts rules lookups.keys lookups.id before later g l) (λ n. (copy_lasts rules n).stays before later g l)

-- ---- what is ready stays ready

pub there_on : {M : Type 0} (s t : Seen M) (n : ℕ) → Moves s t → IsThere s.rules s.steps n → IsThere t.rules t.steps n
there_on s t n m w = subst (λ rules. IsThere rules t.steps n) (sym m.rules_stay) (there_stays s.rules s.steps t.steps n m.grows w)

each_weaker : {A : Type 0} (T U : A → Type 0) (xs : List A) → ((x : A) → T x → U x) → Each T xs → Each U xs
each_weaker T U [] h a = tt
each_weaker T U (x ∷ xs) h a = (h x a.0, each_weaker T U xs h a.1)

value_on : {M : Type 0} (s t : Seen M) (v : Value) → Moves s t → IsValue (IsThere s.rules s.steps) v → IsValue (IsThere t.rules t.steps) v
value_on s t (Nodes nodes) m a = (a.0, each_weaker (IsThere s.rules s.steps) (IsThere t.rules t.steps) nodes (λ n w. there_on s t n m w) a.1)
value_on s t (Atom atom) m a = tt
value_on s t (Fragment events) m a = tt

pub values_on : {M : Type 0} (s t : Seen M) (values : List Value) → Moves s t → AllValues (IsThere s.rules s.steps) values → AllValues (IsThere t.rules t.steps) values
values_on s t values m a = each_weaker (IsValue (IsThere s.rules s.steps)) (IsValue (IsThere t.rules t.steps)) values (λ v h. value_on s t v m h) a

pub context_on : {M : Type 0} (s t : Seen M) (c : Context) → Moves s t → IsContext (IsThere s.rules s.steps) c → IsContext (IsThere t.rules t.steps) c
context_on s t c m h = record { node = there_on s t c.node m h.node; current = there_on s t c.current m h.current }

-- behind a question
pub ready_on : {M N : Type 0} {s t : Seen M} {asked now : Asked N} {fits later : Fits} {values : List Value} {c : Context} → IsReady s fits values c → Kept s t asked now later
    → IsReady t later values c
ready_on {s = s} {t} {values = values} {c} r k = record { stands = k.stands; values = values_on s t values k.moves r.values; context = context_on s t c k.moves r.context }

-- the same of a node
pub node_on : {M N : Type 0} {s t : Seen M} {asked now : Asked N} {fits later : Fits} {n : ℕ} → IsNode s fits n → Kept s t asked now later → IsNode t later n
node_on {s = s} {t} {n = n} r k = record { stands = k.stands; there = there_on s t n k.moves r.there }

-- ---- what is kept

-- where nothing is asked
pub kept_none : {M N : Type 0} {s : Seen M} {asked : Asked N} {fits : Fits} → Stands s fits → Kept s s asked asked fits
kept_none {s = s} {asked} w = record { moves = moves_none s w.seen; stays = refl; stands = w; goes_on = λ steps g l. world_goes_on asked.lookups s.rules s.steps steps g l }

pub kept_twice : {M N : Type 0} {s t u : Seen M} {asked now then : Asked N} {fits later : Fits} → Kept s t asked now fits → Kept t u now then later → Kept s u asked then later
kept_twice {s = s} {t} {u} {asked} j k = record {
  moves = moves_on s t u j.moves k.moves;
  stays = k.stays ∙ j.stays;
  stands = k.stands;
  goes_on = λ steps g l. world_goes_on asked.lookups u.rules u.steps steps g l;
}

-- ---- meanings that stay

-- what is known or a fault in a world is so in every world that continues it
pub record IsStable {A : Type 0} (means : World → Outcome A) : Type 0 where
  pub stays : (w v : World) → Continues w v → Stays (means w) (means v)

lasts : {A : Type 0} (means : World → Outcome A) → IsStable means → (lookups : Lookups) (rules : List StripRule) → Lasts (λ steps. means (world_by lookups rules steps))
lasts means k lookups rules = record { stays = λ p q g l. k.stays _ _ (world_goes_on lookups rules p q g l) }

-- ---- what questions show

-- the same meaning in other words
pub shows_same : {M A : Type 0} {lookups : Lookups} {means other : World → Outcome A} {s t : Seen M} {result : Result A EvalStop} → ((w : World) → other w ≡ means w)
    → Shows lookups means s t result → Shows lookups other s t result
shows_same {lookups = lookups} {means} {other} {s} {t} {result} e a = record {
  answers = as_means stop_of (λ rules steps. means (world_by lookups rules steps)) (λ rules steps. other (world_by lookups rules steps)) s t result
      (λ rules steps. e (world_by lookups rules steps)) a.answers;
}

-- of a question that is asked behind others, by what nodes could be found at first
pub shows_after : {M N A : Type 0} {asked now : Asked N} {fits : Fits} {means : World → Outcome A} {s t u : Seen M} {result : Result A EvalStop} → Kept s t asked now fits
    → Shows now.lookups means t u result → Shows asked.lookups means s u result
shows_after {asked = asked} {now} {means = means} {s} {t} {u} {result} k a = record {
  answers = after_moves stop_of (λ rules steps. means (world_by asked.lookups rules steps)) s t u result k.moves
      (subst (λ (x : Asked _). Shows x.lookups means t u result) k.stays a).answers;
}

-- the answer of the first question is known, and stays so while the second is asked
pub shows_then : {M N A B : Type 0} {asked now then : Asked N} {fits later : Fits} {means : World → Outcome A} {s t u : Seen M} {x : A} {result : Result B EvalStop} (rest : World → A → Outcome B)
    → IsStable means → Kept s t asked now fits → Shows asked.lookups means s t (Ok x) → Kept t u now then later → Shows now.lookups (λ w. rest w x) t u result
    → Shows asked.lookups (λ w. means w >>= rest w) s u result
shows_then {asked = asked} {now} {means = means} {s} {t} {u} {x} {result} rest k j a n b = record {
  answers = then_answers stop_of (λ rules steps. means (world_by asked.lookups rules steps)) (λ rules steps. rest (world_by asked.lookups rules steps)) s t u x result
      (lasts means k asked.lookups) j.moves n.moves a.answers (subst (λ (y : Asked _). Shows y.lookups (λ w. rest w x) t u result) j.stays b).answers;
}

-- the first question stops, and so does the whole
pub shows_stops : {M A B : Type 0} {lookups : Lookups} {means : World → Outcome A} {s t : Seen M} {e : EvalStop} (rest : World → A → Outcome B)
    → Shows {A = A} lookups means s t (Err e) → Shows {A = B} lookups (λ w. means w >>= rest w) s t (Err e)
shows_stops {lookups = lookups} {means} {s} {t} {e} rest a = record {
  answers = first_stops stop_of (λ rules steps. means (world_by lookups rules steps)) (λ rules steps. rest (world_by lookups rules steps)) s t e a.answers;
}

-- the exit of a `?`
pub shows_exit : {M A : Type 0} {lookups : Lookups} {means : World → Outcome A} {s t : Seen M} {e : EvalStop} (result : Result A EvalStop) → IsErrAnd result (λ d. d ≡ e)
    → Shows lookups means s t (Err e) → Shows lookups means s t result
shows_exit {lookups = lookups} {means} {s} {t} (Err d) is a = subst (λ d. Shows lookups means s t (Err d)) (sym is) a
shows_exit (Ok x) is a = absurd is

-- the same where the answer is told by what was written
pub shows_exit_written : {M A B : Type 0} {lookups : Lookups} {means : World → Outcome A} {s t : Seen M} {e : EvalStop} (written : B → A) (result : Result B EvalStop) → IsErrAnd result (λ d. d ≡ e)
    → Shows {A = A} lookups means s t (Err e) → Shows lookups means s t (result_map_both written (λ stop. stop) result)
shows_exit_written {lookups = lookups} {means} {s} {t} written (Err d) is a = subst (λ d. Shows lookups means s t (Err d)) (sym is) a
shows_exit_written written (Ok x) is a = absurd is

-- want of memory
pub shows_memory : {M A : Type 0} {lookups : Lookups} {means : World → Outcome A} {s t : Seen M} → Shows lookups means s t (Err Memory)
shows_memory = record { answers = tt }

-- what is known in every world
pub shows_known : {M A : Type 0} {lookups : Lookups} {means : World → Outcome A} {s t : Seen M} {x : A} → ((w : World) → means w ≡ answer.Known x) → Shows lookups means s t (Ok x)
shows_known {lookups = lookups} {t = t} e = record { answers = e (world_by lookups t.rules t.steps) }

-- a part that sees no document
pub shows_given : {M A : Type 0} {lookups : Lookups} {s t : Seen M} (outcome : Outcome A) (result : Result A EvalStop) → Moves s t → Gives outcome result → Shows lookups (λ w. outcome) s t result
shows_given outcome (Ok x) m e = record { answers = e }
shows_given outcome (Err (Fault fault)) m e = record { answers = e }
shows_given {s = s} outcome (Err (NotYet k)) m e = record { answers = (s.steps, Grows-refl s.steps, m.grows, e) }
shows_given outcome (Err Memory) m e = record { answers = tt }

-- the answer of a question is known, and what is made of it sees no document
pub shows_then_given : {M A B : Type 0} {lookups : Lookups} {means : World → Outcome A} {s t : Seen M} {x : A} (rest : A → Outcome B) (result : Result B EvalStop) → Moves s t
    → Shows lookups means s t (Ok x) → Gives (rest x) result → Shows lookups (λ w. means w >>= rest) s t result
shows_then_given rest (Ok y) m a e = record { answers = ap (λ o. o >>= rest) a.answers ∙ e }
shows_then_given rest (Err (Fault fault)) m a e = record { answers = ap (λ o. o >>= rest) a.answers ∙ e }
shows_then_given {t = t} rest (Err (NotYet k)) m a e = record { answers = (t.steps, m.grows, Grows-refl t.steps, ap (λ o. o >>= rest) a.answers ∙ e) }
shows_then_given rest (Err Memory) m a e = record { answers = tt }

-- ---- loops over questions: whatever is answered of what is left, the call answers of the whole

pub record Leaves {M A : Type 0} (lookups : Lookups) (s t : Seen M) (left whole : World → Outcome A) : Type 0 where
  pub rest : (u : Seen M) (result : Result A EvalStop) → Moves t u → Shows lookups left t u result → Shows lookups whole s u result

pub leaves_start : {M A : Type 0} {lookups : Lookups} {s : Seen M} {left whole : World → Outcome A} → ((w : World) → whole w ≡ left w) → Leaves lookups s s left whole
leaves_start e = record { rest = λ u result n a. shows_same e a }

-- what is left in other words
pub leaves_same : {M A : Type 0} {lookups : Lookups} {s t : Seen M} {left other whole : World → Outcome A} → ((w : World) → left w ≡ other w) → Leaves lookups s t left whole
    → Leaves lookups s t other whole
leaves_same e l = record { rest = λ u result n a. l.rest u result n (shows_same e a) }

-- a part is known
pub leaves_on : {M N A B : Type 0} {asked now then : Asked N} {fits later : Fits} {s t u : Seen M} {left whole : World → Outcome A} {means : World → Outcome B} {x : B}
    (next : World → B → Outcome A) → Leaves asked.lookups s t left whole → ((w : World) → left w ≡ (means w >>= next w)) → IsStable means → Kept s t asked now fits → Kept t u now then later
    → Shows now.lookups means t u (Ok x) → Leaves asked.lookups s u (λ w. next w x) whole
leaves_on {asked = asked} {now} {s = s} {t} {u} {means = means} {x} next l e k j n a = record {
  rest = λ v result m b. l.rest v result (moves_on t u v n.moves m) (shows_same e (record {
    answers = then_answers stop_of (λ rules steps. means (world_by asked.lookups rules steps)) (λ rules steps. next (world_by asked.lookups rules steps)) t u v x result
        (lasts means k asked.lookups) n.moves m (subst (λ (y : Asked _). Shows y.lookups means t u (Ok x)) j.stays a).answers b.answers;
  }));
}

-- a part stops
pub leaves_stops : {M N A B : Type 0} {asked now then : Asked N} {fits later : Fits} {s t u : Seen M} {left whole : World → Outcome A} {means : World → Outcome B} {e : EvalStop}
    (next : World → B → Outcome A) → Leaves asked.lookups s t left whole → ((w : World) → left w ≡ (means w >>= next w)) → Kept s t asked now fits → Kept t u now then later
    → Shows {A = B} now.lookups means t u (Err e) → Shows {A = A} asked.lookups whole s u (Err e)
leaves_stops {asked = asked} {now} {t = t} {u} {means = means} {e} next l h j n a =
    l.rest u (Err e) n.moves (shows_same h (shows_stops next (subst (λ (y : Asked _). Shows y.lookups means t u (Err e)) j.stays a)))

pub leaves_end : {M A : Type 0} {lookups : Lookups} {s t u : Seen M} {left whole : World → Outcome A} {x : A} → Leaves lookups s t left whole → Moves t u
    → ((w : World) → left w ≡ answer.Known x) → Shows lookups whole s u (Ok x)
leaves_end {u = u} {x = x} l m e = l.rest u (Ok x) m (shows_known e)
