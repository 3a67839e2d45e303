-- What may be evaluated may be so later, and what calls tell is there.
use Rattle.std.proofs.Common.{◌≡◌, subst, ℕ, List, Result, Ok}
use Rattle.doc_model.specs.View.{Seen, Moves}
use Rattle.key_sources.specs.Going.{Lookups, Made, Fits, Says, Went}
use Rattle.key_sources.proofs.Saying.{FitsOn, stands_on}
use Rattle.xpath_core.specs.Ready.{IsReady}
use Rattle.xpath_laws.specs.Sound.{Tells, IsThere, IsOpen, IsValue, AllValues, IsContext}
use Rattle.xpath_laws.proofs.Sounding.{Sound}
use Rattle.xpath_laws.proofs.There.{reading_told}
use Rattle.xpath_meaning.specs.declared.context.Context.{Context}
use Rattle.xpath_meaning.specs.declared.context.Size.{Size}
use Rattle.xpath_meaning.specs.Meanings.{Meaning, at_node}
use Rattle.xpath_meaning.specs.Outcome.{Outcome}
use Rattle.xpath_meaning.specs.Reading.{Reading}
use Rattle.xpath_meaning.specs.declared.stop.EvalStop.{EvalStop}
use Rattle.xpath_nodes.proofs.Holding.{each_weaker, there_on, all_there_on}
use Rattle.xpath_values.specs.declared.value.Value.{Value}
use Rattle.xpath_values.specs.declared.value.Value.TheVariants.{Nodes, Atom, Fragment}

pub value_on : {M : Type 0} (s t : Seen M) (v : Value) → Moves s t → IsValue (IsThere s.rules s.steps) v → IsValue (IsThere t.rules t.steps) v
value_on s t (Nodes nodes) m a = (a.0, all_there_on s t nodes m a.1)
value_on s t (Atom atom) m a = tt
value_on s t (Fragment events) m a = tt

values_on : {M : Type 0} (s t : Seen M) (values : List Value) → Moves s t → AllValues (IsThere s.rules s.steps) values → AllValues (IsThere t.rules t.steps) values
values_on s t values m a = each_weaker (IsValue (IsThere s.rules s.steps)) (IsValue (IsThere t.rules t.steps)) values (λ v h. value_on s t v m h) a

context_on : {M : Type 0} (s t : Seen M) (c : Context) → Moves s t → IsContext (IsThere s.rules s.steps) c → IsContext (IsThere t.rules t.steps) c
context_on s t c m h = record { node = there_on s t c.node m h.node; current = there_on s t c.current m h.current }

-- behind a call
pub ready_on : {M N : Type 0} {s t : Seen M} {made now : Made N} {fits later : Fits} {values : List Value} {c : Context} → IsReady s fits values c → Went s t made now later → IsReady t later values c
ready_on {s = s} {t} {values = values} {c} r w = record { stands = w.stands; values = values_on s t values w.moves r.values; context = context_on s t c w.moves r.context }

-- behind a call on the view alone
pub ready_moves : {M : Type 0} {s t : Seen M} {fits : Fits} {values : List Value} {c : Context} → FitsOn fits → Moves s t → IsReady s fits values c → IsReady t fits values c
ready_moves {s = s} {t} {values = values} {c} on m r = record { stands = stands_on on m r.stands; values = values_on s t values m r.values; context = context_on s t c m r.context }

-- at another node
pub ready_at : {M : Type 0} {s : Seen M} {fits : Fits} {values : List Value} {c : Context} (size : Size) (position n : ℕ) → IsThere s.rules s.steps n → IsReady s fits values c
    → IsReady s fits values (at_node c size position n)
ready_at size position n h r = record { stands = r.stands; values = r.values; context = record { node = h; current = r.context.current } }

-- what is told of what is known
pub told_there : {M A : Type 0} {s t : Seen M} {fits : Fits} {values : List Value} {c : Context} {lookups : Lookups} {x : A} (V : A → Type 0) (means : Meaning (Outcome A))
    → Sound (IsThere t.rules t.steps) (IsOpen t.steps) V means → IsReady t fits values c → Says lookups (λ R. means R values c) s t (Ok x) → V x
told_there {t = t} {values = values} {c} {lookups} V means sound r a =
    subst (Tells (IsOpen t.steps) V) a.answers
    (sound _ values c (record { reading = reading_told t.rules lookups.keys lookups.id t.steps; bound = r.values; context = r.context }))

-- what a call says, by what the source was made for at first
pub told_by : {M N A : Type 0} {s t : Seen M} {made now : Made N} {means : Reading → Outcome A} {result : Result A EvalStop} → now ≡ made → Says now.lookups means s t result
    → Says made.lookups means s t result
told_by {s = s} {t} {means = means} {result} e a = subst (λ (m : Made _). Says m.lookups means s t result) e a

-- in the context that was made
pub told_at : {M A : Type 0} {lookups : Lookups} {s t : Seen M} {values : List Value} {c at : Context} {result : Result A EvalStop} (means : Meaning (Outcome A)) → at ≡ c
    → Says lookups (λ R. means R values at) s t result → Says lookups (λ R. means R values c) s t result
told_at {lookups = lookups} {s} {t} {values} {result = result} means h a = subst (λ x. Says lookups (λ R. means R values x) s t result) h a

-- of the list that was given
pub told_of : {M A X : Type 0} {lookups : Lookups} {s t : Seen M} {x y : X} {result : Result A EvalStop} (means : X → Reading → Outcome A) → x ≡ y
    → Says lookups (means x) s t result → Says lookups (means y) s t result
told_of {lookups = lookups} {s} {t} {result = result} means h a = subst (λ z. Says lookups (means z) s t result) h a
