-- Calls on a view, in the words of readings.
use Rattle.std.proofs.Common.{◌≡◌, refl, sym, ap, ◌∙◌, subst, ℕ, List, [], ◌++◌, Result, Ok, Err, None, length, cond}
use Rattle.std.proofs.lemmas.Bool.{lt-ltb}
use Rattle.doc_model.specs.declared.ask.Ask.{Ask}
use Rattle.doc_model.specs.declared.ask.Ask.TheVariants as ask
use Rattle.doc_model.specs.declared.node_test.Test.{Test}
use Rattle.doc_model.specs.declared.row.Axis.{Axis}
use Rattle.doc_model.specs.declared.step.Step.{Step}
use Rattle.doc_model.specs.declared.strip_rule.StripRule.{StripRule}
use Rattle.doc_model.specs.Answers.{Answer, Known, Fault, Open, with_faults, Answers}
use Rattle.doc_model.specs.Asks as asks
use Rattle.doc_model.specs.Axes.{axis_of}
use Rattle.doc_model.specs.Lawful.{IsJoined}
use Rattle.doc_model.specs.Rows.{rows_of, row_at}
use Rattle.doc_model.specs.Values.{string_value_of}
use Rattle.doc_model.specs.View.{Seen}
use Rattle.fault_kinds.specs.declared.fault.FaultKind.{FaultKind}
use Rattle.string_values.specs.Appended.{appended_to}
use Rattle.xpath_meaning.specs.declared.stop.EvalStop.{EvalStop}
use Rattle.xpath_meaning.specs.Outcome.{Outcome}
use Rattle.xpath_meaning.specs.Reading.{Reading}
use Rattle.xpath_meaning.specs.Readings.{reading_of, row_so_far}
use Rattle.key_sources.specs.Going.{Lookups, reading_by, Says}
use Rattle.xpath_laws.specs.Sound.{Tells, Each, IsThere, IsOpen}
use Rattle.xpath_laws.proofs.There.{reading_told}
use Rattle.xpath_nodes.specs.Stopping.{stop_for}

-- a call on a view that gives a value
pub says_asked : {M A : Type 0} {lookups : Lookups} {means : Reading → Outcome A} {s t : Seen M} (at : List StripRule → List Step → Answer ⊥ A) (x y : A)
    → ((rules : List StripRule) (steps : List Step) → means (reading_by lookups rules steps) ≡ with_faults (at rules steps)) → y ≡ x → Answers {E = Ask} asks.stop_of at s t (Ok x)
    → Says lookups means s t (Ok y)
says_asked {t = t} at x y e h a = record { answers = e t.rules t.steps ∙ ap with_faults a ∙ ap Known (sym h) }

unasked : {M A : Type 0} {lookups : Lookups} {means : Reading → Outcome A} {s t : Seen M} (at : List StripRule → List Step → Answer ⊥ A) (why : Ask)
    → ((rules : List StripRule) (steps : List Step) → means (reading_by lookups rules steps) ≡ with_faults (at rules steps)) → Answers {A = A} asks.stop_of at s t (Err why)
    → Says lookups means s t (Err (stop_for why))
unasked {t = t} at (ask.NotYet m) e a = record { answers = (a.0, a.1, a.2, e t.rules (a.0) ∙ ap with_faults a.3) }
unasked at ask.Memory e a = record { answers = tt }

-- one that stops
pub says_unasked : {M A : Type 0} {lookups : Lookups} {means : Reading → Outcome A} {s t : Seen M} (at : List StripRule → List Step → Answer ⊥ A) (why : Ask) (stop : EvalStop)
    → ((rules : List StripRule) (steps : List Step) → means (reading_by lookups rules steps) ≡ with_faults (at rules steps)) → stop ≡ stop_for why
    → Answers {A = A} asks.stop_of at s t (Err why) → Says lookups means s t (Err stop)
says_unasked {lookups = lookups} {means} {s} {t} at why stop e h a = subst (λ d. Says lookups means s t (Err d)) (sym h) (unasked at why e a)

pub axis_is : (lookups : Lookups) (rules : List StripRule) (steps : List Step) (axis : Axis) (test : Test) (n : ℕ)
    → (reading_by lookups rules steps).axis axis test n ≡ with_faults (axis_of rules steps n axis test)
unfolding reading_of
axis_is lookups rules steps axis test n = refl

none_before : (bytes : List ℕ) → bytes ≡ [] → (a : Answer ⊥ (List ℕ)) → a ≡ appended_to bytes a
none_before bytes e (Known v) = ap (λ b. Known (b ++ v)) (sym e)
none_before bytes e (Fault f) = refl
none_before bytes e (Open m) = refl

-- the string-value behind no bytes
pub value_is : (lookups : Lookups) (rules : List StripRule) (steps : List Step) (n : ℕ) (bytes : List ℕ) → bytes ≡ []
    → (reading_by lookups rules steps).value n ≡ with_faults (appended_to bytes (string_value_of rules steps n))
unfolding reading_of
value_is lookups rules steps n bytes e = ap with_faults (none_before bytes e (string_value_of rules steps n))

pub row_is : (lookups : Lookups) (rules : List StripRule) (steps : List Step) (n : ℕ) → IsJoined steps n → (reading_by lookups rules steps).row n ≡ Known (row_at (rows_of steps) n)
unfolding reading_of
row_is lookups rules steps n j = ap (λ b. cond b (Known (row_at (rows_of steps) n)) (Open n)) (lt-ltb n (length (rows_of steps)) j)

-- the nodes of an axis are there
pub axis_held : {M : Type 0} {lookups : Lookups} {s t : Seen M} {nodes : List ℕ} (axis : Axis) (test : Test) (n : ℕ) → IsThere t.rules t.steps n
    → Says lookups (λ R. R.axis axis test n) s t (Ok nodes) → Each (IsThere t.rules t.steps) nodes
axis_held {lookups = lookups} {t = t} axis test n w a =
    subst (Tells (IsOpen t.steps) (Each (IsThere t.rules t.steps))) a.answers ((reading_told t.rules lookups.keys lookups.id t.steps).axis axis test n w)

-- some way to find nodes, where it does not matter which
abbrev pub any_lookups : Lookups
any_lookups = record { keys = []; id = None }
