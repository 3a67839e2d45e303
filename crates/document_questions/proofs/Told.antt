-- What a document tells: nodes that are there, fewer than there are rows.
use Rattle.std.proofs.Common.{◌≡◌, sym, ap, ◌∙◌, subst, ℕ, suc, ◌+◌, ◌<◌, ◌≤◌, List, [], ◌∷◌, length, Bool, true, false, cond, arith, Result, Ok, Err, Option, Some, None}
use Rattle.std.proofs.lemmas.Bool.{lt-ltb}
use Rattle.std.specs.Prelude.{IfOk}
use Rattle.doc_laws.proofs.Selected.{axis_ascends}
use Rattle.doc_laws.specs.Ordered.{AscendsFrom}
use Rattle.doc_model.specs.Answers as answer
use Rattle.doc_model.specs.Answers.{with_faults, once_joined, once_shut}
use Rattle.doc_model.specs.Axes.{axis_rows, need_of}
use Rattle.doc_model.specs.Document.{is_open}
use Rattle.doc_model.specs.Lawful.{IsJoined, IsLawful}
use Rattle.doc_model.specs.Rows.{rows_of}
use Rattle.doc_model.specs.View.{Seen}
use Rattle.doc_model.specs.declared.node_test.Test.{Test}
use Rattle.doc_model.specs.declared.row.Axis.TheVariants as axis
use Rattle.doc_model.specs.declared.step.Step.{Step}
use Rattle.doc_model.specs.declared.strip_rule.StripRule.{StripRule}
use Rattle.fault_kinds.specs.declared.fault.FaultKind.{FaultKind}
use Rattle.key_sources.specs.Going.{Fits, Gives, Lookups, Made, Says, Went, reading_by}
use Rattle.xpath_core.proofs.Ready.{ready_on, told_there}
use Rattle.xpath_core.specs.Ready.{IsReady}
use Rattle.xpath_laws.proofs.There.{reading_told}
use Rattle.xpath_laws.proofs.Trees.{expr_sound}
use Rattle.xpath_laws.specs.Sound.{Each, IsNodeSet, IsOpen, IsThere, IsValue, Tells}
use Rattle.xpath_meaning.specs.declared.context.Context.{Context}
use Rattle.xpath_meaning.specs.declared.stop.EvalStop.{EvalStop}
use Rattle.xpath_meaning.specs.Conversions.{nodes_of}
use Rattle.xpath_meaning.specs.Evaluation.{evaluation_of, meant}
use Rattle.xpath_meaning.specs.Outcome.{Outcome}
use Rattle.xpath_meaning.specs.Readings.{reading_of}
use Rattle.xpath_syntax.specs.declared.expression.Expr.{Expr}
use Rattle.xpath_values.specs.declared.value.Value.{Value}
use Rattle.xpath_values.specs.declared.value.Value.TheVariants.{Nodes, Atom, Fragment}

-- the value of an expression
pub value_there : {M N : Type 0} {s t : Seen M} {made now : Made N} {fits later : Fits} {values : List Value} {c : Context} {v : Value} (e : Expr) → IsReady s fits values c → Went s t made now later
    → Says made.lookups (λ R. evaluation_of R e values c) s t (Ok v) → IsValue (IsThere t.rules t.steps) v
value_there {t = t} e r w a = told_there (IsValue (IsThere t.rules t.steps)) (meant e).value (expr_sound (IsThere t.rules t.steps) (IsOpen t.steps) e).value (ready_on r w) a

pub value_shown : {M N : Type 0} {s t : Seen M} {made now : Made N} {fits later : Fits} {values : List Value} {c : Context} (e : Expr) (result : Result Value EvalStop) → IsReady s fits values c
    → Went s t made now later → Says made.lookups (λ R. evaluation_of R e values c) s t result → IfOk result (λ v. IsValue (IsThere t.rules t.steps) v)
value_shown e (Ok v) r w a = value_there e r w a
value_shown e (Err stop) r w a = tt

-- the nodes that a value gives
pub nodes_in : (T : ℕ → Type 0) (v : Value) (nodes : List ℕ) → IsValue T v → Gives (nodes_of v) (Ok nodes) → IsNodeSet T nodes
nodes_in T (Nodes ns) nodes a e = subst (IsNodeSet T) (let same : ◌≡◌ {A = Outcome (List ℕ)} (answer.Known ns) (answer.Known nodes) = e in cc) a
nodes_in T (Atom atom) nodes a e = absurd (let no : nodes_of (Atom atom) ≡ answer.Known nodes = e in cc)
nodes_in T (Fragment events) nodes a e = absurd (let no : nodes_of (Fragment events) ≡ answer.Known nodes = e in cc)

-- numbers that ascend below a bound are no more than that
few_below : (bound a : ℕ) (ns : List ℕ) → a ≤ bound → AscendsFrom a ns → Each (λ n. n < bound) ns → a + length ns ≤ bound
few_below bound a [] l s e = omega (arith, l)
few_below bound a (n ∷ ns) l s e =
    let below = e.0 in
    let from = s.0 in
    let rest = few_below bound (suc n) ns (omega (arith, below)) s.1 e.1 in
    omega (arith, rest, from)

each_below : (rules : List StripRule) (steps : List Step) (ns : List ℕ) → Each (IsThere rules steps) ns → Each (λ n. n < length (rows_of steps)) ns
each_below rules steps [] a = tt
each_below rules steps (n ∷ ns) a = (a.0.0, each_below rules steps ns a.1)

-- nodes in document order are fewer than 4,294,967,296
pub few_nodes : (rules : List StripRule) (steps : List Step) (nodes : List ℕ) → IsLawful steps → IsNodeSet (IsThere rules steps) nodes → length nodes < 4294967296
few_nodes rules steps nodes l a =
    let few = l.few in
    let most = few_below (length (rows_of steps)) 0 nodes (omega arith) a.0 (each_below rules steps nodes a.1) in
    omega (arith, few, most)

pub nodes_shown : (rules : List StripRule) (steps : List Step) (v : Value) (result : Result (List ℕ) EvalStop) → IsValue (IsThere rules steps) v → Gives (nodes_of v) result
    → IfOk result (λ nodes. Each (IsThere rules steps) nodes)
nodes_shown rules steps v (Ok nodes) a e = (nodes_in (IsThere rules steps) v nodes a e).1
nodes_shown rules steps v (Err stop) a e = tt

pub nodes_few : (rules : List StripRule) (steps : List Step) (v : Value) (result : Result (List ℕ) EvalStop) → IsLawful steps → IsValue (IsThere rules steps) v → Gives (nodes_of v) result
    → IfOk result (λ nodes. length nodes < 4294967296)
nodes_few rules steps v (Ok nodes) l a e = few_nodes rules steps nodes l (nodes_in (IsThere rules steps) v nodes a e)
nodes_few rules steps v (Err stop) l a e = tt

-- ---- children

known_shut : {A : Type 0} (steps : List Step) (need : Option ℕ) (x y : A) → with_faults {F = FaultKind} (once_shut steps need x) ≡ answer.Known y → x ≡ y
known_shut {A} steps None x y e = let same : ◌≡◌ {A = Outcome A} (answer.Known x) (answer.Known y) = e in cc
known_shut {A} steps (Some m) x y e = by_open (is_open steps m) e
  where
    by_open : (b : Bool) → with_faults {F = FaultKind} (cond b (answer.Open m) (answer.Known x)) ≡ answer.Known y → x ≡ y
    by_open true f = absurd (let no : ◌≡◌ {A = Outcome A} (answer.Open m) (answer.Known y) = f in cc)
    by_open false f = let same : ◌≡◌ {A = Outcome A} (answer.Known x) (answer.Known y) = f in cc

axis_known : (lookups : Lookups) (rules : List StripRule) (steps : List Step) (test : Test) (n : ℕ) (nodes : List ℕ) → IsJoined steps n
    → (reading_by lookups rules steps).axis axis.Child test n ≡ answer.Known nodes → axis_rows rules (rows_of steps) n axis.Child test ≡ nodes
unfolding reading_of
axis_known lookups rules steps test n nodes j e =
    known_shut steps (need_of axis.Child (rows_of steps) n) (axis_rows rules (rows_of steps) n axis.Child test) nodes
    (ap (λ b. with_faults {F = FaultKind} (cond b (once_shut steps (need_of axis.Child (rows_of steps) n) (axis_rows rules (rows_of steps) n axis.Child test)) (answer.Open n)))
    (sym (lt-ltb n (length (rows_of steps)) j)) ∙ e)

-- all children of a node
pub children_told : (lookups : Lookups) (rules : List StripRule) (steps : List Step) (test : Test) (n : ℕ) (nodes : List ℕ) → IsThere rules steps n
    → (reading_by lookups rules steps).axis axis.Child test n ≡ answer.Known nodes → IsNodeSet (IsThere rules steps) nodes
children_told lookups rules steps test n nodes h e = (
  subst (AscendsFrom 0) (axis_known lookups rules steps test n nodes h.0 e) (axis_ascends rules (rows_of steps) n axis.Child test),
  subst (Tells (IsOpen steps) (Each (IsThere rules steps))) e ((reading_told rules lookups.keys lookups.id steps).axis axis.Child test n h),
)

pub children_shown : {M : Type 0} {s t : Seen M} {lookups : Lookups} (test : Test) (n : ℕ) (result : Result (List ℕ) EvalStop) → IsThere t.rules t.steps n
    → Says lookups (λ R. R.axis axis.Child test n) s t result → IfOk result (λ nodes. Each (IsThere t.rules t.steps) nodes)
children_shown {t = t} {lookups} test n (Ok nodes) h a = (children_told lookups t.rules t.steps test n nodes h a.answers).1
children_shown test n (Err stop) h a = tt

pub children_few : {M : Type 0} {s t : Seen M} {lookups : Lookups} (test : Test) (n : ℕ) (result : Result (List ℕ) EvalStop) → IsLawful t.steps → IsThere t.rules t.steps n
    → Says lookups (λ R. R.axis axis.Child test n) s t result → IfOk result (λ nodes. length nodes < 4294967296)
children_few {t = t} {lookups} test n (Ok nodes) l h a = few_nodes t.rules t.steps nodes l (children_told lookups t.rules t.steps test n nodes h a.answers)
children_few test n (Err stop) l h a = tt
