-- What is left of a level once it came to its next child, or where it has none.
use Rattle.std.specs.Prelude.{if◌then◌else◌, IsErrAnd}
use Rattle.std.proofs.Common.{◌≡◌, refl, sym, ap, ◌∙◌, subst, ℕ, suc, ◌^◌, ◌<◌, ◌≤◌, List, [], ◌∷◌, ◌++◌, Bool, true, false, map, arith, Result, Ok, Err, Option, Some, None}
use Rattle.axis_walkers.specs.declared.child_stream.ChildStream.{ChildStream}
use Rattle.axis_walkers.specs.Streams.{given_to, StandsTo, StreamIs}
use Rattle.axis_walkers.proofs.Given.{stands_moves, given_stays}
use Rattle.axis_walkers.proofs.Offering.{row_later}
use Rattle.doc_laws.proofs.Growth.{joined_grows}
use Rattle.doc_laws.proofs.Moving.{moves_on}
use Rattle.doc_model.specs.declared.look.Look.TheVariants as look
use Rattle.doc_model.specs.declared.node_test.Test.{Test}
use Rattle.doc_model.specs.declared.row.Kind.TheVariants.{Element}
use Rattle.doc_model.specs.declared.row.Row.{Row}
use Rattle.doc_model.specs.declared.step.Step.{Step}
use Rattle.doc_model.specs.declared.strip_rule.StripRule.{StripRule}
use Rattle.doc_model.specs.Answers as answer
use Rattle.doc_model.specs.Document.{is_open}
use Rattle.doc_model.specs.Lawful.{IsJoined, IsLawful, Grows}
use Rattle.doc_model.specs.NodeTests.{meets}
use Rattle.doc_model.specs.Rows.{rows_of, row_at}
use Rattle.doc_model.specs.Shown.{shown_of}
use Rattle.doc_model.specs.View.{Seen, IsSeen, Moves}
use Rattle.key_sources.specs.Going.{Lookups, reading_by, Says}
use Rattle.key_sources.proofs.Saying.{Keeps, says_after, says_stops}
use Rattle.key_sources.proofs.Values.{value_lasts}
use Rattle.xpath_core.specs.declared.levels.Child.{Child}
use Rattle.xpath_core.specs.declared.levels.Child.TheVariants as child
use Rattle.xpath_core.specs.declared.levels.Level.{Level}
use Rattle.xpath_core.specs.declared.levels.Tested.{Tested}
use Rattle.xpath_core.specs.Left.{behind_node, level_left, most_of, IsMost, IsLevel, IsEntered, Follows, IsLater, StopsLevel, test_in}
use Rattle.xpath_core.proofs.Keeping.{tested_kept}
use Rattle.xpath_core.proofs.Kids.{kids, none_behind, given_more}
use Rattle.xpath_core.proofs.Left.{first_of_stream}
use Rattle.xpath_core.proofs.Standing.{says_steps, known_on, level_on, children_are, Stepped, stepped, stepped_there, kid_behind, behind_tested, at_other, at_tested, at_passed, counts_more}
use Rattle.xpath_laws.specs.Sound.{Each}
use Rattle.xpath_laws.proofs.Equations.{meant_step_is}
use Rattle.xpath_laws.proofs.Reading.{reading_extends}
use Rattle.xpath_meaning.specs.declared.context.Context.{Context}
use Rattle.xpath_meaning.specs.declared.stop.EvalStop.{EvalStop}
use Rattle.xpath_meaning.specs.declared.stop.EvalStop.TheVariants.{NotYet}
use Rattle.xpath_meaning.specs.Evaluation.{meant, meant_step}
use Rattle.xpath_meaning.specs.Items as items
use Rattle.xpath_meaning.specs.Items.{tested, through}
use Rattle.xpath_meaning.specs.Meanings.{MeantStep}
use Rattle.xpath_meaning.specs.Reading.{Reading}
use Rattle.xpath_meaning.specs.Streams.{Stream, Whole, Cut, stream_of, first_item, GoesOn}
use Rattle.xpath_meaning.specs.Tests.{test_of}
use Rattle.xpath_nodes.proofs.Holding.{each_weaker}
use Rattle.xpath_syntax.specs.declared.expression.Expr.{Expr}
use Rattle.xpath_syntax.specs.declared.expression.StepExpr.{StepExpr, out-StepExpr}
use Rattle.xpath_values.specs.declared.value.Value.{Value}

more : (rules : List StripRule) (steps : List Step) (n : ℕ) (last : Option ℕ) (k : ℕ) → Stepped rules steps n last k → most_of last < suc k
more rules steps n last k p = given_more rules (rows_of steps) n last k p.before p.now p.one

pub stepped_on : {M : Type 0} (s t : Seen M) (n : ℕ) (last : Option ℕ) (k : ℕ) → Moves s t → Stepped s.rules s.steps n last k → Stepped t.rules t.steps n last k
stepped_on s t n last k m p = subst (λ rules. Stepped rules t.steps n last k) (sym m.rules_stay) (record {
  joined = joined_grows s.steps t.steps n m.grows p.joined;
  before = stands_moves s.rules s.steps t.steps n last m.grows p.before;
  now = stands_moves s.rules s.steps t.steps n (Some k) m.grows p.now;
  one = given_stays s.rules s.steps t.steps n (Some k) m.grows p.now ∙ p.one ∙ ap (λ xs. xs ++ k ∷ []) (sym (given_stays s.rules s.steps t.steps n last m.grows p.before));
})

pub meets_on : {M : Type 0} (s t : Seen M) (test : _) (k : ℕ) (b : Bool) → Moves s t → IsJoined s.steps k → meets Element test (row_at (rows_of s.steps) k) ≡ b
    → meets Element test (row_at (rows_of t.steps) k) ≡ b
meets_on s t test k b m j e = ap (λ (row : Row). meets Element test row) (row_later s.steps t.steps k m.grows j) ∙ e

-- a level at a later child
later_level : (rules : List StripRule) (steps : List Step) (level : Level) (new : ChildStream) (k : ℕ) (counts : List ℕ) (entering : Option ℕ)
    → Stepped rules steps level.node level.children.last k → new.n ≡ level.node → new.last ≡ Some k → Each (λ n. n ≤ suc k) counts
    → IsEntered rules steps entering → IsLater rules steps level (record { node = level.node; children = new; counts = counts }) entering
later_level rules steps level new k counts entering p e l a i = record {
  level = record {
    node = e;
    joined = p.joined;
    stands = subst (λ o. StandsTo rules (rows_of steps) level.node o) (sym l) p.now;
    counts = subst (λ o. Each (IsMost o) counts) (sym l) a;
  };
  entered = i;
  behind = subst (λ o. most_of level.children.last < most_of o) (sym l) (more rules steps level.node level.children.last k p);
}

counts_within : (most k : ℕ) (counts : List ℕ) → most ≤ k → Each (λ n. n ≤ most) counts → Each (λ n. n ≤ k) counts
counts_within most k counts l a = each_weaker (λ n. n ≤ most) (λ n. n ≤ k) counts (λ n h. omega arith) a

-- a child that does not meet the test
pub follows_other : {M : Type 0} (lookups : Lookups) (t : Seen M) (step : MeantStep) (level : Level) (values : List Value) (c : Context) (new : ChildStream) (k : ℕ)
    → IsLevel t.rules t.steps level → Stepped t.rules t.steps level.node level.children.last k → new.n ≡ level.node → new.last ≡ Some k
    → meets Element (test_of step.test) (row_at (rows_of t.steps) k) ≡ false → Follows lookups t.rules t.steps step level values c (child.Other k new)
follows_other lookups t step level values c new k i p e l fails = record {
  left = λ inside q g h. at_other step inside level new (reading_by lookups t.rules q) values c k _ fails l
      (kid_behind lookups t.rules t.steps q level.node (test_of step.test) level.children.last k g p);
  stands =
      let b = more t.rules t.steps level.node level.children.last k p in
      later_level t.rules t.steps level new k level.counts None p e l (counts_within (most_of level.children.last) (suc k) level.counts (omega (arith, b)) i.counts) tt;
}

entered_if : (rules : List StripRule) (steps : List Step) (b : Bool) (k : ℕ) → IsEntered rules steps (Some k) → IsEntered rules steps (if b then Some k else None)
entered_if rules steps true k h = h
entered_if rules steps false k h = tt

-- one that was tested
pub follows_tested : {M : Type 0} (lookups : Lookups) (s t : Seen M) (step : MeantStep) (level : Level) (values : List Value) (c : Context) (new : ChildStream) (k : ℕ) (x : Tested)
    → Moves s t → IsLevel s.rules s.steps level → Stepped s.rules s.steps level.node level.children.last k
    → new.n ≡ level.node → new.last ≡ Some k → meets Element (test_of step.test) (row_at (rows_of s.steps) k) ≡ true
    → Keeps (λ R. tested step.predicates level.counts k R values c) → Says lookups (λ R. tested step.predicates level.counts k R values c) s t (Ok (record { counts = x.counts; passed = x.passed }))
    → Follows lookups t.rules t.steps step level values c (child.Tested k new x)
follows_tested lookups s t step level values c new k x m i p e l holds keeps says =
    let w = stepped_on s t level.node level.children.last k m p in
    let met = meets_on s t (test_of step.test) k true m p.now.0 holds in
    let b = more t.rules t.steps level.node level.children.last k w in
    record {
      left = λ inside q g h.
          at_tested step inside level (reading_by lookups t.rules q) values c k _ met (kid_behind lookups t.rules t.steps q level.node (test_of step.test) level.children.last k g w)
          ∙ ap (λ o. stream_of o (behind_tested step inside level (reading_by lookups t.rules q) values c k)) (known_on keeps says q g h)
          ∙ at_passed step inside level new x (reading_by lookups t.rules q) values c k l;
      stands = later_level t.rules t.steps level new k x.counts (if x.passed then Some k else None) w e l
          (counts_within (suc (most_of level.children.last)) (suc k) x.counts (omega (arith, b))
          (counts_more step.predicates level.counts k _ values c _ (most_of level.children.last) says.answers i.counts))
          (entered_if t.rules t.steps x.passed k (stepped_there t.rules t.steps level.node level.children.last k w));
    }

-- one at which a predicate stops
pub stops_tested : {M : Type 0} (lookups : Lookups) (s t : Seen M) (step : MeantStep) (level : Level) (values : List Value) (c : Context) (k : ℕ) (stop : EvalStop) → Moves s t
    → Stepped s.rules s.steps level.node level.children.last k
    → meets Element (test_of step.test) (row_at (rows_of s.steps) k) ≡ true → Says {A = items.Tested} lookups (λ R. tested step.predicates level.counts k R values c) s t (Err stop)
    → (inside : Reading → ℕ → Stream) → Says {A = Option ℕ} lookups (λ R. first_item (level_left step (inside R) level R values c)) s t (Err stop)
stops_tested lookups s t step level values c k stop m p holds says inside =
    says_steps (Err stop) m
    (λ q g h. subst (λ rules. first_item (level_left step (inside (reading_by lookups rules q)) level (reading_by lookups rules q) values c)
    ≡ answer.and_then (tested step.predicates level.counts k (reading_by lookups rules q) values c)
    (λ x. first_item (behind_tested step (inside (reading_by lookups rules q)) level (reading_by lookups rules q) values c k x)))
    (sym m.rules_stay)
    (ap first_item (at_tested step (inside (reading_by lookups s.rules q)) level (reading_by lookups s.rules q) values c k _ holds
    (kid_behind lookups s.rules s.steps q level.node (test_of step.test) level.children.last k g p))
    ∙ first_of_stream (tested step.predicates level.counts k (reading_by lookups s.rules q) values c)
    (behind_tested step (inside (reading_by lookups s.rules q)) level (reading_by lookups s.rules q) values c k)))
    (says_stops (λ R x. first_item (behind_tested step (inside R) level R values c k x)) says)

-- ---- no more children

at_end : (step : MeantStep) (inside : ℕ → Stream) (level : Level) (R : Reading) (values : List Value) (c : Context) (ns : List ℕ) (ending : _)
    → R.children (test_of step.test) level.node ≡ record { items = ns; ending = ending } → behind_node level.children.last ns ≡ []
    → level_left step inside level R values c ≡ record { items = []; ending = ending }
at_end step inside level R values c ns ending e n =
    ap (λ (s : Stream). through step.predicates inside level.counts (behind_node level.children.last s.items) s.ending R values c) e
    ∙ ap (λ xs. through step.predicates inside level.counts xs ending R values c) n

all_shut : {M : Type 0} (lookups : Lookups) (t : Seen M) (test : _) (n : ℕ) (q : List Step) → IsJoined t.steps n → is_open t.steps n ≡ false → Grows t.steps q → IsLawful q
    → (reading_by lookups t.rules q).children test n ≡ record { items = kids t.rules (rows_of t.steps) n test; ending = Whole }
all_shut lookups t test n q j o g h =
    subst (λ s. GoesOn s ((reading_by lookups t.rules q).children test n)) (children_are lookups t.rules t.steps test n false j o)
    ((reading_extends value_lasts t.rules lookups.keys lookups.id t.steps q g h).children test n)

pub follows_none : {M : Type 0} (lookups : Lookups) (s t : Seen M) (step : MeantStep) (level : Level) (values : List Value) (c : Context) (new : ChildStream) → Moves s t
    → IsLevel s.rules s.steps level → StreamIs s t level.children new look.Nothing → Follows lookups t.rules t.steps step level values c child.None
follows_none lookups s t step level values c new m i e =
    let l = level_on s t level m i in
    let shut = ap (is_open t.steps) (sym l.node) ∙ e.1 in
    let all = ap (λ n. given_to t.rules (rows_of t.steps) n level.children.last) (sym l.node) ∙ e.0 ∙ ap (shown_of t.rules (rows_of t.steps)) l.node in
    record {
      left = λ inside q g h. at_end step inside level (reading_by lookups t.rules q) values c _ Whole (all_shut lookups t (test_of step.test) level.node q l.joined shut g h)
          (none_behind t.rules (rows_of t.steps) level.node (test_of step.test) level.children.last l.stands all);
      stands = tt;
    }

pub stops_none : {M : Type 0} (lookups : Lookups) (s t : Seen M) (step : MeantStep) (level : Level) (values : List Value) (c : Context) (new : ChildStream) → Moves s t
    → IsLevel s.rules s.steps level → StreamIs s t level.children new look.NotYet
    → (inside : Reading → ℕ → Stream) → Says {A = Option ℕ} lookups (λ R. first_item (level_left step (inside R) level R values c)) s t (Err (NotYet level.node))
stops_none lookups s t step level values c new m i e inside =
    let p = e.0.0 in
    let g = e.0.1 in
    let j = joined_grows s.steps p level.node g i.joined in
    let stands = stands_moves t.rules s.steps p level.node level.children.last g (subst (λ rules. StandsTo rules (rows_of s.steps) level.node level.children.last) (sym m.rules_stay) i.stands) in
    let opened = ap (is_open p) (sym i.node) ∙ e.0.3.1 in
    let all = ap (λ n. given_to t.rules (rows_of p) n level.children.last) (sym i.node) ∙ e.0.3.0 ∙ ap (shown_of t.rules (rows_of p)) i.node in
    record {
      answers = (
        p,
        g,
        e.0.2,
        ap first_item (at_end step (inside (reading_by lookups t.rules p)) level (reading_by lookups t.rules p) values c _ (Cut level.node)
            (children_are lookups t.rules p (test_of step.test) level.node true j opened)
            (none_behind t.rules (rows_of p) level.node (test_of step.test) level.children.last stands all)),
      );
    }

-- ---- in the words of a step

pub test_is : (part : StepExpr) (test : Test) → test ≡ test_in part → test ≡ test_of (meant_step part).test
test_is part test e = e ∙ ap (λ (step : MeantStep). test_of step.test) (sym (meant_step_is part))

pub predicates_are : (part : StepExpr) (es : List Expr) → es ≡ (out-StepExpr part).predicates → map meant es ≡ (meant_step part).predicates
predicates_are part es e = ap (map meant) e ∙ ap (λ (step : MeantStep). step.predicates) (sym (meant_step_is part))

-- the level and its next child, behind a call that tested the child by its node test
pub record Came {M : Type 0} (s u : Seen M) (part : StepExpr) (level : Level) (new : ChildStream) (k : ℕ) (met : Bool) : Type 0 where
  pub moves : Moves s u
  pub there : IsLevel u.rules u.steps level
  pub stepped : Stepped u.rules u.steps level.node level.children.last k
  pub node : new.n ≡ level.node
  pub last : new.last ≡ Some k
  pub is_met : meets Element (test_of (meant_step part).test) (row_at (rows_of u.steps) k) ≡ met

pub came : {M : Type 0} (s t u : Seen M) (part : StepExpr) (test : Test) (level : Level) (new : ChildStream) (k : ℕ) (met : Bool) → Moves s t → Moves t u
    → IsLevel s.rules s.steps level → StreamIs s t level.children new (look.Node k) → test ≡ test_in part
    → met ≡ meets Element test (row_at (rows_of u.steps) k) → Came s u part level new k met
came s t u part test level new k met m n l i e h =
    let p = stepped s t level new k m l i in
    record {
      moves = moves_on s t u m n;
      there = level_on t u level n (level_on s t level m l);
      stepped = stepped_on t u level.node level.children.last k n p.0;
      node = p.1;
      last = p.2;
      is_met = ap (λ x. meets Element x (row_at (rows_of u.steps) k)) (sym (test_is part test e)) ∙ sym h;
    }

pub came_other : {M : Type 0} {s u : Seen M} {part : StepExpr} {level : Level} {new : ChildStream} {k : ℕ} {met : Bool} (lookups : Lookups) (values : List Value) (c : Context)
    → Came s u part level new k met → met ≡ false
    → Follows lookups u.rules u.steps (meant_step part) level values c (child.Other k new)
came_other {u = u} {part} {level} {new} {k} lookups values c a e = follows_other lookups u (meant_step part) level values c new k a.there a.stepped a.node a.last (a.is_met ∙ e)

as_tested : {M : Type 0} {lookups : Lookups} {s t : Seen M} {result : Result items.Tested EvalStop} (part : StepExpr) (k : ℕ) (values : List Value) (c : Context) (es : List Expr)
    (counts now : List ℕ) → es ≡ (out-StepExpr part).predicates → now ≡ counts
    → Says lookups (λ R. tested (map meant es) now k R values c) s t result → Says lookups (λ R. tested (meant_step part).predicates counts k R values c) s t result
as_tested {lookups = lookups} {s} {t} {result} part k values c es counts now e f a =
    subst (λ ns. Says lookups (λ R. tested (meant_step part).predicates ns k R values c) s t result) f
    (subst (λ ms. Says lookups (λ R. tested ms now k R values c) s t result) (predicates_are part es e) a)

step_tests : (part : StepExpr) (counts : List ℕ) (k : ℕ) (values : List Value) (c : Context) → Keeps (λ R. tested (meant_step part).predicates counts k R values c)
step_tests part counts k values c =
    subst (λ ms. Keeps (λ R. tested ms counts k R values c)) (predicates_are part (out-StepExpr part).predicates refl) (tested_kept (out-StepExpr part).predicates counts k values c)

pub came_tested : {M : Type 0} {s u w : Seen M} {part : StepExpr} {level : Level} {new : ChildStream} {k : ℕ} {met : Bool} (lookups : Lookups) (values : List Value) (c : Context)
    (x : Tested) (es : List Expr) (now : List ℕ) → Came s u part level new k met → met ≡ true → Moves u w
    → es ≡ (out-StepExpr part).predicates → now ≡ level.counts → Says lookups (λ R. tested (map meant es) now k R values c) u w (Ok (record { counts = x.counts; passed = x.passed }))
    → Follows lookups w.rules w.steps (meant_step part) level values c (child.Tested k new x)
came_tested {u = u} {w} {part} {level} {new} {k} lookups values c x es now a e m f g says =
    follows_tested lookups u w (meant_step part) level values c new k x m a.there a.stepped a.node a.last (a.is_met ∙ e) (step_tests part level.counts k values c)
    (as_tested part k values c es level.counts now f g says)

pub came_stops : {M : Type 0} {s u w : Seen M} {part : StepExpr} {level : Level} {new : ChildStream} {k : ℕ} {met : Bool} {lookups : Lookups} (values : List Value) (c : Context)
    (stop : EvalStop) (es : List Expr) (now : List ℕ) → Came s u part level new k met → met ≡ true → Moves u w
    → es ≡ (out-StepExpr part).predicates → now ≡ level.counts → Says {A = items.Tested} lookups (λ R. tested (map meant es) now k R values c) u w (Err stop)
    → (inside : Reading → ℕ → Stream) → Says {A = Option ℕ} lookups (λ R. first_item (level_left (meant_step part) (inside R) level R values c)) s w (Err stop)
came_stops {u = u} {w} {part} {level} {k = k} {lookups = lookups} values c stop es now a e m f g says inside =
    says_after a.moves (stops_tested lookups u w (meant_step part) level values c k stop m a.stepped (a.is_met ∙ e) (as_tested part k values c es level.counts now f g says) inside)

-- the exit of a `?`
pub stops_exit : {M : Type 0} (lookups : Lookups) (step : MeantStep) (level : Level) (values : List Value) (c : Context) (s t : Seen M) (e : EvalStop)
    (result : Result Child EvalStop) → IsErrAnd result (λ d. d ≡ e)
    → ((inside : Reading → ℕ → Stream) → Says {A = Option ℕ} lookups (λ R. first_item (level_left step (inside R) level R values c)) s t (Err e)) → StopsLevel lookups step level values c s t result
stops_exit lookups step level values c s t e (Err d) is a =
    λ inside. subst (λ x. Says {A = Option ℕ} lookups (λ R. first_item (level_left step (inside R) level R values c)) s t (Err x)) (sym is) (a inside)
stops_exit lookups step level values c s t e (Ok x) is a = absurd is

pub counts_few : {M : Type 0} (u : Seen M) (level : Level) (k : ℕ) (counts : List ℕ) → IsSeen u → IsLevel u.rules u.steps level
    → Stepped u.rules u.steps level.node level.children.last k → counts ≡ level.counts → Each (λ n. n < 2 ^ 32) counts
counts_few u level k counts i l p e =
    let b = more u.rules u.steps level.node level.children.last k p in
    let a = p.now.0 in
    let f = i.lawful.few in
    subst (λ ns. Each (λ n. n < 2 ^ 32) ns) (sym e) (each_weaker (λ n. n ≤ most_of level.children.last) (λ n. n < 2 ^ 32) level.counts (λ n h. omega (arith, h, b, a, f)) l.counts)
