-- A level comes to its next child.
use Rattle.std.proofs.Common.{◌≡◌, refl, sym, ap, ◌∙◌, subst, ℕ, suc, ◌≤◌, List, [], ◌∷◌, ◌++◌, Bool, true, false, cond, arith, Result, Ok, Err, Option, Some, None}
use Rattle.std.proofs.lemmas.Bool.{and_parts}
use Rattle.axis_walkers.specs.declared.child_stream.ChildStream.{ChildStream}
use Rattle.axis_walkers.specs.Streams.{given_to, StandsTo, IsStream, StreamIs}
use Rattle.axis_walkers.proofs.Given.{stands_moves, given_stays}
use Rattle.axis_walkers.proofs.Offering.{row_later}
use Rattle.doc_laws.proofs.Calls.{known_later}
use Rattle.doc_laws.proofs.Growth.{joined_grows, prefix_rows}
use Rattle.doc_laws.proofs.Root.{lawful_before}
use Rattle.doc_laws.proofs.Visible.{visible_grows}
use Rattle.doc_model.specs.declared.look.Look.TheVariants as look
use Rattle.doc_model.specs.declared.node_test.Test.{Test}
use Rattle.doc_model.specs.declared.row.Kind.TheVariants.{Element}
use Rattle.doc_model.specs.declared.row.Row.{Row}
use Rattle.doc_model.specs.declared.step.Step.{Step}
use Rattle.doc_model.specs.declared.strip_rule.StripRule.{StripRule}
use Rattle.doc_model.specs.Answers as answer
use Rattle.doc_model.specs.Document.{is_open}
use Rattle.doc_model.specs.Lawful.{IsJoined, IsLawful, Grows}
use Rattle.doc_model.specs.NodeTests.{meets}
use Rattle.doc_model.specs.Rows.{rows_of, row_at}
use Rattle.doc_model.specs.Strip.{is_visible}
use Rattle.doc_model.specs.View.{Seen, Moves}
use Rattle.key_sources.specs.Going.{Lookups, reading_by, Says}
use Rattle.key_sources.proofs.Saying.{Keeps, lasts}
use Rattle.xpath_core.specs.declared.levels.Child.TheVariants as child
use Rattle.xpath_core.specs.declared.levels.Level.{Level}
use Rattle.xpath_core.specs.declared.levels.Place.{Place}
use Rattle.xpath_core.specs.declared.levels.Tested.{Tested}
use Rattle.xpath_core.specs.Left.{behind_node, level_left, entered, IsLevel, IsEntered, IsPlace, child_left}
use Rattle.xpath_core.proofs.Kids.{node_if, kids, next_behind}
use Rattle.xpath_core.proofs.Left.{if_entered}
use Rattle.xpath_laws.specs.Sound.{Each, IsThere}
use Rattle.xpath_laws.proofs.Reading.{children_there}
use Rattle.xpath_meaning.specs.declared.context.Context.{Context}
use Rattle.xpath_meaning.specs.declared.stop.EvalStop.{EvalStop}
use Rattle.xpath_meaning.specs.declared.stop.EvalStop.TheVariants.{NotYet, Fault, Memory}
use Rattle.xpath_meaning.specs.Items as items
use Rattle.xpath_meaning.specs.Items.{first_count, later_counts, tested_on, tested, if_passed, through}
use Rattle.xpath_meaning.specs.Meanings.{Meant, MeantStep, holds_at, at_node}
use Rattle.xpath_meaning.specs.Outcome.{Outcome, ◌>>=◌}
use Rattle.xpath_meaning.specs.Reading.{Reading}
use Rattle.xpath_meaning.specs.Readings.{reading_of}
use Rattle.xpath_meaning.specs.Streams.{Stream, Whole, Cut, then_stream, stream_of}
use Rattle.xpath_meaning.specs.Tests.{test_of}
use Rattle.xpath_nodes.proofs.Holding.{each_weaker}
use Rattle.xpath_syntax.specs.declared.expression.StepExpr.{StepExpr}
use Rattle.xpath_values.specs.declared.value.Value.{Value}

-- ---- what calls say, where other words hold at each step of the call and later

pub says_steps : {M A : Type 0} {lookups : Lookups} {means other : Reading → Outcome A} {s t : Seen M} (result : Result A EvalStop) → Moves s t
    → ((steps : List Step) → Grows s.steps steps → IsLawful steps → other (reading_by lookups t.rules steps) ≡ means (reading_by lookups t.rules steps))
    → Says lookups means s t result → Says lookups other s t result
says_steps (Ok x) m h a = record { answers = h _ m.grows m.seen.lawful ∙ a.answers }
says_steps (Err (Fault fault)) m h a = record { answers = h _ m.grows m.seen.lawful ∙ a.answers }
says_steps {t = t} (Err (NotYet row)) m h a =
    let e = a.answers in record { answers = (e.0, e.1, e.2, h (e.0) e.1 (lawful_before (e.0) t.steps e.2 m.seen.lawful) ∙ e.3) }
says_steps (Err Memory) m h a = record { answers = tt }

-- what is known stays known
pub known_on : {M A : Type 0} {lookups : Lookups} {means : Reading → Outcome A} {s t : Seen M} {x : A} → Keeps means → Says lookups means s t (Ok x) → (q : List Step)
    → Grows t.steps q → IsLawful q → means (reading_by lookups t.rules q) ≡ answer.Known x
known_on {lookups = lookups} {means} {t = t} {x} k a q g l = known_later (λ p. means (reading_by lookups t.rules p)) t.steps q x (lasts means k lookups t.rules) g l a.answers

-- ---- levels and places stand later

level_later : (rules : List StripRule) (p q : List Step) (level : Level) → Grows p q → IsLevel rules p level → IsLevel rules q level
level_later rules p q level g l = record {
  node = l.node;
  joined = joined_grows p q level.node g l.joined;
  stands = stands_moves rules p q level.node level.children.last g l.stands;
  counts = l.counts;
}

there_later : (rules : List StripRule) (p q : List Step) (n : ℕ) → Grows p q → IsThere rules p n → IsThere rules q n
there_later rules p q n g w =
    let r = prefix_rows p q g in (joined_grows p q n g w.0, ap (λ rows. is_visible rules rows n) r.1 ∙ visible_grows rules (rows_of p) (r.0) n w.0 ∙ w.1)

entered_later : (rules : List StripRule) (p q : List Step) (n : Option ℕ) → Grows p q → IsEntered rules p n → IsEntered rules q n
entered_later rules p q None g h = tt
entered_later rules p q (Some n) g h = there_later rules p q n g h

pub place_later : (rules : List StripRule) (p q : List Step) (parts : List StepExpr) (place : Place) → Grows p q → IsPlace rules p parts place → IsPlace rules q parts place
place_later rules p q parts place g i = record {
  tests = i.tests;
  few = i.few;
  levels = each_weaker (IsLevel rules p) (IsLevel rules q) place.levels (λ level l. level_later rules p q level g l) i.levels;
  entering = entered_later rules p q place.entering g i.entering;
}

pub level_on : {M : Type 0} (s t : Seen M) (level : Level) → Moves s t → IsLevel s.rules s.steps level → IsLevel t.rules t.steps level
level_on s t level m l = subst (λ rules. IsLevel rules t.steps level) (sym m.rules_stay) (level_later s.rules s.steps t.steps level m.grows l)

pub place_on : {M : Type 0} (s t : Seen M) (parts : List StepExpr) (place : Place) → Moves s t → IsPlace s.rules s.steps parts place → IsPlace t.rules t.steps parts place
place_on s t parts place m i = subst (λ rules. IsPlace rules t.steps parts place) (sym m.rules_stay) (place_later s.rules s.steps t.steps parts place m.grows i)

-- ---- children that a reading tells

pub children_are : (lookups : Lookups) (rules : List StripRule) (steps : List Step) (test : Test) (n : ℕ) (o : Bool) → IsJoined steps n → is_open steps n ≡ o
    → (reading_by lookups rules steps).children test n ≡ record { items = kids rules (rows_of steps) n test; ending = cond o (Cut n) Whole }
unfolding reading_of
children_are lookups rules steps test n o j e = children_there rules steps test n o j e

items_are : (lookups : Lookups) (rules : List StripRule) (steps : List Step) (test : Test) (n : ℕ) → IsJoined steps n
    → ((reading_by lookups rules steps).children test n).items ≡ kids rules (rows_of steps) n test
items_are lookups rules steps test n j = ap (λ (s : Stream). s.items) (children_are lookups rules steps test n (is_open steps n) j refl)

-- a stream of children gave one more
pub record Stepped (rules : List StripRule) (steps : List Step) (n : ℕ) (last : Option ℕ) (k : ℕ) : Type 0 where
  pub joined : IsJoined steps n
  pub before : StandsTo rules (rows_of steps) n last
  pub now : StandsTo rules (rows_of steps) n (Some k)
  pub one : given_to rules (rows_of steps) n (Some k) ≡ given_to rules (rows_of steps) n last ++ k ∷ []

pub stream_of_level : {M : Type 0} (s : Seen M) (level : Level) → IsLevel s.rules s.steps level → IsStream s level.children
stream_of_level s level l =
    (subst (IsJoined s.steps) (sym l.node) l.joined, subst (λ n. StandsTo s.rules (rows_of s.steps) n level.children.last) (sym l.node) l.stands)

pub stepped : {M : Type 0} (s t : Seen M) (level : Level) (new : ChildStream) (k : ℕ) → Moves s t → IsLevel s.rules s.steps level → StreamIs s t level.children new (look.Node k)
    → Stepped t.rules t.steps level.node level.children.last k × (new.n ≡ level.node) × (new.last ≡ Some k)
stepped s t level new k m l i =
    let e : new.n ≡ level.node = i.1 ∙ l.node in
    let on = level_on s t level m l in
    let rows = rows_of t.steps in (
      record {
        joined = on.joined;
        before = on.stands;
        now = subst (λ o. StandsTo t.rules rows level.node o) i.2 (subst (λ n. StandsTo t.rules rows n new.last) e i.3.1);
        one = ap (λ n. given_to t.rules rows n (Some k)) (sym e) ∙ ap (given_to t.rules rows new.n) (sym i.2) ∙ i.0 ∙ ap (λ n. given_to t.rules rows n level.children.last ++ k ∷ []) l.node;
      },
      e,
      i.2,
    )

pub stepped_there : (rules : List StripRule) (steps : List Step) (n : ℕ) (last : Option ℕ) (k : ℕ) → Stepped rules steps n last k → IsThere rules steps k
stepped_there rules steps n last k p = (p.now.0, (and_parts _ _ p.now.1).0)

-- the children behind the last one, at every growth
pub kid_behind : (lookups : Lookups) (rules : List StripRule) (p q : List Step) (n : ℕ) (test : Test) (last : Option ℕ) (k : ℕ) → Grows p q → Stepped rules p n last k
    → behind_node last ((reading_by lookups rules q).children test n).items
    ≡ node_if (meets Element test (row_at (rows_of p) k)) k (behind_node (Some k) ((reading_by lookups rules q).children test n).items)
kid_behind lookups rules p q n test last k g h =
    let j = joined_grows p q n g h.joined in
    let same = items_are lookups rules q test n j in
    ap (behind_node last) same
    ∙ next_behind rules (rows_of q) n test last k (stands_moves rules p q n last g h.before) (stands_moves rules p q n (Some k) g h.now)
    (given_stays rules p q n (Some k) g h.now ∙ h.one ∙ ap (λ xs. xs ++ k ∷ []) (sym (given_stays rules p q n last g h.before)))
    ∙ ap (λ (row : Row). node_if (meets Element test row) k (behind_node (Some k) (kids rules (rows_of q) n test))) (row_later p q k g h.now.0)
    ∙ ap (λ ns. node_if (meets Element test (row_at (rows_of p) k)) k (behind_node (Some k) ns)) (sym same)

-- a level at a child that meets the test, or does not
abbrev pub through_at : MeantStep → (ℕ → Stream) → Level → Reading → List Value → Context → List ℕ → Stream
through_at step inside level R values c ns = through step.predicates inside level.counts ns (R.children (test_of step.test) level.node).ending R values c

pub at_other : (step : MeantStep) (inside : ℕ → Stream) (level : Level) (new : ChildStream) (R : Reading) (values : List Value) (c : Context) (k : ℕ) (b : Bool) → b ≡ false → new.last ≡ Some k
    → behind_node level.children.last (R.children (test_of step.test) level.node).items ≡ node_if b k (behind_node (Some k) (R.children (test_of step.test) level.node).items)
    → level_left step inside level R values c ≡ child_left step inside level (child.Other k new) R values c
at_other step inside level new R values c k b e l h =
    ap (through_at step inside level R values c)
    (h ∙ ap (λ x. node_if x k (behind_node (Some k) (R.children (test_of step.test) level.node).items)) e ∙ ap (λ o. behind_node o (R.children (test_of step.test) level.node).items) (sym l))

-- what lies behind a node that is tested
abbrev pub behind_tested : MeantStep → (ℕ → Stream) → Level → Reading → List Value → Context → ℕ → items.Tested → Stream
behind_tested step inside level R values c k t =
    then_stream (if_passed t.passed (inside k))
    (through step.predicates inside t.counts (behind_node (Some k) (R.children (test_of step.test) level.node).items) (R.children (test_of step.test) level.node).ending R values c)

pub at_tested : (step : MeantStep) (inside : ℕ → Stream) (level : Level) (R : Reading) (values : List Value) (c : Context) (k : ℕ) (b : Bool) → b ≡ true
    → behind_node level.children.last (R.children (test_of step.test) level.node).items ≡ node_if b k (behind_node (Some k) (R.children (test_of step.test) level.node).items)
    → level_left step inside level R values c ≡ stream_of (tested step.predicates level.counts k R values c) (behind_tested step inside level R values c k)
at_tested step inside level R values c k b e h =
    ap (through_at step inside level R values c) (h ∙ ap (λ x. node_if x k (behind_node (Some k) (R.children (test_of step.test) level.node).items)) e)

pub at_passed : (step : MeantStep) (inside : ℕ → Stream) (level : Level) (new : ChildStream) (t : Tested) (R : Reading) (values : List Value) (c : Context) (k : ℕ) → new.last ≡ Some k
    → behind_tested step inside level R values c k (record { counts = t.counts; passed = t.passed }) ≡ child_left step inside level (child.Tested k new t) R values c
at_passed step inside level new t R values c k l =
    ap (λ s. then_stream s (through step.predicates inside t.counts (behind_node (Some k) (R.children (test_of step.test) level.node).items)
    (R.children (test_of step.test) level.node).ending R values c)) (if_entered t.passed inside k)
    ∙ ap (λ o. then_stream (entered inside (cond t.passed (Some k) None))
    (through step.predicates inside t.counts (behind_node o (R.children (test_of step.test) level.node).items) (R.children (test_of step.test) level.node).ending R values c)) (sym l)

-- ---- counts

known_same : {A : Type 0} (x y : A) → ◌≡◌ {A = Outcome A} (answer.Known x) (answer.Known y) → x ≡ y
known_same x y e = cc

most_counts : (bound : ℕ) (counts : List ℕ) → Each (λ n. n ≤ bound) counts → Each (λ n. n ≤ suc bound) counts
most_counts bound counts a = each_weaker (λ n. n ≤ bound) (λ n. n ≤ suc bound) counts (λ n l. omega arith) a

first_most : (bound : ℕ) (counts : List ℕ) → Each (λ n. n ≤ bound) counts → first_count counts ≤ bound
first_most bound [] a = omega arith
first_most bound (n ∷ ns) a = a.0

later_most : (bound : ℕ) (counts : List ℕ) → Each (λ n. n ≤ bound) counts → Each (λ n. n ≤ bound) (later_counts counts)
later_most bound [] a = tt
later_most bound (n ∷ ns) a = a.1

pub counts_more : (predicates : List Meant) (counts : List ℕ) (n : ℕ) (R : Reading) (values : List Value) (c : Context) (t : items.Tested) (bound : ℕ)
    → tested predicates counts n R values c ≡ answer.Known t → Each (λ k. k ≤ bound) counts → Each (λ k. k ≤ suc bound) t.counts
counts_more [] counts n R values c t bound e a =
    subst (λ (u : items.Tested). Each (λ k. k ≤ suc bound) u.counts) (known_same (record { counts = counts; passed = true }) t e) (most_counts bound counts a)
counts_more (predicate ∷ predicates) counts n R values c t bound e a =
    at (holds_at predicate R values (at_node c _ (suc (first_count counts)) n)) (tested predicates (later_counts counts) n R values c)
    (λ u f. counts_more predicates (later_counts counts) n R values c u bound f (later_most bound counts a)) e
  where
    one : suc (first_count counts) ≤ suc bound
    one = let l = first_most bound counts a in omega (arith, l)

    passed : (rest : Outcome items.Tested) → ((u : items.Tested) → rest ≡ answer.Known u → Each (λ k. k ≤ suc bound) u.counts)
        → tested_on true (suc (first_count counts)) (later_counts counts) rest ≡ answer.Known t → Each (λ k. k ≤ suc bound) t.counts
    passed (answer.Known u) h e = subst (λ (w : items.Tested). Each (λ k. k ≤ suc bound) w.counts) (known_same _ t e) (one, h u refl)
    passed (answer.Fault f) h e = absurd (let no : ◌≡◌ {A = Outcome items.Tested} (answer.Fault f) (answer.Known t) = e in cc)
    passed (answer.Open m) h e = absurd (let no : ◌≡◌ {A = Outcome items.Tested} (answer.Open m) (answer.Known t) = e in cc)

    at : (here : Outcome Bool) (rest : Outcome items.Tested) → ((u : items.Tested) → rest ≡ answer.Known u → Each (λ k. k ≤ suc bound) u.counts)
        → (here >>= λ b. tested_on b (suc (first_count counts)) (later_counts counts) rest) ≡ answer.Known t → Each (λ k. k ≤ suc bound) t.counts
    at (answer.Known true) rest h e = passed rest h e
    at (answer.Known false) rest h e = subst (λ (w : items.Tested). Each (λ k. k ≤ suc bound) w.counts) (known_same _ t e) (one, most_counts bound (later_counts counts) (later_most bound counts a))
    at (answer.Fault f) rest h e = absurd (let no : ◌≡◌ {A = Outcome items.Tested} (answer.Fault f) (answer.Known t) = e in cc)
    at (answer.Open m) rest h e = absurd (let no : ◌≡◌ {A = Outcome items.Tested} (answer.Open m) (answer.Known t) = e in cc)
