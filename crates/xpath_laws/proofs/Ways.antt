-- Location paths lead to rows that are there.
use Rattle.std.proofs.Common.{ℕ, suc, List, [], ◌∷◌, length, Bool, true, false, Option, Some, None, cond, arith}
use Rattle.doc_model.specs.declared.node_test.Test.{Test}
use Rattle.doc_model.specs.declared.row.Axis.{Axis}
use Rattle.doc_model.specs.Answers.{Known, Fault, Open}
use Rattle.xpath_values.specs.declared.value.Value.{Value}
use Rattle.xpath_meaning.specs.declared.context.Context.{Context}
use Rattle.xpath_meaning.specs.declared.context.Size.TheVariants as size
use Rattle.xpath_meaning.specs.Items.{Tested, first_count, later_counts, tested_on, tested, if_passed, through, steps_items, path_items, if_streams}
use Rattle.xpath_meaning.specs.Meanings.{Meant, MeantStep, MeantPath, at_node}
use Rattle.xpath_meaning.specs.Outcome.{Outcome, each_of}
use Rattle.xpath_meaning.specs.Reading.{Reading}
use Rattle.xpath_meaning.specs.Steps.{joined, kept_by, filtered, step_from, step_nodes, steps_nodes, start_of, path_nodes, tail_nodes}
use Rattle.xpath_meaning.specs.Streams.{Stream, Ending}
use Rattle.xpath_meaning.specs.Tests.{axis_of, test_of, on_axis, nodes_on}
use Rattle.xpath_laws.specs.Sound.{Rows, Tells, Anything, Each, IsNodeSet, EndsAt, Flows, IsReading}
use Rattle.xpath_laws.proofs.Tells.{Left, joined_each, ordered_set, bind_tells, each_tells, kept_tells, then_flows, stream_flows}
use Rattle.xpath_laws.proofs.Sounding.{Given, Sound, SoundItems, SoundItemsIf, MeantSound, StepSound, PathSound, PathSoundIf, at_given, holds_sound}

all_left : (T : Rows) (ns : List ℕ) → Each T ns → Left T ns ns
all_left T ns a = record { each = a; order = λ b s. s }

left_on : (T : Rows) (ns ms ks : List ℕ) → Left T ns ms → Left T ms ks → Left T ns ks
left_on T ns ms ks l k = record { each = k.each; order = λ a s. k.order a (l.order a s) }

pub left_set : (T : Rows) (ns ms : List ℕ) → IsNodeSet T ns → Left T ns ms → IsNodeSet T ms
left_set T ns ms i l = (l.order 0 i.0, l.each)

module _ (T O : Rows) where
  axis_told : (R : Reading) → IsReading T O R → (axis : Option Axis) (test : Test) (n : ℕ) → T n → Tells O (Each T) (on_axis R axis test n)
  axis_told R x None test n t = tt
  axis_told R x (Some axis) test n t = x.axis axis test n t

  pub kept_by_sound : (predicate : Meant) → MeantSound T O predicate → (nodes : List ℕ) → Each T nodes → Sound T O (Left T nodes) (kept_by predicate nodes)
  kept_by_sound predicate k nodes a R values c g =
      kept_tells O T 1 _ nodes a (λ position n t. holds_sound T O predicate k R values (at_node c (size.Known (length nodes)) position n)
      (at_given T O R values c (size.Known (length nodes)) position n t g))

  bind_left : (nodes left : List ℕ) → Left T nodes left → (o : Outcome (List ℕ)) → Tells O (Left T left) o → Tells O (Left T nodes) o
  bind_left nodes left l (Known ks) s = left_on T nodes left ks l s
  bind_left nodes left l (Fault e) s = tt
  bind_left nodes left l (Open m) s = s

  pub filtered_sound : (predicates : List Meant) → Each (MeantSound T O) predicates → (nodes : List ℕ) → Each T nodes → Sound T O (Left T nodes) (filtered predicates nodes)
  filtered_sound [] k nodes a R values c g = all_left T nodes a
  filtered_sound (predicate ∷ predicates) k nodes a R values c g =
      bind_tells O (Left T nodes) (Left T nodes) (kept_by predicate nodes R values c) _ (kept_by_sound predicate k.0 nodes a R values c g)
      (λ left l. bind_left nodes left l (filtered predicates left R values c) (filtered_sound predicates k.1 left l.each R values c g))

  left_each : (nodes : List ℕ) (o : Outcome (List ℕ)) → Tells O (Left T nodes) o → Tells O (Each T) o
  left_each nodes (Known ks) s = s.each
  left_each nodes (Fault e) s = tt
  left_each nodes (Open m) s = s

  pub step_from_sound : (step : MeantStep) → StepSound T O step → (n : ℕ) → T n → Sound T O (Each T) (step_from step n)
  step_from_sound step k n t R values c g =
      bind_tells O (Each T) (Each T) (nodes_on R step.axis step.test n) _ (axis_told R g.reading (axis_of step.axis) (test_of step.test) n t)
      (λ nodes a. left_each nodes (filtered step.predicates nodes R values c) (filtered_sound step.predicates k nodes a R values c g))

  pub step_nodes_sound : (step : MeantStep) → StepSound T O step → (nodes : List ℕ) → Each T nodes → Sound T O (IsNodeSet T) (step_nodes step nodes)
  step_nodes_sound step k nodes a R values c g =
      bind_tells O (Each (Each T)) (IsNodeSet T) (each_of (λ n. step_from step n R values c) nodes) _
      (each_tells O T (Each T) (λ n. step_from step n R values c) nodes a (λ n t. step_from_sound step k n t R values c g))
      (λ lists b. ordered_set T (joined lists) (joined_each T lists b))

  pub steps_nodes_sound : (steps : List MeantStep) → Each (StepSound T O) steps → (nodes : List ℕ) → IsNodeSet T nodes → Sound T O (IsNodeSet T) (steps_nodes steps nodes)
  steps_nodes_sound [] k nodes i R values c g = i
  steps_nodes_sound (step ∷ steps) k nodes i R values c g =
      bind_tells O (IsNodeSet T) (IsNodeSet T) (step_nodes step nodes R values c) _ (step_nodes_sound step k.0 nodes i.1 R values c g) (λ found j. steps_nodes_sound steps k.1 found j R values c g)

  start_there : (absolute : Bool) (n : ℕ) → T 0 → T n → T (cond absolute 0 n)
  start_there true n r t = r
  start_there false n r t = t

  pub start_sound : (path : MeantPath) (R : Reading) (values : List Value) (c : Context) → Given T O R values c → T (start_of path c)
  start_sound path R values c g = start_there path.absolute c.node g.reading.root g.context.node

  pub path_nodes_sound : (path : MeantPath) → PathSound T O path → Sound T O (IsNodeSet T) (path_nodes path)
  path_nodes_sound path k R values c g = steps_nodes_sound path.parts k (start_of path c ∷ []) ((omega arith, tt), (start_sound path R values c g, tt)) R values c g

  pub tail_nodes_sound : (tail : Option MeantPath) → PathSoundIf T O tail → (nodes : List ℕ) → IsNodeSet T nodes → Sound T O (IsNodeSet T) (tail_nodes tail nodes)
  tail_nodes_sound None k nodes i R values c g = i
  tail_nodes_sound (Some path) k nodes i R values c g = steps_nodes_sound path.parts k nodes i R values c g

  -- ---- one by one

  on_told : (here : Bool) (position : ℕ) (counts : List ℕ) (o : Outcome Tested) → Tells O Anything o → Tells O Anything (tested_on here position counts o)
  on_told true position counts o s = bind_tells O Anything Anything o _ s (λ t a. tt)
  on_told false position counts o s = tt

  pub tested_sound : (predicates : List Meant) → Each (MeantSound T O) predicates → (counts : List ℕ) (n : ℕ) → T n → Sound T O Anything (tested predicates counts n)
  tested_sound [] k counts n t R values c g = tt
  tested_sound (predicate ∷ predicates) k counts n t R values c g =
      bind_tells O Anything Anything _ _
      (holds_sound T O predicate k.0 R values (at_node c size.Unasked (suc (first_count counts)) n) (at_given T O R values c size.Unasked (suc (first_count counts)) n t g))
      (λ here a. on_told here (suc (first_count counts)) (later_counts counts) _ (tested_sound predicates k.1 (later_counts counts) n t R values c g))

  if_flows : (b : Bool) (s : Stream) → Flows T O s → Flows T O (if_passed b s)
  if_flows true s f = f
  if_flows false s f = record { items = tt; ending = tt }

  through_flows : (predicates : List Meant) → Each (MeantSound T O) predicates → (inside : ℕ → Stream) → ((n : ℕ) → T n → Flows T O (inside n)) → (counts ns : List ℕ) → Each T ns
      → (ending : Ending) → EndsAt O ending → SoundItems T O (through predicates inside counts ns ending)
  through_flows predicates k inside f counts [] a ending e R values c g = record { items = tt; ending = e }
  through_flows predicates k inside f counts (n ∷ ns) a ending e R values c g =
      stream_flows O T Anything (tested predicates counts n R values c) _ (tested_sound predicates k counts n a.0 R values c g)
      (λ t b. then_flows O T _ _ (if_flows t.passed (inside n) (f n a.0)) (through_flows predicates k inside f t.counts ns a.1 ending e R values c g))

  pub steps_items_sound : (steps : List MeantStep) → Each (StepSound T O) steps → (n : ℕ) → T n → SoundItems T O (steps_items steps n)
  steps_items_sound [] k n t R values c g = record { items = (t, tt); ending = tt }
  steps_items_sound (step ∷ steps) k n t R values c g =
      let kids = g.reading.children (test_of step.test) n t in
      through_flows step.predicates k.0 (λ j. steps_items steps j R values c) (λ j u. steps_items_sound steps k.1 j u R values c g) []
      (R.children (test_of step.test) n).items kids.items (R.children (test_of step.test) n).ending kids.ending R values c g

  pub path_items_sound : (path : MeantPath) → PathSound T O path → SoundItems T O (path_items path)
  path_items_sound path k R values c g = steps_items_sound path.parts k (start_of path c) (start_sound path R values c g) R values c g

  pub streams_sound : (b : Bool) (path : MeantPath) → PathSound T O path → SoundItemsIf T O (if_streams b path)
  streams_sound true path k = path_items_sound path k
  streams_sound false path k = tt
