-- Location paths keep what they tell.
use Rattle.std.proofs.Common.{refl, sym, ap, subst, ℕ, suc, List, [], ◌∷◌, length, Bool, true, false, Option, Some, None}
use Rattle.doc_model.specs.declared.node_test.Test.{Test}
use Rattle.doc_model.specs.declared.row.Axis.{Axis}
use Rattle.doc_model.specs.Answers.{Stays}
use Rattle.xpath_values.specs.declared.value.Value.{Value}
use Rattle.xpath_meaning.specs.declared.context.Context.{Context}
use Rattle.xpath_meaning.specs.declared.context.Size.TheVariants as size
use Rattle.xpath_meaning.specs.Items.{Tested, first_count, later_counts, tested_on, tested, if_passed, through, steps_items, path_items, if_streams}
use Rattle.xpath_meaning.specs.Meanings.{Meant, MeantStep, MeantPath, at_node}
use Rattle.xpath_meaning.specs.Outcome.{Outcome, each_of}
use Rattle.xpath_meaning.specs.Reading.{Reading, Extends}
use Rattle.xpath_meaning.specs.Steps.{kept_by, filtered, step_from, step_nodes, steps_nodes, start_of, path_nodes, tail_nodes}
use Rattle.xpath_meaning.specs.Streams.{Stream, Ending, Whole, Fault, Cut, GoesOnFrom, GoesOn}
use Rattle.xpath_meaning.specs.Tests.{axis_of, test_of, on_axis, nodes_on}
use Rattle.xpath_laws.proofs.Staying.{bind_stays, each_stays, kept_stays}
use Rattle.xpath_laws.proofs.Going.{then_goes_on, stream_goes_on, rest_goes_on}
use Rattle.xpath_laws.proofs.Keeping.{Keeps, KeepsItems, KeepsItemsIf, MeantKeeps, AllKeep, StepKeeps, AllStepsKeep, PathKeeps, PathKeepsIf, holds_keeps}

on_axis_stays : (R Q : Reading) → Extends R Q → (axis : Option Axis) (test : Test) (n : ℕ) → Stays (on_axis R axis test n) (on_axis Q axis test n)
on_axis_stays R Q x None test n = refl
on_axis_stays R Q x (Some axis) test n = x.axis axis test n

pub kept_by_keeps : (predicate : Meant) → MeantKeeps predicate → (nodes : List ℕ) → Keeps (kept_by predicate nodes)
kept_by_keeps predicate k nodes R Q x values c =
    kept_stays 1 _ _ nodes (λ position n. holds_keeps predicate k R Q x values (at_node c (size.Known (length nodes)) position n))

pub filtered_keeps : (predicates : List Meant) → AllKeep predicates → (nodes : List ℕ) → Keeps (filtered predicates nodes)
filtered_keeps [] k nodes R Q x values c = refl
filtered_keeps (predicate ∷ predicates) k nodes R Q x values c =
    bind_stays (kept_by predicate nodes R values c) (kept_by predicate nodes Q values c) _ _ (kept_by_keeps predicate k.0 nodes R Q x values c)
    (λ left. filtered_keeps predicates k.1 left R Q x values c)

pub step_from_keeps : (step : MeantStep) → StepKeeps step → (n : ℕ) → Keeps (step_from step n)
step_from_keeps step k n R Q x values c =
    bind_stays (nodes_on R step.axis step.test n) (nodes_on Q step.axis step.test n) _ _ (on_axis_stays R Q x (axis_of step.axis) (test_of step.test) n)
    (λ nodes. filtered_keeps step.predicates k nodes R Q x values c)

pub step_nodes_keep : (step : MeantStep) → StepKeeps step → (nodes : List ℕ) → Keeps (step_nodes step nodes)
step_nodes_keep step k nodes R Q x values c =
    bind_stays (each_of (λ n. step_from step n R values c) nodes) (each_of (λ n. step_from step n Q values c) nodes) _ _
    (each_stays (λ n. step_from step n R values c) (λ n. step_from step n Q values c) nodes (λ n. step_from_keeps step k n R Q x values c)) (λ lists. refl)

pub steps_nodes_keep : (steps : List MeantStep) → AllStepsKeep steps → (nodes : List ℕ) → Keeps (steps_nodes steps nodes)
steps_nodes_keep [] k nodes R Q x values c = refl
steps_nodes_keep (step ∷ steps) k nodes R Q x values c =
    bind_stays (step_nodes step nodes R values c) (step_nodes step nodes Q values c) _ _ (step_nodes_keep step k.0 nodes R Q x values c) (λ found. steps_nodes_keep steps k.1 found R Q x values c)

pub path_nodes_keep : (path : MeantPath) → PathKeeps path → Keeps (path_nodes path)
path_nodes_keep path k R Q x values c = steps_nodes_keep path.parts k (start_of path c ∷ []) R Q x values c

pub tail_nodes_keep : (tail : Option MeantPath) → PathKeepsIf tail → (nodes : List ℕ) → Keeps (tail_nodes tail nodes)
tail_nodes_keep None k nodes R Q x values c = refl
tail_nodes_keep (Some path) k nodes R Q x values c = steps_nodes_keep path.parts k nodes R Q x values c

-- ---- one by one

on_stays : (here : Bool) (position : ℕ) (counts : List ℕ) (a b : Outcome Tested) → Stays a b → Stays (tested_on here position counts a) (tested_on here position counts b)
on_stays true position counts a b s = bind_stays a b _ _ s (λ t. refl)
on_stays false position counts a b s = refl

pub tested_keeps : (predicates : List Meant) → AllKeep predicates → (counts : List ℕ) (n : ℕ) → Keeps (tested predicates counts n)
tested_keeps [] k counts n R Q x values c = refl
tested_keeps (predicate ∷ predicates) k counts n R Q x values c =
    bind_stays _ _ _ _ (holds_keeps predicate k.0 R Q x values (at_node c size.Unasked (suc (first_count counts)) n))
    (λ here. on_stays here (suc (first_count counts)) (later_counts counts) _ _ (tested_keeps predicates k.1 (later_counts counts) n R Q x values c))

if_goes_on : (b : Bool) (s t : Stream) → GoesOn s t → GoesOn (if_passed b s) (if_passed b t)
if_goes_on true s t l = l
if_goes_on false s t l = refl

through_goes_on : (predicates : List Meant) → AllKeep predicates → (f g : ℕ → Stream) → ((n : ℕ) → GoesOn (f n) (g n)) → (R Q : Reading) → Extends R Q
    → (values : List Value) (c : Context) (counts ns : List ℕ) (ending : Ending) (t : Stream)
    → GoesOnFrom ns ending t → GoesOn (through predicates f counts ns ending R values c) (through predicates g counts t.items t.ending Q values c)
through_goes_on predicates k f g l R Q x values c counts [] Whole t h = ap (λ (u : Stream). through predicates g counts u.items u.ending Q values c) h
through_goes_on predicates k f g l R Q x values c counts [] (Fault e) t h = ap (λ (u : Stream). through predicates g counts u.items u.ending Q values c) h
through_goes_on predicates k f g l R Q x values c counts [] (Cut m) t h = ((through predicates g counts t.items t.ending Q values c).items, refl)
through_goes_on predicates k f g l R Q x values c counts (n ∷ ns) ending t h =
    let r = rest_goes_on n ns t ending h in
    subst (λ items. GoesOn (through predicates f counts (n ∷ ns) ending R values c) (through predicates g counts items t.ending Q values c)) (sym r.1)
    (stream_goes_on (tested predicates counts n R values c) (tested predicates counts n Q values c) _ _ (tested_keeps predicates k counts n R Q x values c)
    (λ tested. then_goes_on _ _ _ _ (if_goes_on tested.passed (f n) (g n) (l n))
    (through_goes_on predicates k f g l R Q x values c tested.counts ns ending (record { items = r.0; ending = t.ending }) r.2)))

pub steps_items_keep : (steps : List MeantStep) → AllStepsKeep steps → (n : ℕ) → KeepsItems (steps_items steps n)
steps_items_keep [] k n R Q x values c = refl
steps_items_keep (step ∷ steps) k n R Q x values c =
    through_goes_on step.predicates k.0 (λ j. steps_items steps j R values c) (λ j. steps_items steps j Q values c) (λ j. steps_items_keep steps k.1 j R Q x values c)
    R Q x values c [] (R.children (test_of step.test) n).items (R.children (test_of step.test) n).ending (Q.children (test_of step.test) n) (x.children (test_of step.test) n)

pub path_items_keep : (path : MeantPath) → PathKeeps path → KeepsItems (path_items path)
path_items_keep path k R Q x values c = steps_items_keep path.parts k (start_of path c) R Q x values c

pub streams_keep : (b : Bool) (path : MeantPath) → PathKeeps path → KeepsItemsIf (if_streams b path)
streams_keep true path k = path_items_keep path k
streams_keep false path k = tt
