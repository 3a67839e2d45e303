-- One turn of each loop over steps, nodes and predicates, and its end.
use Rattle.std.proofs.Common.{◌≡◌, refl, sym, ap, ◌∙◌, ℕ, zero, suc, ◌+◌, ◌^◌, ◌<◌, ◌≤◌, List, [], ◌∷◌, ◌++◌, length, get_or, drop, map, Bool, true}
use Rattle.std.proofs.Common.{false, append_assoc, append-nil, add-one, arith, Result, Ok, Err}
use Rattle.std.specs.Prelude.{IsErrAnd}
use Rattle.doc_model.specs.Answers.{Known, Fault, Open}
use Rattle.doc_model.specs.View.{Seen, Moves}
use Rattle.key_sources.specs.Going.{Lookups, Says, Gives}
use Rattle.key_sources.proofs.Loops.{Leaves}
use Rattle.key_sources.proofs.Saying.{says_same, says_given}
use Rattle.xpath_core.specs.declared.levels.Tested.{Tested}
use Rattle.xpath_core.specs.Left.{finished_with, tested_in}
use Rattle.xpath_laws.specs.Sound.{Each}
use Rattle.xpath_meaning.specs.declared.stop.EvalStop.{EvalStop}
use Rattle.xpath_meaning.specs.declared.stop.EvalStop.TheVariants as stop
use Rattle.xpath_meaning.specs.declared.context.Context.{Context}
use Rattle.xpath_meaning.specs.declared.context.Size.TheVariants as size
use Rattle.xpath_meaning.specs.DocumentOrder.{document_order}
use Rattle.xpath_meaning.specs.Evaluation.{meant, meant_step}
use Rattle.xpath_meaning.specs.Items as items
use Rattle.xpath_meaning.specs.Items.{first_count, later_counts, tested_on, tested}
use Rattle.xpath_meaning.specs.Meanings.{holds_at, at_node}
use Rattle.xpath_meaning.specs.Outcome.{Outcome, ◌>>=◌, each_of, kept_from, with_if}
use Rattle.xpath_meaning.specs.Reading.{Reading}
use Rattle.xpath_meaning.specs.Steps.{joined, kept_by, filtered, step_nodes, steps_nodes}
use Rattle.xpath_meaning.specs.Tests.{on_axis, axis_of, test_of}
use Rattle.xpath_nodes.proofs.Turning.{then_then, rest_of, no_rest}
use Rattle.xpath_laws.proofs.Equations.{meant_step_is}
use Rattle.xpath_syntax.specs.declared.expression.Expr.{Expr}
use Rattle.xpath_syntax.specs.declared.expression.StepExpr.{StepExpr, out-StepExpr}
use Rattle.xpath_values.specs.declared.value.Value.{Value}

-- what is left of a list, where its next item is given
pub left_with : {A : Type 0} (xs : List A) (i : ℕ) (x : A) → i < length xs → x ≡ get_or xs i x → drop i xs ≡ x ∷ drop (i + 1) xs
left_with xs i x h e = rest_of xs i x h ∙ ap (λ t. t ∷ drop (i + 1) xs) (sym e)

-- ---- a predicate

-- whether a predicate holds at a node of a list
abbrev pub holds_of : Expr → ℕ → List Value → Context → Reading → ℕ → ℕ → Outcome Bool
holds_of e count values c R position n = holds_at (meant e) R values (at_node c (size.Known count) position n)

-- what is left of keeping nodes, behind these
abbrev pub keeping : (ℕ → ℕ → Outcome Bool) → ℕ → List ℕ → List ℕ → Outcome (List ℕ)
keeping f position nodes kept = kept_from position f nodes >>= λ more. Known (kept ++ more)

keeps_again : (o : Outcome (List ℕ)) (none : List ℕ) → none ≡ [] → o ≡ (o >>= λ more. Known (none ++ more))
keeps_again (Known xs) none e = ap (λ n. Known (n ++ xs)) (sym e)
keeps_again (Fault f) none e = refl
keeps_again (Open m) none e = refl

pub keep_starts : (f : ℕ → ℕ → Outcome Bool) (nodes none : List ℕ) → none ≡ [] → kept_from 1 f nodes ≡ keeping f 1 (drop 0 nodes) none
keep_starts f nodes none e = keeps_again (kept_from 1 f nodes) none e

with_more : (here : Bool) (n : ℕ) (kept more : List ℕ) → kept ++ with_if here n more ≡ (kept ++ with_if here n []) ++ more
with_more true n kept more = sym (append_assoc kept (n ∷ []) more)
with_more false n kept more = ap (λ k. k ++ more) (sym (append-nil kept))

keeps_one : (a : Outcome Bool) (o : Outcome (List ℕ)) (n : ℕ) (kept : List ℕ)
    → ((a >>= λ here. o >>= λ rest. Known (with_if here n rest)) >>= λ more. Known (kept ++ more)) ≡ (a >>= λ here. o >>= λ more. Known ((kept ++ with_if here n []) ++ more))
keeps_one (Known here) (Known rest) n kept = ap Known (with_more here n kept rest)
keeps_one (Known here) (Fault f) n kept = refl
keeps_one (Known here) (Open m) n kept = refl
keeps_one (Fault f) o n kept = refl
keeps_one (Open m) o n kept = refl

pub keep_turns : (f : ℕ → ℕ → Outcome Bool) (nodes : List ℕ) (i position : ℕ) (kept : List ℕ) → i < length nodes
    → keeping f position (drop i nodes) kept ≡ (f position (get_or nodes i 0) >>= λ here. keeping f (position + 1) (drop (i + 1) nodes) (kept ++ with_if here (get_or nodes i 0) []))
keep_turns f nodes i position kept h =
    let n : ℕ = get_or nodes i 0 in
    ap (λ left. keeping f position left kept) (rest_of nodes i 0 h)
    ∙ keeps_one (f position n) (kept_from (suc position) f (drop (i + 1) nodes)) n kept
    ∙ ap (λ next. f position n >>= λ here. keeping f next (drop (i + 1) nodes) (kept ++ with_if here n [])) (sym (add-one position))

pub keep_ends : (f : ℕ → ℕ → Outcome Bool) (nodes : List ℕ) (i position : ℕ) (kept : List ℕ) → length nodes ≤ i → keeping f position (drop i nodes) kept ≡ Known kept
keep_ends f nodes i position kept h = ap (λ left. keeping f position left kept) (no_rest nodes i h) ∙ ap Known (append-nil kept)

-- ---- predicates

pub filter_turns : (es : List Expr) (i : ℕ) (e : Expr) (nodes : List ℕ) (R : Reading) (values : List Value) (c : Context) → i < length es → e ≡ get_or es i e
    → filtered (map meant (drop i es)) nodes R values c ≡ (kept_by (meant e) nodes R values c >>= λ left. filtered (map meant (drop (i + 1) es)) left R values c)
filter_turns es i e nodes R values c h is = ap (λ left. filtered (map meant left) nodes R values c) (left_with es i e h is)

pub filter_ends : (es : List Expr) (i : ℕ) (nodes : List ℕ) (R : Reading) (values : List Value) (c : Context) → length es ≤ i → filtered (map meant (drop i es)) nodes R values c ≡ Known nodes
filter_ends es i nodes R values c h = ap (λ left. filtered (map meant left) nodes R values c) (no_rest es i h)

-- ---- a step

-- what is left of finding nodes, behind these
abbrev pub finding : (ℕ → Outcome (List ℕ)) → List ℕ → List ℕ → Outcome (List ℕ)
finding f from all = each_of f from >>= λ lists. Known (document_order (all ++ joined lists))

finds_one : (a : Outcome (List ℕ)) (o : Outcome (List (List ℕ))) (all : List ℕ)
    → ((a >>= λ y. o >>= λ ys. Known (y ∷ ys)) >>= λ lists. Known (document_order (all ++ joined lists))) ≡ (a >>= λ y. o >>= λ lists. Known (document_order ((all ++ y) ++ joined lists)))
finds_one (Known y) (Known ys) all = ap (λ ns. Known (document_order ns)) (sym (append_assoc all y (joined ys)))
finds_one (Known y) (Fault f) all = refl
finds_one (Known y) (Open m) all = refl
finds_one (Fault f) o all = refl
finds_one (Open m) o all = refl

-- the nodes of a step from one node, where the test is given
abbrev pub found_on : StepExpr → Reading → ℕ → Outcome (List ℕ)
found_on part R n = on_axis R (axis_of (out-StepExpr part).axis) (test_of (out-StepExpr part).test) n

abbrev pub left_by : StepExpr → List ℕ → Reading → List Value → Context → Outcome (List ℕ)
left_by part found R values c = filtered (map meant (out-StepExpr part).predicates) found R values c

abbrev pub one_step : StepExpr → List Value → Context → Reading → ℕ → Outcome (List ℕ)
one_step part values c R n = found_on part R n >>= λ found. left_by part found R values c

pub step_starts : (part : StepExpr) (from none : List ℕ) (R : Reading) (values : List Value) (c : Context) → none ≡ []
    → step_nodes (meant_step part) from R values c ≡ finding (one_step part values c R) (drop 0 from) none
step_starts part from none R values c e = ap (λ step. step_nodes step from R values c) (meant_step_is part) ∙ ap (finding (one_step part values c R) from) (sym e)

pub step_turns : (part : StepExpr) (from : List ℕ) (i : ℕ) (all : List ℕ) (R : Reading) (values : List Value) (c : Context) → i < length from
    → finding (one_step part values c R) (drop i from) all
    ≡ (found_on part R (get_or from i 0) >>= λ found. left_by part found R values c >>= λ left. finding (one_step part values c R) (drop (i + 1) from) (all ++ left))
step_turns part from i all R values c h =
    ap (λ left. finding (one_step part values c R) left all) (rest_of from i 0 h)
    ∙ finds_one (one_step part values c R (get_or from i 0)) (each_of (one_step part values c R) (drop (i + 1) from)) all
    ∙ then_then (found_on part R (get_or from i 0)) (λ found. left_by part found R values c) (λ y. finding (one_step part values c R) (drop (i + 1) from) (all ++ y))

pub step_ends : (part : StepExpr) (from : List ℕ) (i : ℕ) (all : List ℕ) (R : Reading) (values : List Value) (c : Context) → length from ≤ i
    → finding (one_step part values c R) (drop i from) all ≡ Known (document_order all)
step_ends part from i all R values c h = ap (λ left. finding (one_step part values c R) left all) (no_rest from i h) ∙ ap (λ ns. Known (document_order ns)) (append-nil all)

-- ---- steps

pub steps_turn : (parts : List StepExpr) (i : ℕ) (part : StepExpr) (nodes : List ℕ) (R : Reading) (values : List Value) (c : Context) → i < length parts → part ≡ get_or parts i part
    → steps_nodes (map meant_step (drop i parts)) nodes R values c ≡ (step_nodes (meant_step part) nodes R values c >>= λ found. steps_nodes (map meant_step (drop (i + 1) parts)) found R values c)
steps_turn parts i part nodes R values c h e = ap (λ left. steps_nodes (map meant_step left) nodes R values c) (left_with parts i part h e)

pub steps_end : (parts : List StepExpr) (i : ℕ) (nodes : List ℕ) (R : Reading) (values : List Value) (c : Context) → length parts ≤ i
    → steps_nodes (map meant_step (drop i parts)) nodes R values c ≡ Known nodes
steps_end parts i nodes R values c h = ap (λ left. steps_nodes (map meant_step left) nodes R values c) (no_rest parts i h)

-- ---- a node tested by predicates

-- what is left of testing a node, behind these counts
abbrev pub testing : List Expr → List ℕ → ℕ → List ℕ → Reading → List Value → Context → Outcome items.Tested
testing es counts n after R values c = tested (map meant es) counts n R values c >>= λ t. Known (record { counts = after ++ t.counts; passed = t.passed })

tests_again : (o : Outcome items.Tested) (none : List ℕ) → none ≡ [] → o ≡ (o >>= λ t. Known (record { counts = none ++ t.counts; passed = t.passed }))
tests_again (Known t) none e = ap (λ n. Known (record { counts = n ++ t.counts; passed = t.passed })) (sym e)
tests_again (Fault f) none e = refl
tests_again (Open m) none e = refl

pub test_starts : (es : List Expr) (counts : List ℕ) (n : ℕ) (none : List ℕ) (R : Reading) (values : List Value) (c : Context) → none ≡ []
    → tested (map meant es) counts n R values c ≡ testing (drop 0 es) (drop 0 counts) n none R values c
test_starts es counts n none R values c e = tests_again (tested (map meant es) counts n R values c) none e

-- behind a predicate that holds, and where it does not
abbrev pub on_test : Bool → Outcome items.Tested → ℕ → List ℕ → List ℕ → Outcome items.Tested
on_test true rest position counts after = rest >>= λ t. Known (record { counts = (after ++ position ∷ []) ++ t.counts; passed = t.passed })
on_test false rest position counts after = Known (record { counts = (after ++ position ∷ []) ++ counts; passed = false })

test_on : (here : Bool) (rest : Outcome items.Tested) (position : ℕ) (counts after : List ℕ)
    → (tested_on here position counts rest >>= λ t. Known (record { counts = after ++ t.counts; passed = t.passed })) ≡ on_test here rest position counts after
test_on true (Known t) position counts after = ap (λ ns. Known (record { counts = ns; passed = t.passed })) (sym (append_assoc after (position ∷ []) t.counts))
test_on true (Fault f) position counts after = refl
test_on true (Open m) position counts after = refl
test_on false rest position counts after = ap (λ ns. Known (record { counts = ns; passed = false })) (sym (append_assoc after (position ∷ []) counts))

tests_one : (a : Outcome Bool) (rest : Outcome items.Tested) (position : ℕ) (counts after : List ℕ)
    → ((a >>= λ here. tested_on here position counts rest) >>= λ t. Known (record { counts = after ++ t.counts; passed = t.passed })) ≡ (a >>= λ here. on_test here rest position counts after)
tests_one (Known here) rest position counts after = test_on here rest position counts after
tests_one (Fault f) rest position counts after = refl
tests_one (Open m) rest position counts after = refl

later_drop : (counts : List ℕ) (i : ℕ) → later_counts (drop i counts) ≡ drop (i + 1) counts
later_drop counts i = by counts i ∙ ap (λ k. drop k counts) (sym (add-one i))
  where
    by : (counts : List ℕ) (i : ℕ) → later_counts (drop i counts) ≡ drop (suc i) counts
    by [] zero = refl
    by [] (suc i) = refl
    by (n ∷ ns) zero = refl
    by (n ∷ ns) (suc i) = by ns i

pub test_turns : (es : List Expr) (i : ℕ) (e : Expr) (counts : List ℕ) (n : ℕ) (after : List ℕ) (R : Reading) (values : List Value) (c : Context) → i < length es → e ≡ get_or es i e
    → testing (drop i es) (drop i counts) n after R values c
    ≡ (holds_at (meant e) R values (at_node c size.Unasked (suc (first_count (drop i counts))) n) >>= λ here. on_test here
    (tested (map meant (drop (i + 1) es)) (drop (i + 1) counts) n R values c) (suc (first_count (drop i counts))) (drop (i + 1) counts) after)
test_turns es i e counts n after R values c h is =
    ap (λ left. testing left (drop i counts) n after R values c) (left_with es i e h is)
    ∙ tests_one (holds_at (meant e) R values (at_node c size.Unasked (suc (first_count (drop i counts))) n))
    (tested (map meant (drop (i + 1) es)) (later_counts (drop i counts)) n R values c) (suc (first_count (drop i counts))) (later_counts (drop i counts)) after
    ∙ ap (λ later. holds_at (meant e) R values (at_node c size.Unasked (suc (first_count (drop i counts))) n) >>= λ here. on_test here
    (tested (map meant (drop (i + 1) es)) later n R values c) (suc (first_count (drop i counts))) later after) (later_drop counts i)

pub test_ends : (es : List Expr) (i : ℕ) (counts : List ℕ) (n : ℕ) (after : List ℕ) (R : Reading) (values : List Value) (c : Context) → length es ≤ i
    → testing (drop i es) (drop i counts) n after R values c ≡ Known (record { counts = after ++ drop i counts; passed = true })
test_ends es i counts n after R values c h = ap (λ left. testing left (drop i counts) n after R values c) (no_rest es i h)

-- ---- a node that was tested

abbrev pub finished_as : List ℕ → List ℕ → Bool → items.Tested
finished_as after counts passed = record { counts = after ++ drop (length after) counts; passed = passed }

gives_tested : (after counts : List ℕ) (passed : Bool) (r : Result Tested EvalStop) → Gives (Known (finished_with after counts passed)) r
    → Gives (Known (finished_as after counts passed)) (tested_in r)
gives_tested after counts passed (Ok t) e =
    let same : finished_with after counts passed ≡ t = known_is (finished_with after counts passed) t e in
    ap (λ (x : Tested). Known (record { counts = x.counts; passed = x.passed })) same
  where
    known_is : (x y : Tested) → ◌≡◌ {A = Outcome Tested} (Known x) (Known y) → x ≡ y
    known_is x y e = cc
gives_tested after counts passed (Err (stop.NotYet m)) e = absurd (let no : ◌≡◌ {A = Outcome Tested} (Known (finished_with after counts passed)) (Open m) = e in cc)
gives_tested after counts passed (Err (stop.Fault f)) e = absurd (let no : ◌≡◌ {A = Outcome Tested} (Known (finished_with after counts passed)) (Fault f) = e in cc)
gives_tested after counts passed (Err stop.Memory) e = tt

pub finishes : {M : Type 0} {lookups : Lookups} {s t : Seen M} {left whole : Reading → Outcome items.Tested} (after counts : List ℕ) (passed : Bool) (r : Result Tested EvalStop)
    → Leaves lookups s t left whole → Moves t t → ((R : Reading) → left R ≡ Known (finished_as after counts passed))
    → Gives (Known (finished_with after counts passed)) r → Says lookups whole s t (tested_in r)
finishes {t = t} after counts passed r w m e g = w.rest t (tested_in r) m (says_same e (says_given (Known (finished_as after counts passed)) (tested_in r) m (gives_tested after counts passed r g)))

first_few : (counts : List ℕ) (i : ℕ) → Each (λ k. k < 2 ^ 32) counts → first_count (drop i counts) < 2 ^ 32
first_few [] zero a = omega arith
first_few [] (suc i) a = omega arith
first_few (n ∷ ns) zero a = a.0
first_few (n ∷ ns) (suc i) a = first_few ns i a.1

pub count_few : (counts : List ℕ) (i count : ℕ) → Each (λ k. k < 2 ^ 32) counts → count ≡ first_count (drop i counts) → count < 2 ^ 32
count_few counts i count a e = let l = first_few counts i a in omega (arith, l, e)

pub exit_tested : (e : EvalStop) (r : Result Tested EvalStop) → IsErrAnd r (λ d. d ≡ e) → IsErrAnd (tested_in r) (λ d. d ≡ e)
exit_tested e (Ok t) a = a
exit_tested e (Err d) a = a
