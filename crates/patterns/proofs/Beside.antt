-- The predicates of a step, and the nodes that they see.
use Rattle.std.proofs.Common.{◌≡◌, refl, sym, ap, ◌∙◌, ℕ, ◌+◌, ◌<◌, List, [], ◌∷◌, ◌++◌, length}
use Rattle.std.proofs.Common.{get_or, drop, map, reverse, Bool, true, false, cond, ltb, Result, Ok, Err, IfOk, append-nil, arith, inl, inr}
use Rattle.std.specs.Prelude.{◌||◌}
use Rattle.std.proofs.lemmas.Bool.{cases_Bool, ltb-true, ltb-false}
use mathlib.Core.List.{reverse_aux}
use Rattle.doc_model.specs.declared.node_test.Test.{Test}
use Rattle.doc_model.specs.declared.row.Axis.{Axis}
use Rattle.doc_model.specs.Answers.{Known, Fault, Open}
use Rattle.doc_model.specs.Document.{is_member}
use Rattle.doc_model.specs.View.{Seen}
use Rattle.key_sources.specs.Going.{Lookups, Says}
use Rattle.xpath_funcs.specs.Spaces.{words}
use Rattle.xpath_laws.specs.Sound.{Rows, Each, IsThere}
use Rattle.xpath_laws.proofs.Equations.{meant_step_is}
use Rattle.xpath_laws.proofs.Order.{order_members}
use Rattle.xpath_meaning.specs.declared.context.Size.{Size}
use Rattle.xpath_meaning.specs.declared.stop.EvalStop.{EvalStop}
use Rattle.xpath_meaning.specs.DocumentOrder.{document_order}
use Rattle.xpath_meaning.specs.Evaluation.{meant}
use Rattle.xpath_meaning.specs.Functions.{named_by_ids}
use Rattle.xpath_meaning.specs.Match.{MatchStep, match_step, is_attribute_axis, mentions_last, beside, size_of, says, position_in, passes, passes_all, is_found_by_ids}
use Rattle.xpath_meaning.specs.Meanings.{Meant}
use Rattle.xpath_meaning.specs.Outcome.{Outcome, ◌>>=◌, each_of, kept_from}
use Rattle.xpath_meaning.specs.Reading.{Reading}
use Rattle.xpath_meaning.specs.Steps.{joined}
use Rattle.xpath_meaning.specs.Tests.{test_of}
use Rattle.xpath_nodes.proofs.ByView.{axis_held}
use Rattle.xpath_syntax.specs.declared.expression.Expr.{Expr}
use Rattle.xpath_syntax.specs.declared.expression.StepExpr.{out-StepExpr}
use Rattle.xpath_syntax.specs.declared.pattern.PatternStep.{PatternStep}
use Rattle.xpath_values.specs.declared.atom.Atom.TheVariants.{Text}
use Rattle.xpath_values.specs.declared.value.Value.TheVariants.{Nodes, Atom}
use Rattle.patterns.specs.Found.{has_node}
use Rattle.patterns.proofs.Keeping.{passes_turns, passes_last}

-- ---- nodes of an axis are there

pub says_there : {M : Type 0} {lookups : Lookups} {s t : Seen M} (axis : Axis) (test : Test) (n : ℕ) (result : Result (List ℕ) EvalStop) → IsThere t.rules t.steps n
    → Says lookups (λ R. R.axis axis test n) s t result
    → IfOk result (λ nodes. Each (IsThere t.rules t.steps) nodes)
says_there axis test n (Ok nodes) w a = axis_held axis test n w a
says_there axis test n (Err x) w a = tt

each_onto : (T : Rows) (xs done : List ℕ) → Each T xs → Each T done → Each T (reverse_aux xs done)
each_onto T [] done a d = d
each_onto T (x ∷ xs) done a d = each_onto T xs (x ∷ done) a.1 (a.0, d)

pub each_reversed : (T : Rows) (xs : List ℕ) → Each T xs → Each T (reverse xs)
each_reversed T xs a = each_onto T xs [] a tt

pub kept_if_each : (T : Rows) (here : Bool) (kept : List ℕ) (n : ℕ) → Each T (kept ++ n ∷ []) → Each T kept → Each T (cond here (kept ++ n ∷ []) kept)
kept_if_each T true kept n a b = a
kept_if_each T false kept n a b = b

-- ---- the predicates of a step

passed : (R : Reading) (step : MatchStep) (above n : ℕ) (ms : List Meant) → 0 < length ms
    → passes_all R step above n ms ≡ (beside step.attribute step.whole step.test R above n >>= λ nodes. passes R (step.attribute || step.whole) n ms nodes)
passed R step above n [] l = absurd (omega (arith, l))
passed R step above n (m ∷ ms) l = refl

meant_more : (es : List Expr) → 0 < length es → 0 < length (map meant es)
meant_more [] l = absurd (omega (arith, l))
meant_more (e ∷ es) l = omega arith

pub none_passed : (R : Reading) (step : PatternStep) (above n : ℕ) (es : List Expr) → es ≡ (out-StepExpr step.part).predicates → es ≡ []
    → passes_all R (match_step step) above n (match_step step).predicates ≡ Known true
none_passed R step above n es e f =
    ap (passes_all R (match_step step) above n) (ap (λ s. s.predicates) (meant_step_is step.part) ∙ ap (map meant) (sym e ∙ f))

-- in the words of what is read of the step
pub all_passed : (R : Reading) (step : PatternStep) (above n : ℕ) (es : List Expr) (attribute whole known : Bool) (test : Test) → es ≡ (out-StepExpr step.part).predicates → 0 < length es
    → attribute ≡ is_attribute_axis (out-StepExpr step.part).axis → whole ≡ mentions_last es → known ≡ (attribute || whole) → test ≡ test_of (out-StepExpr step.part).test
    → passes_all R (match_step step) above n (match_step step).predicates ≡ (beside attribute whole test R above n >>= λ nodes. passes R known n (map meant es) nodes)
all_passed R step above n es attribute whole known test e l a w k t =
    let A = is_attribute_axis (out-StepExpr step.part).axis in
    let W = mentions_last (out-StepExpr step.part).predicates in
    let T = test_of (out-StepExpr step.part).test in
    let same : W ≡ whole = ap mentions_last (sym e) ∙ sym w in
    ap (passes_all R (match_step step) above n) (ap (λ s. s.predicates) (meant_step_is step.part) ∙ ap (map meant) (sym e))
    ∙ passed R (match_step step) above n (map meant es) (meant_more es l)
    ∙ ap (λ b. beside b W T R above n >>= λ nodes. passes R (b || W) n (map meant es) nodes) (sym a)
    ∙ ap (λ b. beside attribute b T R above n >>= λ nodes. passes R (attribute || b) n (map meant es) nodes) same
    ∙ ap (λ x. beside attribute whole x R above n >>= λ nodes. passes R (attribute || whole) n (map meant es) nodes) (sym t)
    ∙ ap (λ b. beside attribute whole test R above n >>= λ nodes. passes R b n (map meant es) nodes) (sym k)

next_within : (i count : ℕ) → i < count → (i + 1 ≡ count → ⊥) → i + 1 < count
next_within i count a h = elim (cases_Bool (ltb (i + 1) count)) [
  | inl e ↦ ltb-true (i + 1) count e
  | inr e ↦ absurd (h (let l = ltb-false (i + 1) count e in omega (arith, a, l)))
]

pub last_passes : (R : Reading) (known : Bool) (n : ℕ) (es : List Expr) (i : ℕ) (e : Expr) (left among : List ℕ) (size : Size) (position : ℕ) → i + 1 ≡ length es → e ≡ get_or es i e
    → among ≡ left → size ≡ size_of known among
    → position ≡ position_in 1 n among → passes R known n (map meant (drop i es)) left ≡ says R size (meant e) position n
last_passes R known n es i e left among size position l f a s p =
    ap (passes R known n (map meant (drop i es))) (sym a) ∙ passes_last R known n es i e among l f
    ∙ ap (λ z. says R z (meant e) (position_in 1 n among) n) (sym s) ∙ ap (λ k. says R size (meant e) k n) (sym p)

pub next_passes : (R : Reading) (known : Bool) (n : ℕ) (es : List Expr) (i : ℕ) (e : Expr) (left among : List ℕ) (size : Size) → i < length es → (i + 1 ≡ length es → ⊥) → e ≡ get_or es i e
    → among ≡ left → size ≡ size_of known among
    → passes R known n (map meant (drop i es)) left
    ≡ (kept_from 1 (says R size (meant e)) among >>= λ kept. cond (is_member n kept) (passes R known n (map meant (drop (i + 1) es)) kept) (Known false))
next_passes R known n es i e left among size l h f a s =
    ap (passes R known n (map meant (drop i es))) (sym a) ∙ passes_turns R known n es i e among (next_within i (length es) l h) f
    ∙ ap (λ z. kept_from 1 (says R z (meant e)) among >>= λ kept. cond (is_member n kept) (passes R known n (map meant (drop (i + 1) es)) kept) (Known false)) (sym s)

-- ---- a node that IDs name

listed : (n : ℕ) (o : Outcome (List (List ℕ)))
    → (o >>= λ lists. Known (is_member n (joined lists))) ≡ ((o >>= λ lists. Known (Nodes (document_order (joined lists)))) >>= λ named. Known (has_node n named))
listed n (Known lists) = ap (λ b. Known b) (sym (order_members (joined lists) n))
listed n (Fault x) = refl
listed n (Open m) = refl

once_shut : (n : ℕ) (w : Outcome (Unit {0})) (o : Outcome (List (List ℕ)))
    → (w >>= λ shut. o >>= λ lists. Known (is_member n (joined lists))) ≡ ((w >>= λ shut. o >>= λ lists. Known (Nodes (document_order (joined lists)))) >>= λ named. Known (has_node n named))
once_shut n (Known shut) o = listed n o
once_shut n (Fault x) o = refl
once_shut n (Open m) o = refl

pub named_has : (R : Reading) (ids made : List ℕ) (n : ℕ) → made ≡ ids → is_found_by_ids R ids n ≡ (named_by_ids R (Atom (Text made)) >>= λ named. Known (has_node n named))
named_has R ids made n e =
    once_shut n R.whole (each_of (λ id. R.by_id id) (words ids))
    ∙ ap (λ ws. (R.whole >>= λ shut. each_of (λ id. R.by_id id) ws >>= λ lists. Known (Nodes (document_order (joined lists)))) >>= λ named. Known (has_node n named)) (sym (append-nil (words ids)))
    ∙ ap (λ (text : List ℕ). named_by_ids R (Atom (Text text)) >>= λ named. Known (has_node n named)) (sym e)
