-- Steps lead from nodes that are there to nodes that are there.
use Rattle.std.proofs.Common.{◌≡◌, sym, ap, subst, ℕ, List, [], ◌∷◌, map, Bool, true, false, cond, arith, Ok, Option, Some, None}
use Rattle.doc_model.specs.declared.node_test.Test.{Test}
use Rattle.doc_model.specs.declared.row.Axis.{Axis}
use Rattle.doc_model.specs.declared.step.Step.{Step}
use Rattle.doc_model.specs.declared.strip_rule.StripRule.{StripRule}
use Rattle.doc_model.specs.Answers.{Known}
use Rattle.doc_model.specs.View.{Seen}
use Rattle.key_sources.specs.Going.{Lookups, Made, Fits, Says, Went}
use Rattle.key_sources.proofs.Saying as saying
use Rattle.xpath_core.specs.Ready.{IsReady}
use Rattle.xpath_core.proofs.Keeping.{all_sound}
use Rattle.xpath_core.proofs.Ready.{ready_on, told_there}
use Rattle.xpath_core.proofs.Stepping.{found_on}
use Rattle.xpath_laws.specs.Sound.{Tells, Each, IsNodeSet, IsThere, IsOpen, IsReading}
use Rattle.xpath_laws.proofs.Equations.{meant_path_is}
use Rattle.xpath_laws.proofs.Sounding.{Sound, nodes_sound}
use Rattle.xpath_laws.proofs.Tells.{Left}
use Rattle.xpath_laws.proofs.There.{reading_told}
use Rattle.xpath_laws.proofs.Trees.{expr_sound}
use Rattle.xpath_laws.proofs.Ways.{left_set, filtered_sound}
use Rattle.xpath_meaning.specs.declared.context.Context.{Context}
use Rattle.xpath_meaning.specs.Evaluation.{meant, meant_path, meant_step}
use Rattle.xpath_meaning.specs.Meanings.{MeantPath, nodes_at}
use Rattle.xpath_meaning.specs.Reading.{Reading}
use Rattle.xpath_meaning.specs.Steps.{filtered, steps_nodes, start_of, path_nodes}
use Rattle.xpath_meaning.specs.Tests.{on_axis, axis_of, test_of}
use Rattle.xpath_nodes.proofs.Holding.{all_there_on}
use Rattle.xpath_syntax.specs.declared.expression.Expr.{Expr}
use Rattle.xpath_syntax.specs.declared.expression.Path.{Path, out-Path}
use Rattle.xpath_syntax.specs.declared.expression.StepExpr.{StepExpr, out-StepExpr}
use Rattle.xpath_values.specs.declared.value.Value.{Value}

pub axis_kept : (axis : Option Axis) (test : Test) (n : ℕ) → saying.Keeps (λ R. on_axis R axis test n)
axis_kept None test n = saying.keeps_same (Known [])
axis_kept (Some axis) test n = saying.keeps_axis axis test n

axis_told : (rules : List StripRule) (steps : List Step) (R : Reading) → IsReading (IsThere rules steps) (IsOpen steps) R → (axis : Option Axis) (test : Test) (n : ℕ)
    → IsThere rules steps n → Tells (IsOpen steps) (Each (IsThere rules steps)) (on_axis R axis test n)
axis_told rules steps R x None test n t = tt
axis_told rules steps R x (Some axis) test n t = x.axis axis test n t

pub found_sound : (rules : List StripRule) (steps : List Step) (part : StepExpr) (n : ℕ) → IsThere rules steps n
    → Sound (IsThere rules steps) (IsOpen steps) (Each (IsThere rules steps)) (λ R values c. found_on part R n)
found_sound rules steps part n t R values c g = axis_told rules steps R g.reading (axis_of (out-StepExpr part).axis) (test_of (out-StepExpr part).test) n t

start_there : {M : Type 0} {s : Seen M} {fits : Fits} {values : List Value} {c : Context} → IsReady s fits values c → (absolute : Bool) → IsThere s.rules s.steps (cond absolute 0 c.node)
start_there {s = s} r true = (reading_told s.rules [] None s.steps).root
start_there r false = r.context.node

pub begins_there : {M : Type 0} {s : Seen M} {fits : Fits} {values : List Value} {c : Context} → IsReady s fits values c → (path : Path) → IsThere s.rules s.steps (start_of (meant_path path) c)
begins_there r path = start_there r (meant_path path).absolute

pub alone_there : {M : Type 0} {s : Seen M} {fits : Fits} {values : List Value} {c : Context} → IsReady s fits values c → (path : Path) (n : ℕ) → n ≡ start_of (meant_path path) c
    → IsNodeSet (IsThere s.rules s.steps) (n ∷ [])
alone_there {s = s} r path n e = subst (λ k. IsNodeSet (IsThere s.rules s.steps) (k ∷ [])) (sym e) ((omega arith, tt), (begins_there r path, tt))

pub path_is : (path : Path) (R : Reading) (values : List Value) (c : Context)
    → path_nodes (meant_path path) R values c ≡ steps_nodes (map meant_step (out-Path path).parts) (start_of (meant_path path) c ∷ []) R values c
path_is path R values c = ap (λ (p : MeantPath). steps_nodes p.parts (start_of (meant_path path) c ∷ []) R values c) (meant_path_is path)

pub tail_is : (path : Path) (from : List ℕ) (R : Reading) (values : List Value) (c : Context)
    → steps_nodes (meant_path path).parts from R values c ≡ steps_nodes (map meant_step (out-Path path).parts) from R values c
tail_is path from R values c = ap (λ (p : MeantPath). steps_nodes p.parts from R values c) (meant_path_is path)

-- the nodes of a primary
pub found_set : {M N : Type 0} {s t : Seen M} {made now : Made N} {fits later : Fits} {values : List Value} {c : Context} {lookups : Lookups} {found : List ℕ} (e : Expr)
    → IsReady s fits values c → Went s t made now later
    → Says lookups (λ R. nodes_at (meant e) R values c) s t (Ok found) → IsNodeSet (IsThere t.rules t.steps) found
found_set {t = t} e r w a = told_there (IsNodeSet (IsThere t.rules t.steps)) (nodes_at (meant e)) (nodes_sound (IsThere t.rules t.steps) (IsOpen t.steps) (meant e) (expr_sound _ _ e)) (ready_on r w) a

-- what predicates leave of them
pub left_there : {M N : Type 0} {s t : Seen M} {made now : Made N} {fits later : Fits} {values : List Value} {c : Context} {lookups : Lookups} (found : List ℕ) {left : List ℕ}
    (es : List Expr) → IsReady s fits values c → Went s t made now later → IsNodeSet (IsThere s.rules s.steps) found
    → Says lookups (λ R. filtered (map meant es) found R values c) s t (Ok left) → IsNodeSet (IsThere t.rules t.steps) left
left_there {s = s} {t} found {left} es r w i a =
    let T : ℕ → Type 0 = IsThere t.rules t.steps in
    let there = all_there_on s t found w.moves i.1 in
    left_set T found left (i.0, there)
    (told_there (Left T found) (filtered (map meant es) found) (filtered_sound T (IsOpen t.steps) (map meant es) (all_sound T (IsOpen t.steps) es) found there) (ready_on r w) a)
