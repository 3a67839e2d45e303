-- The nodes of steps without predicates on a whole document.
use Rattle.std.proofs.Common.{◌≡◌, refl, sym, ap, ◌∙◌, subst, ℕ, Bool, true, false, ltb, List, [], ◌∷◌, length, map, Option, Some, None}
use Rattle.std.proofs.lemmas.Bool.{and_parts, ltb-true, false≢true}
use Rattle.doc_model.specs.declared.node_test.Test.{Test}
use Rattle.doc_model.specs.declared.row.Axis.{Axis}
use Rattle.doc_model.specs.declared.row.Row.{Row}
use Rattle.doc_model.specs.declared.step.Step.{Step}
use Rattle.doc_model.specs.declared.strip_rule.StripRule.{StripRule}
use Rattle.doc_model.specs.Answers.{Known}
use Rattle.doc_model.specs.Axes.{axis_rows, is_selected}
use Rattle.doc_model.specs.Document.{is_member}
use Rattle.doc_model.specs.Lawful.{IsComplete}
use Rattle.doc_model.specs.Rows.{rows_of}
use Rattle.doc_model.specs.Strip.{is_visible}
use Rattle.doc_laws.proofs.Selected.{axis_members}
use Rattle.sheet_ast.specs.declared.sheet.KeyDecl.{KeyDecl}
use Rattle.xpath_meaning.specs.declared.context.Context.{Context}
use Rattle.xpath_meaning.specs.DocumentOrder.{document_order}
use Rattle.xpath_meaning.specs.Evaluation.{evaluation_of, expr_means, meant, meant_path, meant_step, path_means, path_value, step_means}
use Rattle.xpath_meaning.specs.Meanings.{Meant, MeantPath, MeantStep}
use Rattle.xpath_meaning.specs.Outcome.{Outcome, ◌>>=◌}
use Rattle.xpath_meaning.specs.Reading.{Reading}
use Rattle.xpath_meaning.specs.Readings.{reading_of}
use Rattle.xpath_meaning.specs.Steps.{filtered, joined, step_from, step_nodes, steps_nodes}
use Rattle.xpath_meaning.specs.Tests.{axis_of, nodes_on, on_axis, test_of}
use Rattle.xpath_syntax.specs.declared.expression.Expr.{Expr}
use Rattle.xpath_syntax.specs.declared.expression.Expr.TheFolds.{fold-roll-Path}
use Rattle.xpath_syntax.specs.declared.expression.Expr.TheVariants as expr
use Rattle.xpath_syntax.specs.declared.expression.StepExpr.{StepExpr, out-StepExpr}
use Rattle.xpath_values.specs.declared.value.Value.{Value}
use Rattle.xpath_values.specs.declared.value.Value.TheVariants.{Nodes}
use Rattle.xpath_laws.specs.Sound.{Each, IsContext, IsThere}
use Rattle.xpath_laws.proofs.Equations.{location_means, meant_step_is}
use Rattle.xpath_laws.proofs.Order.{order_members}
use Rattle.xpath_laws.proofs.Tells.{each_by_members}
use Rattle.xpath_laws.proofs.There.{reading_told}
use Rattle.xpath_grammar.specs.Grammar.{path_of}
use Rattle.pattern_laws.specs.Selecting.{start_at}
use Rattle.pattern_laws.proofs.Known.{axis_known}
use Rattle.pattern_laws.proofs.Members.{each_known, given_by, gives_on}

-- the nodes that a step without predicates gives of a node
abbrev pub found_on : List StripRule → List Row → Option Axis → Test → ℕ → List ℕ
found_on rules rows None test n = []
found_on rules rows (Some axis) test n = axis_rows rules rows n axis test

abbrev pub found_by : List StripRule → List Row → StepExpr → ℕ → List ℕ
found_by rules rows s n = found_on rules rows (axis_of (out-StepExpr s).axis) (test_of (out-StepExpr s).test) n

abbrev pub IsBare : StepExpr → Type 0
IsBare s = (out-StepExpr s).predicates ≡ []

abbrev pub next : List StripRule → List Row → StepExpr → List ℕ → List ℕ
next rules rows s ns = document_order (joined (map (found_by rules rows s) ns))

abbrev pub after : List StripRule → List Row → List StepExpr → List ℕ → List ℕ
after rules rows [] ns = ns
after rules rows (s ∷ ss) ns = after rules rows ss (next rules rows s ns)

pub on_there : (rules : List StripRule) (steps : List Step) (axis : Option Axis) (test : Test) (n k : ℕ) → is_member k (found_on rules (rows_of steps) axis test n) ≡ true → IsThere rules steps k
on_there rules steps None test n k m = absurd (false≢true m)
on_there rules steps (Some axis) test n k m =
    let p = and_parts (ltb k (length (rows_of steps))) (is_selected rules (rows_of steps) n axis test k) (sym (axis_members rules (rows_of steps) n axis test k) ∙ m) in
    (ltb-true k (length (rows_of steps)) p.0, (and_parts (is_visible rules (rows_of steps) k) _ p.1).0)

-- the nodes that a step gives of some nodes
pub next_has : (rules : List StripRule) (rows : List Row) (s : StepExpr) (ns : List ℕ) (k : ℕ) → is_member k (next rules rows s ns) ≡ true
    → (m : ℕ) × (is_member m ns ≡ true) × (is_member k (found_by rules rows s m) ≡ true)
next_has rules rows s ns k h = given_by (found_by rules rows s) ns k (sym (order_members (joined (map (found_by rules rows s) ns)) k) ∙ h)

pub has_next : (rules : List StripRule) (rows : List Row) (s : StepExpr) (ns : List ℕ) (m k : ℕ) → is_member m ns ≡ true → is_member k (found_by rules rows s m) ≡ true
    → is_member k (next rules rows s ns) ≡ true
has_next rules rows s ns m k h i = order_members (joined (map (found_by rules rows s) ns)) k ∙ gives_on (found_by rules rows s) ns m k h i

pub next_there : (rules : List StripRule) (steps : List Step) (s : StepExpr) (ns : List ℕ) → Each (IsThere rules steps) (next rules (rows_of steps) s ns)
next_there rules steps s ns = each_by_members (IsThere rules steps) _ (λ k m.
    let w = next_has rules (rows_of steps) s ns k m in on_there rules steps (axis_of (out-StepExpr s).axis) (test_of (out-StepExpr s).test) w.0 k w.2)

-- steps lead from one node to another
abbrev pub Reach : List StripRule → List Row → List StepExpr → ℕ → ℕ → Type 0
Reach rules rows [] m n = m ≡ n
Reach rules rows (s ∷ ss) m n = (k : ℕ) × (is_member k (found_by rules rows s m) ≡ true) × Reach rules rows ss k n

pub after_has : (rules : List StripRule) (rows : List Row) (ss : List StepExpr) (ns : List ℕ) (n : ℕ) → is_member n (after rules rows ss ns) ≡ true
    → (m : ℕ) × (is_member m ns ≡ true) × Reach rules rows ss m n
after_has rules rows [] ns n h = (n, h, refl)
after_has rules rows (s ∷ ss) ns n h =
    let w = after_has rules rows ss (next rules rows s ns) n h in
    let v = next_has rules rows s ns w.0 w.1 in
    (v.0, v.1, (w.0, v.2, w.2))

pub has_after : (rules : List StripRule) (rows : List Row) (ss : List StepExpr) (ns : List ℕ) (m n : ℕ) → is_member m ns ≡ true → Reach rules rows ss m n
    → is_member n (after rules rows ss ns) ≡ true
has_after rules rows [] ns m n h r = subst (λ k. is_member k ns ≡ true) r h
has_after rules rows (s ∷ ss) ns m n h r = has_after rules rows ss (next rules rows s ns) r.0 n (has_next rules rows s ns m r.0 h r.1) r.2

pub path_means_steps : (absolute : Bool) (ss : List StepExpr) → meant_path (path_of absolute ss) ≡ record { absolute = absolute; parts = map meant_step ss; streams = false }
unfolding meant meant_path meant_step
path_means_steps absolute ss = fold-roll-Path Meant MeantPath MeantStep expr_means path_means step_means _

module _ (rules : List StripRule) (keys : List KeyDecl) (id : Option (List ℕ)) (steps : List Step) (whole : IsComplete steps) (values : List Value) (c : Context) where
  abbrev R : Reading
  R = reading_of rules keys id steps

  on_known : (axis : Option Axis) (test : Test) (n : ℕ) → IsThere rules steps n → on_axis R axis test n ≡ Known (found_on rules (rows_of steps) axis test n)
  on_known None test n t = refl
  on_known (Some axis) test n t = axis_known rules keys id steps whole axis test n t

  from_known : (s : StepExpr) → IsBare s → (n : ℕ) → IsThere rules steps n → step_from (meant_step s) n R values c ≡ Known (found_by rules (rows_of steps) s n)
  from_known s bare n t =
      ap (λ (m : MeantStep). step_from m n R values c) (meant_step_is s)
      ∙ ap (λ (ps : List Expr). nodes_on R (out-StepExpr s).axis (out-StepExpr s).test n >>= (λ nodes. filtered (map meant ps) nodes R values c)) bare
      ∙ ap (λ (o : Outcome (List ℕ)). o >>= (λ nodes. filtered [] nodes R values c)) (on_known (axis_of (out-StepExpr s).axis) (test_of (out-StepExpr s).test) n t)

  pub step_known : (s : StepExpr) → IsBare s → (ns : List ℕ) → Each (IsThere rules steps) ns → step_nodes (meant_step s) ns R values c ≡ Known (next rules (rows_of steps) s ns)
  step_known s bare ns a = ap (λ (o : Outcome (List (List ℕ))). o >>= (λ lists. Known (document_order (joined lists))))
      (each_known (λ n. step_from (meant_step s) n R values c) (found_by rules (rows_of steps) s) (IsThere rules steps) ns a (from_known s bare))

  pub steps_known : (ss : List StepExpr) → Each IsBare ss → (ns : List ℕ) → Each (IsThere rules steps) ns
      → steps_nodes (map meant_step ss) ns R values c ≡ Known (after rules (rows_of steps) ss ns)
  steps_known [] bare ns a = refl
  steps_known (s ∷ ss) bare ns a =
      ap (λ (o : Outcome (List ℕ)). o >>= (λ found. steps_nodes (map meant_step ss) found R values c)) (step_known s bare.0 ns a)
      ∙ steps_known ss bare.1 (next rules (rows_of steps) s ns) (next_there rules steps s ns)

  pub path_known : (absolute : Bool) (ss : List StepExpr) → Each IsBare ss → IsThere rules steps (start_at absolute c)
      → evaluation_of R (expr.Path (path_of absolute ss)) values c ≡ Known (Nodes (after rules (rows_of steps) ss (start_at absolute c ∷ [])))
  path_known absolute ss bare there =
      ap (λ (m : Meant). m.value R values c) (location_means (path_of absolute ss))
      ∙ ap (λ (p : MeantPath). path_value p R values c) (path_means_steps absolute ss)
      ∙ ap (λ (o : Outcome (List ℕ)). o >>= (λ nodes. Known (Nodes nodes))) (steps_known ss bare (start_at absolute c ∷ []) (there, tt))

pub start_there : (rules : List StripRule) (keys : List KeyDecl) (id : Option (List ℕ)) (steps : List Step) (absolute : Bool) (c : Context) → IsContext (IsThere rules steps) c
    → IsThere rules steps (start_at absolute c)
start_there rules keys id steps true c x = (reading_told rules keys id steps).root
start_there rules keys id steps false c x = x.node
