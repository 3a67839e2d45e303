-- Expressions tell of rows that are there.
use Rattle.std.proofs.Common.{◌≡◌, sym, ap, ◌∙◌, subst, ℕ, zero, suc, List, [], ◌∷◌, map, Option, Some, None}
use Rattle.std.specs.Prelude.{slice_get}
use Rattle.xpath_syntax.specs.declared.expression.Expr.{Expr, roll-Expr}
use Rattle.xpath_syntax.specs.declared.expression.Expr.TheFolds.{map-Expr, map-Path, map-StepExpr, fold-roll-Expr, fold-roll-Path, fold-roll-StepExpr, ind-Expr, ind-Path, ind-StepExpr}
use Rattle.xpath_syntax.specs.declared.expression.Expr.TheOpen.{Expr-F, Path-F, StepExpr-F}
use Rattle.xpath_syntax.specs.declared.expression.Path.{Path, roll-Path}
use Rattle.xpath_syntax.specs.declared.expression.StepExpr.{StepExpr, roll-StepExpr}
use Rattle.xpath_values.specs.declared.value.Value.{Value}
use Rattle.xpath_meaning.specs.declared.context.Context.{Context}
use Rattle.xpath_meaning.specs.Conversions.{nodes_of}
use Rattle.xpath_meaning.specs.Evaluation.{or_nothing, value_in, path_value, filter_value, expr_means, path_means, step_means, meant, meant_path}
use Rattle.xpath_meaning.specs.Evaluation.{meant_step, evaluation_of, path_items_of, items_by, items_of}
use Rattle.xpath_meaning.specs.Meanings.{Meaning, Meant, MeantStep, MeantPath, nodes_at}
use Rattle.xpath_meaning.specs.Outcome.{Outcome}
use Rattle.xpath_meaning.specs.Reading.{Reading}
use Rattle.xpath_meaning.specs.Steps.{filtered, path_nodes, tail_nodes}
use Rattle.xpath_meaning.specs.Streams.{Stream}
use Rattle.xpath_laws.specs.Sound.{Rows, Tells, Each, IsNodeSet, IsValue, AllValues, IsContext, IsReading, Flows}
use Rattle.xpath_laws.proofs.Tells.{Left, bind_tells, stream_flows}
use Rattle.xpath_laws.proofs.Sounding.{Given, Sound, SoundItemsIf, MeantSound, StepSound, PathSound, PathSoundIf, nodes_told, nodes_sound}
use Rattle.xpath_laws.proofs.Ways.{left_set, filtered_sound, path_nodes_sound, tail_nodes_sound, path_items_sound, streams_sound}
use Rattle.xpath_laws.proofs.Ops.{binary_sound, minus_sound}
use Rattle.xpath_laws.proofs.Says.{call_sound}

module _ (T O : Rows) where
  slot_value : (values : List Value) → AllValues T values → (slot : ℕ) → IsValue T (or_nothing (slice_get values slot))
  slot_value [] a slot = tt
  slot_value (v ∷ vs) a zero = a.0
  slot_value (v ∷ vs) a (suc slot) = slot_value vs a.1 slot

  variable_value : (values : List Value) → AllValues T values → (slot : Option ℕ) → IsValue T (value_in values slot)
  variable_value values a None = tt
  variable_value values a (Some slot) = slot_value values a slot

  path_value_sound : (path : MeantPath) → PathSound T O path → Sound T O (IsValue T) (path_value path)
  path_value_sound path k R values c g = bind_tells O (IsNodeSet T) (IsValue T) (path_nodes path R values c) _ (path_nodes_sound T O path k R values c g) (λ nodes i. i)

  filter_sound : (m : Meant) (predicates : List Meant) (tail : Option MeantPath) → MeantSound T O m → Each (MeantSound T O) predicates → PathSoundIf T O tail
      → Sound T O (IsValue T) (filter_value m predicates tail)
  filter_sound m predicates tail k a t R values c g =
      bind_tells O (IsNodeSet T) (IsValue T) (nodes_at m R values c) _ (nodes_sound T O m k R values c g)
      (λ nodes i. bind_tells O (Left T nodes) (IsValue T) (filtered predicates nodes R values c) _ (filtered_sound T O predicates a nodes i.1 R values c g)
      (λ left l. bind_tells O (IsNodeSet T) (IsValue T) (tail_nodes tail left R values c) _ (tail_nodes_sound T O tail t left (left_set T nodes left i l) R values c g) (λ found j. j)))

  -- ---- by induction on the tree

  abbrev ExprSound : Expr → Type 0
  ExprSound e = MeantSound T O (meant e)

  abbrev TreePathSound : Path → Type 0
  TreePathSound path = PathSound T O (meant_path path)

  abbrev TreeStepSound : StepExpr → Type 0
  TreeStepSound step = StepSound T O (meant_step step)

  abbrev Exprs : Type 0
  Exprs = (e : Expr) × ExprSound e

  abbrev Paths : Type 0
  Paths = (path : Path) × TreePathSound path

  abbrev Steps : Type 0
  Steps = (step : StepExpr) × TreeStepSound step

  each_sound : (xs : List Exprs) → Each (MeantSound T O) (map meant (map (λ e. e.0) xs))
  each_sound [] = tt
  each_sound (x ∷ xs) = (x.1, each_sound xs)

  each_step_sound : (xs : List Steps) → Each (StepSound T O) (map meant_step (map (λ e. e.0) xs))
  each_step_sound [] = tt
  each_step_sound (x ∷ xs) = (x.1, each_step_sound xs)

  abbrev meant_layer : Expr-F Expr Path StepExpr → Expr-F Meant MeantPath MeantStep
  meant_layer = map-Expr Expr Path StepExpr Meant MeantPath MeantStep meant meant_path meant_step

  abbrev bare : Expr-F Exprs Paths Steps → Expr-F Expr Path StepExpr
  bare = map-Expr Exprs Paths Steps Expr Path StepExpr (λ e. e.0) (λ e. e.0) (λ e. e.0)

  abbrev meant_path_layer : Path-F Expr Path StepExpr → Path-F Meant MeantPath MeantStep
  meant_path_layer = map-Path Expr Path StepExpr Meant MeantPath MeantStep meant meant_path meant_step

  abbrev bare_path : Path-F Exprs Paths Steps → Path-F Expr Path StepExpr
  bare_path = map-Path Exprs Paths Steps Expr Path StepExpr (λ e. e.0) (λ e. e.0) (λ e. e.0)

  abbrev meant_step_layer : StepExpr-F Expr Path StepExpr → StepExpr-F Meant MeantPath MeantStep
  meant_step_layer = map-StepExpr Expr Path StepExpr Meant MeantPath MeantStep meant meant_path meant_step

  abbrev bare_step : StepExpr-F Exprs Paths Steps → StepExpr-F Expr Path StepExpr
  bare_step = map-StepExpr Exprs Paths Steps Expr Path StepExpr (λ e. e.0) (λ e. e.0) (λ e. e.0)

  expr_step : (y : Expr-F Exprs Paths Steps) → MeantSound T O (expr_means (meant_layer (bare y)))
  expr_step (Expr-F.Binary op a b) = record { value = binary_sound T O op (meant (a.0)) (meant (b.0)) a.1 b.1; items = tt }
  expr_step (Expr-F.Minus a) = record { value = minus_sound T O (meant (a.0)) a.1; items = tt }
  expr_step (Expr-F.Literal text) = record { value = λ R values c g. tt; items = tt }
  expr_step (Expr-F.Number z) = record { value = λ R values c g. tt; items = tt }
  expr_step (Expr-F.Variable name) = record { value = λ R values c g. variable_value values g.bound name.slot; items = tt }
  expr_step (Expr-F.Call name args) = record { value = call_sound T O name _ (each_sound args); items = tt }
  expr_step (Expr-F.Path path) = record { value = path_value_sound (meant_path (path.0)) path.1; items = streams_sound T O (meant_path (path.0)).streams (meant_path (path.0)) path.1 }
  expr_step (Expr-F.Filter a predicates None) = record { value = filter_sound (meant (a.0)) _ None a.1 (each_sound predicates) tt; items = tt }
  expr_step (Expr-F.Filter a predicates (Some path)) = record { value = filter_sound (meant (a.0)) _ (Some (meant_path (path.0))) a.1 (each_sound predicates) path.1; items = tt }

  path_step : (y : Path-F Exprs Paths Steps) → PathSound T O (path_means (meant_path_layer (bare_path y)))
  path_step y = each_step_sound y.parts

  step_step : (y : StepExpr-F Exprs Paths Steps) → StepSound T O (step_means (meant_step_layer (bare_step y)))
  step_step y = each_sound y.predicates

  expr_layer : (x : Expr-F Expr Path StepExpr) (y : Expr-F Exprs Paths Steps) → bare y ≡ x → ExprSound (roll-Expr x)
  unfolding meant meant_path meant_step
  expr_layer x y is = subst (MeantSound T O) (ap (λ z. expr_means (meant_layer z)) is ∙ sym (fold-roll-Expr Meant MeantPath MeantStep expr_means path_means step_means x)) (expr_step y)

  path_layer : (x : Path-F Expr Path StepExpr) (y : Path-F Exprs Paths Steps) → bare_path y ≡ x → TreePathSound (roll-Path x)
  unfolding meant meant_path meant_step
  path_layer x y is = subst (PathSound T O) (ap (λ z. path_means (meant_path_layer z)) is ∙ sym (fold-roll-Path Meant MeantPath MeantStep expr_means path_means step_means x)) (path_step y)

  step_layer : (x : StepExpr-F Expr Path StepExpr) (y : StepExpr-F Exprs Paths Steps) → bare_step y ≡ x → TreeStepSound (roll-StepExpr x)
  unfolding meant meant_path meant_step
  step_layer x y is = subst (StepSound T O) (ap (λ z. step_means (meant_step_layer z)) is ∙ sym (fold-roll-StepExpr Meant MeantPath MeantStep expr_means path_means step_means x)) (step_step y)

  pub expr_sound : (e : Expr) → MeantSound T O (meant e)
  expr_sound = ind-Expr ExprSound TreePathSound TreeStepSound expr_layer path_layer step_layer

  pub path_sound : (path : Path) → PathSound T O (meant_path path)
  path_sound = ind-Path ExprSound TreePathSound TreeStepSound expr_layer path_layer step_layer

  pub step_sound : (step : StepExpr) → StepSound T O (meant_step step)
  step_sound = ind-StepExpr ExprSound TreePathSound TreeStepSound expr_layer path_layer step_layer

  given : (R : Reading) (values : List Value) (c : Context) → IsReading T O R → AllValues T values → IsContext T c → Given T O R values c
  given R values c x a k = record { reading = x; bound = a; context = k }

  pub evaluation_told : (R : Reading) (e : Expr) (values : List Value) (c : Context) → IsReading T O R → AllValues T values → IsContext T c → Tells O (IsValue T) (evaluation_of R e values c)
  evaluation_told R e values c x a k = (expr_sound e).value R values c (given R values c x a k)

  pub path_items_told : (R : Reading) (path : Path) (values : List Value) (c : Context) → IsReading T O R → AllValues T values → IsContext T c → Flows T O (path_items_of R path values c)
  path_items_told R path values c x a k = path_items_sound T O (meant_path path) (path_sound path) R values c (given R values c x a k)

  items_by_told : (items : Option (Meaning Stream)) (value : Meaning (Outcome Value)) → SoundItemsIf T O items → Sound T O (IsValue T) value
      → (R : Reading) (values : List Value) (c : Context) → Given T O R values c → Flows T O (items_by items value R values c)
  items_by_told None value i k R values c g =
      stream_flows O T (IsNodeSet T) _ _ (bind_tells O (IsValue T) (IsNodeSet T) (value R values c) nodes_of (k R values c g) (nodes_told T O)) (λ nodes j. record { items = j.1; ending = tt })
  items_by_told (Some items) value i k R values c g = i R values c g

  pub items_told : (R : Reading) (e : Expr) (values : List Value) (c : Context) → IsReading T O R → AllValues T values → IsContext T c → Flows T O (items_of R e values c)
  items_told R e values c x a k = items_by_told (meant e).items (meant e).value (expr_sound e).items (expr_sound e).value R values c (given R values c x a k)
