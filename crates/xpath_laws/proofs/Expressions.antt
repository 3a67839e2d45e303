-- Expressions keep what they tell.
use Rattle.std.proofs.Common.{◌≡◌, refl, sym, ap, ◌∙◌, subst, List, [], ◌∷◌, map, Option, Some, None}
use Rattle.doc_model.specs.Answers.{Stays}
use Rattle.xpath_syntax.specs.declared.expression.Expr.{Expr, roll-Expr}
use Rattle.xpath_syntax.specs.declared.expression.Expr.TheFolds.{map-Expr, map-Path, map-StepExpr, fold-roll-Expr, fold-roll-Path, fold-roll-StepExpr, ind-Expr, ind-Path, ind-StepExpr}
use Rattle.xpath_syntax.specs.declared.expression.Expr.TheOpen.{Expr-F, Path-F, StepExpr-F}
use Rattle.xpath_syntax.specs.declared.expression.Path.{Path, roll-Path}
use Rattle.xpath_syntax.specs.declared.expression.StepExpr.{StepExpr, roll-StepExpr}
use Rattle.xpath_values.specs.declared.value.Value.{Value}
use Rattle.xpath_meaning.specs.declared.context.Context.{Context}
use Rattle.xpath_meaning.specs.Conversions.{nodes_of}
use Rattle.xpath_meaning.specs.Evaluation.{path_value, filter_value, expr_means, path_means, step_means, meant, meant_path, meant_step, evaluation_of, path_items_of, items_by, items_of}
use Rattle.xpath_meaning.specs.Meanings.{Meaning, Meant, MeantStep, MeantPath}
use Rattle.xpath_meaning.specs.Outcome.{Outcome}
use Rattle.xpath_meaning.specs.Reading.{Reading, Extends}
use Rattle.xpath_meaning.specs.Streams.{Stream, GoesOn}
use Rattle.xpath_laws.proofs.Staying.{bind_stays, stays}
use Rattle.xpath_laws.proofs.Going.{stream_goes_on}
use Rattle.xpath_laws.proofs.Keeping.{Keeps, KeepsItemsIf, MeantKeeps, AllKeep, StepKeeps, AllStepsKeep, PathKeeps, PathKeepsIf, nodes_keep}
use Rattle.xpath_laws.proofs.Walking.{filtered_keeps, path_nodes_keep, path_items_keep, tail_nodes_keep, streams_keep}
use Rattle.xpath_laws.proofs.Operating.{binary_keeps, minus_keeps}
use Rattle.xpath_laws.proofs.Calling.{call_keeps}

path_value_keeps : (path : MeantPath) → PathKeeps path → Keeps (path_value path)
path_value_keeps path k R Q x values c = bind_stays _ _ _ _ (path_nodes_keep path k R Q x values c) (λ nodes. refl)

filter_keeps : (m : Meant) (predicates : List Meant) (tail : Option MeantPath) → MeantKeeps m → AllKeep predicates → PathKeepsIf tail → Keeps (filter_value m predicates tail)
filter_keeps m predicates tail k a t R Q x values c =
    bind_stays _ _ _ _ (nodes_keep m k R Q x values c)
    (λ nodes. bind_stays _ _ _ _ (filtered_keeps predicates a nodes R Q x values c) (λ left. bind_stays _ _ _ _ (tail_nodes_keep tail t left R Q x values c) (λ found. refl)))

-- ---- by induction on the tree

abbrev ExprKeeps : Expr → Type 0
ExprKeeps e = MeantKeeps (meant e)

abbrev TreePathKeeps : Path → Type 0
TreePathKeeps path = PathKeeps (meant_path path)

abbrev TreeStepKeeps : StepExpr → Type 0
TreeStepKeeps step = StepKeeps (meant_step step)

abbrev Exprs : Type 0
Exprs = (e : Expr) × ExprKeeps e

abbrev Paths : Type 0
Paths = (path : Path) × TreePathKeeps path

abbrev Steps : Type 0
Steps = (step : StepExpr) × TreeStepKeeps step

each_keeps : (xs : List Exprs) → AllKeep (map meant (map (λ e. e.0) xs))
each_keeps [] = tt
each_keeps (x ∷ xs) = (x.1, each_keeps xs)

each_step_keeps : (xs : List Steps) → AllStepsKeep (map meant_step (map (λ e. e.0) xs))
each_step_keeps [] = tt
each_step_keeps (x ∷ xs) = (x.1, each_step_keeps xs)

abbrev meant_layer : Expr-F Expr Path StepExpr → Expr-F Meant MeantPath MeantStep
meant_layer = map-Expr Expr Path StepExpr Meant MeantPath MeantStep meant meant_path meant_step

abbrev bare : Expr-F Exprs Paths Steps → Expr-F Expr Path StepExpr
bare = map-Expr Exprs Paths Steps Expr Path StepExpr (λ e. e.0) (λ e. e.0) (λ e. e.0)

abbrev meant_path_layer : Path-F Expr Path StepExpr → Path-F Meant MeantPath MeantStep
meant_path_layer = map-Path Expr Path StepExpr Meant MeantPath MeantStep meant meant_path meant_step

abbrev bare_path : Path-F Exprs Paths Steps → Path-F Expr Path StepExpr
bare_path = map-Path Exprs Paths Steps Expr Path StepExpr (λ e. e.0) (λ e. e.0) (λ e. e.0)

abbrev meant_step_layer : StepExpr-F Expr Path StepExpr → StepExpr-F Meant MeantPath MeantStep
meant_step_layer = map-StepExpr Expr Path StepExpr Meant MeantPath MeantStep meant meant_path meant_step

abbrev bare_step : StepExpr-F Exprs Paths Steps → StepExpr-F Expr Path StepExpr
bare_step = map-StepExpr Exprs Paths Steps Expr Path StepExpr (λ e. e.0) (λ e. e.0) (λ e. e.0)

expr_step : (y : Expr-F Exprs Paths Steps) → MeantKeeps (expr_means (meant_layer (bare y)))
expr_step (Expr-F.Binary op a b) = record { value = binary_keeps op (meant (a.0)) (meant (b.0)) a.1 b.1; items = tt }
expr_step (Expr-F.Minus a) = record { value = minus_keeps (meant (a.0)) a.1; items = tt }
expr_step (Expr-F.Literal text) = record { value = λ R Q x values c. refl; items = tt }
expr_step (Expr-F.Number z) = record { value = λ R Q x values c. refl; items = tt }
expr_step (Expr-F.Variable name) = record { value = λ R Q x values c. refl; items = tt }
expr_step (Expr-F.Call name args) = record { value = call_keeps name _ (each_keeps args); items = tt }
expr_step (Expr-F.Path path) = record { value = path_value_keeps (meant_path (path.0)) path.1; items = streams_keep (meant_path (path.0)).streams (meant_path (path.0)) path.1 }
expr_step (Expr-F.Filter a predicates None) = record { value = filter_keeps (meant (a.0)) _ None a.1 (each_keeps predicates) tt; items = tt }
expr_step (Expr-F.Filter a predicates (Some path)) = record { value = filter_keeps (meant (a.0)) _ (Some (meant_path (path.0))) a.1 (each_keeps predicates) path.1; items = tt }

path_step : (y : Path-F Exprs Paths Steps) → PathKeeps (path_means (meant_path_layer (bare_path y)))
path_step y = each_step_keeps y.parts

step_step : (y : StepExpr-F Exprs Paths Steps) → StepKeeps (step_means (meant_step_layer (bare_step y)))
step_step y = each_keeps y.predicates

expr_layer : (x : Expr-F Expr Path StepExpr) (y : Expr-F Exprs Paths Steps) → bare y ≡ x → ExprKeeps (roll-Expr x)
unfolding meant meant_path meant_step
expr_layer x y is = subst MeantKeeps (ap (λ z. expr_means (meant_layer z)) is ∙ sym (fold-roll-Expr Meant MeantPath MeantStep expr_means path_means step_means x)) (expr_step y)

path_layer : (x : Path-F Expr Path StepExpr) (y : Path-F Exprs Paths Steps) → bare_path y ≡ x → TreePathKeeps (roll-Path x)
unfolding meant meant_path meant_step
path_layer x y is = subst PathKeeps (ap (λ z. path_means (meant_path_layer z)) is ∙ sym (fold-roll-Path Meant MeantPath MeantStep expr_means path_means step_means x)) (path_step y)

step_layer : (x : StepExpr-F Expr Path StepExpr) (y : StepExpr-F Exprs Paths Steps) → bare_step y ≡ x → TreeStepKeeps (roll-StepExpr x)
unfolding meant meant_path meant_step
step_layer x y is = subst StepKeeps (ap (λ z. step_means (meant_step_layer z)) is ∙ sym (fold-roll-StepExpr Meant MeantPath MeantStep expr_means path_means step_means x)) (step_step y)

pub expr_keeps : (e : Expr) → MeantKeeps (meant e)
expr_keeps = ind-Expr ExprKeeps TreePathKeeps TreeStepKeeps expr_layer path_layer step_layer

pub path_keeps : (path : Path) → PathKeeps (meant_path path)
path_keeps = ind-Path ExprKeeps TreePathKeeps TreeStepKeeps expr_layer path_layer step_layer

pub step_keeps : (step : StepExpr) → StepKeeps (meant_step step)
step_keeps = ind-StepExpr ExprKeeps TreePathKeeps TreeStepKeeps expr_layer path_layer step_layer

pub evaluation_stays : (R Q : Reading) → Extends R Q → (e : Expr) (values : List Value) (c : Context) → Stays (evaluation_of R e values c) (evaluation_of Q e values c)
evaluation_stays R Q x e values c = (expr_keeps e).value R Q x values c

pub path_items_go_on : (R Q : Reading) → Extends R Q → (path : Path) (values : List Value) (c : Context) → GoesOn (path_items_of R path values c) (path_items_of Q path values c)
path_items_go_on R Q x path values c = path_items_keep (meant_path path) (path_keeps path) R Q x values c

items_by_go_on : (items : Option (Meaning Stream)) (value : Meaning (Outcome Value)) → KeepsItemsIf items → Keeps value → (R Q : Reading) → Extends R Q → (values : List Value) (c : Context)
    → GoesOn (items_by items value R values c) (items_by items value Q values c)
items_by_go_on None value i k R Q x values c =
    stream_goes_on _ _ _ _ (bind_stays _ _ _ _ (k R Q x values c) (λ v. stays (nodes_of v))) (λ nodes. refl)
items_by_go_on (Some items) value i k R Q x values c = i R Q x values c

pub items_go_on : (R Q : Reading) → Extends R Q → (e : Expr) (values : List Value) (c : Context) → GoesOn (items_of R e values c) (items_of Q e values c)
items_go_on R Q x e values c = items_by_go_on (meant e).items (meant e).value (expr_keeps e).items (expr_keeps e).value R Q x values c
