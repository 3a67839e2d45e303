-- A tree is what its layers make, by induction over expressions, paths and steps.
use Rattle.std.proofs.Common.{◌≡◌, refl, sym, ap, ◌∙◌, List, [], ◌∷◌, map, Some, None}
use Rattle.xpath_syntax.specs.declared.expression.Expr.{Expr, roll-Expr}
use Rattle.xpath_syntax.specs.declared.expression.Expr.TheFolds.{map-Expr, map-Path, map-StepExpr, fold-Expr, fold-Path, fold-StepExpr, fold-roll-Expr, fold-roll-Path, fold-roll-StepExpr, ind-Expr}
use Rattle.xpath_syntax.specs.declared.expression.Expr.TheOpen.{Expr-F, Path-F, StepExpr-F}
use Rattle.xpath_syntax.specs.declared.expression.Path.{Path, roll-Path}
use Rattle.xpath_syntax.specs.declared.expression.StepExpr.{StepExpr, roll-StepExpr}

abbrev rebuilt : Expr → Expr
rebuilt = fold-Expr Expr Path StepExpr roll-Expr roll-Path roll-StepExpr

abbrev rebuilt_path : Path → Path
rebuilt_path = fold-Path Expr Path StepExpr roll-Expr roll-Path roll-StepExpr

abbrev rebuilt_step : StepExpr → StepExpr
rebuilt_step = fold-StepExpr Expr Path StepExpr roll-Expr roll-Path roll-StepExpr

abbrev Exprs : Type 0
Exprs = (x : Expr) × (rebuilt x ≡ x)

abbrev Paths : Type 0
Paths = (x : Path) × (rebuilt_path x ≡ x)

abbrev Steps : Type 0
Steps = (x : StepExpr) × (rebuilt_step x ≡ x)

abbrev bare : Expr-F Exprs Paths Steps → Expr-F Expr Path StepExpr
bare = map-Expr Exprs Paths Steps Expr Path StepExpr (λ x. x.0) (λ x. x.0) (λ x. x.0)

abbrev bare_path : Path-F Exprs Paths Steps → Path-F Expr Path StepExpr
bare_path = map-Path Exprs Paths Steps Expr Path StepExpr (λ x. x.0) (λ x. x.0) (λ x. x.0)

abbrev bare_step : StepExpr-F Exprs Paths Steps → StepExpr-F Expr Path StepExpr
bare_step = map-StepExpr Exprs Paths Steps Expr Path StepExpr (λ x. x.0) (λ x. x.0) (λ x. x.0)

each : (xs : List Exprs) → map rebuilt (map (λ x. x.0) xs) ≡ map (λ x. x.0) xs
each [] = refl
each (x ∷ xs) = ap (λ y. y ∷ map rebuilt (map (λ x. x.0) xs)) x.1 ∙ ap (λ ys. x.0 ∷ ys) (each xs)

each_step : (xs : List Steps) → map rebuilt_step (map (λ x. x.0) xs) ≡ map (λ x. x.0) xs
each_step [] = refl
each_step (x ∷ xs) = ap (λ y. y ∷ map rebuilt_step (map (λ x. x.0) xs)) x.1 ∙ ap (λ ys. x.0 ∷ ys) (each_step xs)

same : (y : Expr-F Exprs Paths Steps) → map-Expr Expr Path StepExpr Expr Path StepExpr rebuilt rebuilt_path rebuilt_step (bare y) ≡ bare y
same (Expr-F.Binary op a b) = ap (λ x. Expr-F.Binary op x (rebuilt b.0)) a.1 ∙ ap (λ x. Expr-F.Binary op a.0 x) b.1
same (Expr-F.Minus a) = ap Expr-F.Minus a.1
same (Expr-F.Literal text) = refl
same (Expr-F.Number z) = refl
same (Expr-F.Variable name) = refl
same (Expr-F.Call name args) = ap (Expr-F.Call name) (each args)
same (Expr-F.Path path) = ap Expr-F.Path path.1
same (Expr-F.Filter a ps None) =
    ap (λ x. Expr-F.Filter x (map rebuilt (map (λ x. x.0) ps)) None) a.1 ∙ ap (λ xs. Expr-F.Filter a.0 xs None) (each ps)
same (Expr-F.Filter a ps (Some path)) =
    ap (λ x. Expr-F.Filter x (map rebuilt (map (λ x. x.0) ps)) (Some (rebuilt_path path.0))) a.1
    ∙ (ap (λ xs. Expr-F.Filter a.0 xs (Some (rebuilt_path path.0))) (each ps) ∙ ap (λ p. Expr-F.Filter a.0 (map (λ x. x.0) ps) (Some p)) path.1)

same_path : (y : Path-F Exprs Paths Steps) → map-Path Expr Path StepExpr Expr Path StepExpr rebuilt rebuilt_path rebuilt_step (bare_path y) ≡ bare_path y
same_path y = ap (λ parts. record (bare_path y) { parts = parts }) (each_step y.parts)

same_step : (y : StepExpr-F Exprs Paths Steps) → map-StepExpr Expr Path StepExpr Expr Path StepExpr rebuilt rebuilt_path rebuilt_step (bare_step y) ≡ bare_step y
same_step y = ap (λ ps. record (bare_step y) { predicates = ps }) (each y.predicates)

layer : (x : Expr-F Expr Path StepExpr) (y : Expr-F Exprs Paths Steps) → bare y ≡ x → rebuilt (roll-Expr x) ≡ roll-Expr x
layer x y is =
    let L : Expr-F Expr Path StepExpr → Expr-F Expr Path StepExpr = map-Expr Expr Path StepExpr Expr Path StepExpr rebuilt rebuilt_path rebuilt_step in
    fold-roll-Expr Expr Path StepExpr roll-Expr roll-Path roll-StepExpr x ∙ ap roll-Expr (ap L (sym is) ∙ (same y ∙ is))

layer_path : (x : Path-F Expr Path StepExpr) (y : Path-F Exprs Paths Steps) → bare_path y ≡ x → rebuilt_path (roll-Path x) ≡ roll-Path x
layer_path x y is =
    let L : Path-F Expr Path StepExpr → Path-F Expr Path StepExpr = map-Path Expr Path StepExpr Expr Path StepExpr rebuilt rebuilt_path rebuilt_step in
    fold-roll-Path Expr Path StepExpr roll-Expr roll-Path roll-StepExpr x ∙ ap roll-Path (ap L (sym is) ∙ (same_path y ∙ is))

layer_step : (x : StepExpr-F Expr Path StepExpr) (y : StepExpr-F Exprs Paths Steps) → bare_step y ≡ x → rebuilt_step (roll-StepExpr x) ≡ roll-StepExpr x
layer_step x y is =
    let L : StepExpr-F Expr Path StepExpr → StepExpr-F Expr Path StepExpr = map-StepExpr Expr Path StepExpr Expr Path StepExpr rebuilt rebuilt_path rebuilt_step in
    fold-roll-StepExpr Expr Path StepExpr roll-Expr roll-Path roll-StepExpr x ∙ ap roll-StepExpr (ap L (sym is) ∙ (same_step y ∙ is))

pub rebuilt_is : (e : Expr) → rebuilt e ≡ e
rebuilt_is = ind-Expr (λ x. rebuilt x ≡ x) (λ x. rebuilt_path x ≡ x) (λ x. rebuilt_step x ≡ x) layer layer_path layer_step
