-- The equations of what is searched and placed in trees.
use Rattle.std.proofs.Common.{◌≡◌, refl, sym, ap, ◌∙◌, ℕ, ℤ, List, [], ◌∷◌, map, Bool, false, Option, Some, None}
use Rattle.std.specs.Prelude.{◌||◌}
use Rattle.std.specs.List.{list_any}
use Rattle.std.proofs.Math.Bool.{or-false}
use Rattle.xpath_chains.specs.Mentions.{any}
use Rattle.xpath_syntax.specs.declared.expression.Op.{Op}
use Rattle.xpath_syntax.specs.declared.expression.NameRef.{NameRef}
use Rattle.xpath_syntax.specs.declared.expression.Expr.{Expr, out-Expr}
use Rattle.xpath_syntax.specs.declared.expression.Expr.TheFolds.{map-Expr, fold_out-Expr, fold_out-Path, fold_out-StepExpr}
use Rattle.xpath_syntax.specs.declared.expression.Expr.TheOpen.{Expr-F}
use Rattle.xpath_syntax.specs.declared.expression.Expr.TheVariants as e
use Rattle.xpath_syntax.specs.declared.expression.Expr.TheVariants.{outs-Binary, outs-Minus, outs-Literal, outs-Number, outs-Variable, outs-Call, outs-Path, outs-Filter}
use Rattle.xpath_syntax.specs.declared.expression.Expr.TheVariants.{rolls-Binary, rolls-Minus, rolls-Literal, rolls-Number, rolls-Call, rolls-Path, rolls-Filter}
use Rattle.xpath_syntax.specs.declared.expression.Path.{Path, out-Path, roll-Path}
use Rattle.xpath_syntax.specs.declared.expression.StepExpr.{StepExpr, out-StepExpr, roll-StepExpr}
use Rattle.sheet_names.specs.Names.{Name}
use Rattle.sheet_names.specs.Slots.{placed_name}
use Rattle.sheet_names.specs.Searching.{Search, expr_has, parts_have, predicates_have, has, path_has, step_has, call_has, behind_has}
use Rattle.sheet_names.specs.Placing.{place_expr, placed, placed_path, placed_step, placed_tail}

by_layer : (S : Search) (x : Expr) (y : Expr-F Expr Path StepExpr) → out-Expr x ≡ y
    → has S x ≡ expr_has S (map-Expr Expr Path StepExpr Bool Bool Bool (has S) (path_has S) (step_has S) y)
unfolding has path_has step_has
by_layer S x y is = fold_out-Expr Bool Bool Bool (expr_has S) parts_have predicates_have x
    ∙ ap (λ z. expr_has S (map-Expr Expr Path StepExpr Bool Bool Bool (has S) (path_has S) (step_has S) z)) is

any_map : {A : Type 0} (f : A → Bool) (xs : List A) → any (map f xs) ≡ list_any f xs
any_map f [] = refl
any_map f (x ∷ xs) = ap (λ b. f x || b) (any_map f xs)

pub has-Binary : (S : Search) (op : Op) (a b : Expr) → has S (e.Binary op a b) ≡ (has S a || has S b)
has-Binary S op a b = by_layer S _ _ (outs-Binary op a b)

pub has-Minus : (S : Search) (a : Expr) → has S (e.Minus a) ≡ has S a
has-Minus S a = by_layer S _ _ (outs-Minus a)

pub has-Literal : (S : Search) (text : List ℕ) → has S (e.Literal text) ≡ false
has-Literal S text = by_layer S _ _ (outs-Literal text)

pub has-Number : (S : Search) (z : ℤ) → has S (e.Number z) ≡ false
has-Number S z = by_layer S _ _ (outs-Number z)

pub has-Variable : (S : Search) (name : NameRef) → has S (e.Variable name) ≡ S.variable name
has-Variable S name = by_layer S _ _ (outs-Variable name)

pub has-Call : (S : Search) (name : NameRef) (args : List Expr) → has S (e.Call name args) ≡ call_has S name args
has-Call S name args = by_layer S _ _ (outs-Call name args) ∙ ap (λ b. S.call name || b) (any_map (has S) args)

pub has-Path : (S : Search) (path : Path) → has S (e.Path path) ≡ path_has S path
has-Path S path = by_layer S _ _ (outs-Path path)

pub has-Filter : (S : Search) (a : Expr) (ps : List Expr) (tail : Option Path) → has S (e.Filter a ps tail) ≡ (has S a || behind_has S ps tail)
has-Filter S a ps None = by_layer S _ _ (outs-Filter a ps None) ∙ ap (λ b. has S a || b) (any_map (has S) ps ∙ sym (or-false _))
has-Filter S a ps (Some path) = by_layer S _ _ (outs-Filter a ps (Some path)) ∙ ap (λ b. has S a || (b || path_has S path)) (any_map (has S) ps)

pub path_has_is : (S : Search) (path : Path) → path_has S path ≡ list_any (step_has S) (out-Path path).parts
unfolding has path_has step_has
path_has_is S path = fold_out-Path Bool Bool Bool (expr_has S) parts_have predicates_have path ∙ any_map (step_has S) (out-Path path).parts

pub step_has_is : (S : Search) (s : StepExpr) → step_has S s ≡ list_any (has S) (out-StepExpr s).predicates
unfolding has path_has step_has
step_has_is S s = fold_out-StepExpr Bool Bool Bool (expr_has S) parts_have predicates_have s ∙ any_map (has S) (out-StepExpr s).predicates

placed_by : (G L : List Name) (x : Expr) (y : Expr-F Expr Path StepExpr) → out-Expr x ≡ y
    → placed G L x ≡ place_expr G L (map-Expr Expr Path StepExpr Expr Path StepExpr (placed G L) (placed_path G L) (placed_step G L) y)
unfolding placed placed_path placed_step
placed_by G L x y is = fold_out-Expr Expr Path StepExpr (place_expr G L) roll-Path roll-StepExpr x
    ∙ ap (λ z. place_expr G L (map-Expr Expr Path StepExpr Expr Path StepExpr (placed G L) (placed_path G L) (placed_step G L) z)) is

pub placed-Binary : (G L : List Name) (op : Op) (x y : Expr) → placed G L (e.Binary op x y) ≡ e.Binary op (placed G L x) (placed G L y)
placed-Binary G L op x y = placed_by G L _ _ (outs-Binary op x y) ∙ rolls-Binary op (placed G L x) (placed G L y)

pub placed-Minus : (G L : List Name) (a : Expr) → placed G L (e.Minus a) ≡ e.Minus (placed G L a)
placed-Minus G L a = placed_by G L _ _ (outs-Minus a) ∙ rolls-Minus (placed G L a)

pub placed-Literal : (G L : List Name) (t : List ℕ) → placed G L (e.Literal t) ≡ e.Literal t
placed-Literal G L t = placed_by G L _ _ (outs-Literal t) ∙ rolls-Literal t

pub placed-Number : (G L : List Name) (z : ℤ) → placed G L (e.Number z) ≡ e.Number z
placed-Number G L z = placed_by G L _ _ (outs-Number z) ∙ rolls-Number z

pub placed-Variable : (G L : List Name) (n : NameRef) → placed G L (e.Variable n) ≡ e.Variable (placed_name G L n)
placed-Variable G L n = placed_by G L _ _ (outs-Variable n)

pub placed-Call : (G L : List Name) (n : NameRef) (xs : List Expr) → placed G L (e.Call n xs) ≡ e.Call n (map (placed G L) xs)
placed-Call G L n xs = placed_by G L _ _ (outs-Call n xs) ∙ rolls-Call n (map (placed G L) xs)

pub placed-Path : (G L : List Name) (p : Path) → placed G L (e.Path p) ≡ e.Path (placed_path G L p)
placed-Path G L p = placed_by G L _ _ (outs-Path p) ∙ rolls-Path (placed_path G L p)

pub placed-Filter : (G L : List Name) (a : Expr) (ps : List Expr) (tail : Option Path)
    → placed G L (e.Filter a ps tail) ≡ e.Filter (placed G L a) (map (placed G L) ps) (placed_tail G L tail)
placed-Filter G L a ps None = placed_by G L _ _ (outs-Filter a ps None) ∙ rolls-Filter (placed G L a) (map (placed G L) ps) None
placed-Filter G L a ps (Some path) = placed_by G L _ _ (outs-Filter a ps (Some path)) ∙ rolls-Filter (placed G L a) (map (placed G L) ps) (Some (placed_path G L path))

pub placed_path_is : (G L : List Name) (p : Path) → placed_path G L p
    ≡ roll-Path (record { absolute = (out-Path p).absolute; parts = map (placed_step G L) (out-Path p).parts; streams = (out-Path p).streams })
unfolding placed placed_path placed_step
placed_path_is G L p = fold_out-Path Expr Path StepExpr (place_expr G L) roll-Path roll-StepExpr p

pub placed_step_is : (G L : List Name) (s : StepExpr) → placed_step G L s
    ≡ roll-StepExpr (record { axis = (out-StepExpr s).axis; test = (out-StepExpr s).test; predicates = map (placed G L) (out-StepExpr s).predicates })
unfolding placed placed_path placed_step
placed_step_is G L s = fold_out-StepExpr Expr Path StepExpr (place_expr G L) roll-Path roll-StepExpr s
