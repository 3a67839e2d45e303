-- The equations of what expressions mention.
use Rattle.std.proofs.Common.{◌≡◌, refl, sym, ap, ◌∙◌, ℤ, ℕ, List, [], ◌∷◌, ◌++◌, map, Option, Some, None}
use Rattle.std.specs.List.{flat_map}
use Rattle.std.proofs.lemmas.List.{append-nil}
use Rattle.xpath_syntax.specs.declared.expression.Op.{Op}
use Rattle.xpath_syntax.specs.declared.expression.NameRef.{NameRef}
use Rattle.xpath_syntax.specs.declared.expression.Expr.{Expr, out-Expr}
use Rattle.xpath_syntax.specs.declared.expression.Expr.TheFolds.{map-Expr, fold_out-Expr, fold_out-Path, fold_out-StepExpr}
use Rattle.xpath_syntax.specs.declared.expression.Expr.TheOpen.{Expr-F}
use Rattle.xpath_syntax.specs.declared.expression.Expr.TheVariants as e
use Rattle.xpath_syntax.specs.declared.expression.Expr.TheVariants.{outs-Binary, outs-Minus, outs-Literal, outs-Number, outs-Variable, outs-Call, outs-Path, outs-Filter}
use Rattle.xpath_syntax.specs.declared.expression.Path.{Path, out-Path}
use Rattle.xpath_syntax.specs.declared.expression.StepExpr.{StepExpr, out-StepExpr}
use Rattle.sheet_graph.specs.Mentions.{Mentions, joined, slot_mentions, expr_layer, path_layer, step_layer, expr_mentions}
use Rattle.sheet_circles.specs.Parts.{path_mentions, step_mentions, tail_mentions}

by_layer : (x : Expr) (y : Expr-F Expr Path StepExpr) → out-Expr x ≡ y
    → expr_mentions x ≡ expr_layer (map-Expr Expr Path StepExpr Mentions Mentions Mentions expr_mentions path_mentions step_mentions y)
unfolding expr_mentions path_mentions step_mentions
by_layer x y is = fold_out-Expr Mentions Mentions Mentions expr_layer path_layer step_layer x
    ∙ ap (λ z. expr_layer (map-Expr Expr Path StepExpr Mentions Mentions Mentions expr_mentions path_mentions step_mentions z)) is

-- lists one after the other are those of the items one after the other
pub joined_map : {A : Type 0} (f : A → Mentions) (xs : List A) → joined (map f xs) ≡ flat_map f xs
joined_map f [] = refl
joined_map f (x ∷ xs) = ap (λ more. f x ++ more) (joined_map f xs)

pub of_operation : (op : Op) (a b : Expr) → expr_mentions (e.Binary op a b) ≡ expr_mentions b ++ expr_mentions a
of_operation op a b = by_layer _ _ (outs-Binary op a b)

pub of_minus : (a : Expr) → expr_mentions (e.Minus a) ≡ expr_mentions a
of_minus a = by_layer _ _ (outs-Minus a)

pub of_literal : (text : List ℕ) → expr_mentions (e.Literal text) ≡ []
of_literal text = by_layer _ _ (outs-Literal text)

pub of_number : (z : ℤ) → expr_mentions (e.Number z) ≡ []
of_number z = by_layer _ _ (outs-Number z)

pub of_variable : (name : NameRef) → expr_mentions (e.Variable name) ≡ slot_mentions name.slot
of_variable name = by_layer _ _ (outs-Variable name)

pub of_call : (name : NameRef) (args : List Expr) → expr_mentions (e.Call name args) ≡ flat_map expr_mentions args
of_call name args = by_layer _ _ (outs-Call name args) ∙ joined_map expr_mentions args

pub of_path : (path : Path) → expr_mentions (e.Path path) ≡ path_mentions path
of_path path = by_layer _ _ (outs-Path path)

pub of_filter : (a : Expr) (ps : List Expr) (tail : Option Path)
    → expr_mentions (e.Filter a ps tail) ≡ flat_map expr_mentions ps ++ tail_mentions tail ++ expr_mentions a
of_filter a ps None = by_layer _ _ (outs-Filter a ps None) ∙ ap (λ m. m ++ expr_mentions a) (joined_map expr_mentions ps ∙ sym (append-nil _))
of_filter a ps (Some path) = by_layer _ _ (outs-Filter a ps (Some path)) ∙ ap (λ m. m ++ path_mentions path ++ expr_mentions a) (joined_map expr_mentions ps)

pub of_steps : (path : Path) → path_mentions path ≡ flat_map step_mentions (out-Path path).parts
unfolding expr_mentions path_mentions step_mentions
of_steps path = fold_out-Path Mentions Mentions Mentions expr_layer path_layer step_layer path ∙ joined_map step_mentions (out-Path path).parts

pub of_predicates : (s : StepExpr) → step_mentions s ≡ flat_map expr_mentions (out-StepExpr s).predicates
unfolding expr_mentions path_mentions step_mentions
of_predicates s = fold_out-StepExpr Mentions Mentions Mentions expr_layer path_layer step_layer s ∙ joined_map expr_mentions (out-StepExpr s).predicates
