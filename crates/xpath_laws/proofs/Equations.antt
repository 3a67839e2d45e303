-- Meanings by the meanings of the parts.
use Rattle.std.proofs.Common.{◌≡◌, ap, ◌∙◌, ℕ, ℤ, List, map, Some, None}
use Rattle.doc_model.specs.Answers.{Known}
use Rattle.whole_num.specs.declared.number.Num.TheVariants.{Whole}
use Rattle.xpath_meaning.specs.Calls.{call}
use Rattle.xpath_meaning.specs.Conversions.{text, number}
use Rattle.xpath_meaning.specs.Evaluation.{expr_means, path_means, step_means, meant, meant_path, meant_step, path_value, filter_value, value_in}
use Rattle.xpath_meaning.specs.Items.{if_streams}
use Rattle.xpath_meaning.specs.Meanings.{Meant, MeantPath, MeantStep, plain}
use Rattle.xpath_meaning.specs.Operators.{binary, minus}
use Rattle.xpath_syntax.specs.declared.expression.Expr.{Expr, out-Expr}
use Rattle.xpath_syntax.specs.declared.expression.Expr.TheFolds.{map-Expr, fold_out-Expr, fold_out-Path, fold_out-StepExpr}
use Rattle.xpath_syntax.specs.declared.expression.Expr.TheOpen.{Expr-F}
use Rattle.xpath_syntax.specs.declared.expression.Expr.TheVariants as expr
use Rattle.xpath_syntax.specs.declared.expression.Expr.TheVariants.{outs-Binary, outs-Minus, outs-Literal, outs-Number, outs-Variable, outs-Call, outs-Path, outs-Filter}
use Rattle.xpath_syntax.specs.declared.expression.NameRef.{NameRef}
use Rattle.xpath_syntax.specs.declared.expression.Op.{Op}
use Rattle.xpath_syntax.specs.declared.expression.Path.{Path, out-Path}
use Rattle.xpath_syntax.specs.declared.expression.StepExpr.{StepExpr, out-StepExpr}

by_layer : (x : Expr) (y : Expr-F Expr Path StepExpr) → out-Expr x ≡ y → meant x ≡ expr_means (map-Expr Expr Path StepExpr Meant MeantPath MeantStep meant meant_path meant_step y)
unfolding meant meant_path meant_step
by_layer x y is = fold_out-Expr Meant MeantPath MeantStep expr_means path_means step_means x
    ∙ ap (λ z. expr_means (map-Expr Expr Path StepExpr Meant MeantPath MeantStep meant meant_path meant_step z)) is

pub binary_means : (op : Op) (left right : Expr) → meant (expr.Binary op left right) ≡ plain (binary op (meant left) (meant right))
binary_means op left right = by_layer _ _ (outs-Binary op left right)

pub minus_means : (inner : Expr) → meant (expr.Minus inner) ≡ plain (minus (meant inner))
minus_means inner = by_layer _ _ (outs-Minus inner)

pub literal_means : (bytes : List ℕ) → meant (expr.Literal bytes) ≡ plain (λ R values c. Known (text bytes))
literal_means bytes = by_layer _ _ (outs-Literal bytes)

pub number_means : (whole : ℤ) → meant (expr.Number whole) ≡ plain (λ R values c. Known (number (Whole whole)))
number_means whole = by_layer _ _ (outs-Number whole)

pub variable_means : (name : NameRef) → meant (expr.Variable name) ≡ plain (λ R values c. Known (value_in values name.slot))
variable_means name = by_layer _ _ (outs-Variable name)

pub call_means : (name : NameRef) (args : List Expr) → meant (expr.Call name args) ≡ plain (call name (map meant args))
call_means name args = by_layer _ _ (outs-Call name args)

pub location_means : (path : Path) → meant (expr.Path path) ≡ record { value = path_value (meant_path path); items = if_streams (meant_path path).streams (meant_path path) }
location_means path = by_layer _ _ (outs-Path path)

pub filter_means : (primary : Expr) (predicates : List Expr) → meant (expr.Filter primary predicates None) ≡ plain (filter_value (meant primary) (map meant predicates) None)
filter_means primary predicates = by_layer _ _ (outs-Filter primary predicates None)

pub tail_means : (primary : Expr) (predicates : List Expr) (tail : Path)
    → meant (expr.Filter primary predicates (Some tail)) ≡ plain (filter_value (meant primary) (map meant predicates) (Some (meant_path tail)))
tail_means primary predicates tail = by_layer _ _ (outs-Filter primary predicates (Some tail))

pub meant_path_is : (path : Path) → meant_path path ≡ record { absolute = (out-Path path).absolute; parts = map meant_step (out-Path path).parts; streams = (out-Path path).streams }
unfolding meant meant_path meant_step
meant_path_is path = fold_out-Path Meant MeantPath MeantStep expr_means path_means step_means path

pub meant_step_is : (step : StepExpr) → meant_step step ≡ record { axis = (out-StepExpr step).axis; test = (out-StepExpr step).test; predicates = map meant (out-StepExpr step).predicates }
unfolding meant meant_path meant_step
meant_step_is step = fold_out-StepExpr Meant MeantPath MeantStep expr_means path_means step_means step
