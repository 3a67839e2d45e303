-- The value of each form of expression.
use Rattle.std.proofs.Common.{◌≡◌, refl, sym, ap, ◌∙◌, ℕ, ℤ, List, map, Option, Some, None, pos}
use Rattle.std.specs.Option.{option_map}
use Rattle.doc_model.specs.Answers.{Known, Fault, Open}
use Rattle.whole_num.specs.Number.{difference_of}
use Rattle.whole_num.specs.declared.number.Num.{Num}
use Rattle.whole_num.specs.declared.number.Num.TheVariants.{Whole}
use Rattle.xpath_laws.proofs.Equations.{binary_means, minus_means, literal_means, number_means, variable_means, call_means, location_means, filter_means, tail_means}
use Rattle.xpath_meaning.specs.declared.context.Context.{Context}
use Rattle.xpath_meaning.specs.Calls.{call}
use Rattle.xpath_meaning.specs.Conversions.{text, number}
use Rattle.xpath_meaning.specs.Evaluation.{meant, meant_path, filter_value, value_in}
use Rattle.xpath_meaning.specs.Meanings.{Meant, number_at}
use Rattle.xpath_meaning.specs.Operators.{binary}
use Rattle.xpath_meaning.specs.Outcome.{Outcome, ◌>>=◌, calculated}
use Rattle.xpath_meaning.specs.Reading.{Reading}
use Rattle.xpath_meaning.specs.Steps.{path_nodes}
use Rattle.xpath_operations.specs.Operands.{negated, operand_as}
use Rattle.xpath_operations.specs.declared.operand.Operand.TheVariants.{Number}
use Rattle.xpath_operations.specs.declared.operand.OperandKind.TheVariants as kind
use Rattle.xpath_syntax.specs.declared.expression.Expr.{Expr}
use Rattle.xpath_syntax.specs.declared.expression.Expr.TheVariants as expr
use Rattle.xpath_syntax.specs.declared.expression.NameRef.{NameRef}
use Rattle.xpath_syntax.specs.declared.expression.Op.{Op}
use Rattle.xpath_syntax.specs.declared.expression.Path.{Path}
use Rattle.xpath_values.specs.declared.value.Value.{Value}
use Rattle.xpath_values.specs.declared.value.Value.TheVariants.{Nodes}

value_by : (e : Expr) (m : Meant) (R : Reading) (values : List Value) (c : Context) → meant e ≡ m → (meant e).value R values c ≡ m.value R values c
value_by e m R values c h = ap (λ (m : Meant). m.value R values c) h

pub binary_value : (e l r a b : Expr) (op : Op) (R : Reading) (values : List Value) (c : Context) → e ≡ expr.Binary op l r → a ≡ l → b ≡ r
    → (meant e).value R values c ≡ binary op (meant a) (meant b) R values c
binary_value e l r a b op R values c is left right =
    value_by e _ R values c (ap meant is ∙ binary_means op l r) ∙ ap (λ x. binary op (meant x) (meant r) R values c) (sym left) ∙ ap (λ x. binary op (meant a) (meant x) R values c) (sym right)

less : (o : Outcome Num) → (o >>= λ n. calculated (difference_of (Whole (pos 0)) n) >>= λ n. Known (number n)) ≡ ((o >>= λ n. Known (Number n)) >>= negated)
less (Known n) = refl
less (Fault f) = refl
less (Open m) = refl

pub minus_value : (e i a : Expr) (R : Reading) (values : List Value) (c : Context) → e ≡ expr.Minus i → a ≡ i
    → (meant e).value R values c ≡ (operand_as kind.Number (meant a) R values c >>= λ x. negated x)
minus_value e i a R values c is same =
    value_by e _ R values c (ap meant is ∙ minus_means i) ∙ less (number_at (meant i) R values c) ∙ ap (λ x. operand_as kind.Number (meant x) R values c >>= negated) (sym same)

pub literal_value : (e : Expr) (bytes : List ℕ) (R : Reading) (values : List Value) (c : Context) → e ≡ expr.Literal bytes → (meant e).value R values c ≡ Known (text bytes)
literal_value e bytes R values c is = value_by e _ R values c (ap meant is ∙ literal_means bytes)

pub number_value : (e : Expr) (whole : ℤ) (R : Reading) (values : List Value) (c : Context) → e ≡ expr.Number whole → (meant e).value R values c ≡ Known (number (Whole whole))
number_value e whole R values c is = value_by e _ R values c (ap meant is ∙ number_means whole)

pub variable_value : (e : Expr) (name : NameRef) (R : Reading) (values : List Value) (c : Context) → e ≡ expr.Variable name → (meant e).value R values c ≡ Known (value_in values name.slot)
variable_value e name R values c is = value_by e _ R values c (ap meant is ∙ variable_means name)

pub call_value : (e : Expr) (name : NameRef) (args items : List Expr) (R : Reading) (values : List Value) (c : Context) → e ≡ expr.Call name args → items ≡ args
    → (meant e).value R values c ≡ call name (map meant items) R values c
call_value e name args items R values c is same = value_by e _ R values c (ap meant is ∙ call_means name args) ∙ ap (λ xs. call name (map meant xs) R values c) (sym same)

pub path_value : (e : Expr) (path : Path) (R : Reading) (values : List Value) (c : Context) → e ≡ expr.Path path
    → (meant e).value R values c ≡ (path_nodes (meant_path path) R values c >>= λ nodes. Known (Nodes nodes))
path_value e path R values c is = value_by e _ R values c (ap meant is ∙ location_means path)

pub filtered_value : (e primary a : Expr) (predicates items : List Expr) (tail : Option Path) (R : Reading) (values : List Value) (c : Context)
    → e ≡ expr.Filter primary predicates tail → a ≡ primary → items ≡ predicates
    → (meant e).value R values c ≡ filter_value (meant a) (map meant items) (option_map meant_path tail) R values c
filtered_value e primary a predicates items None R values c is same all =
    value_by e _ R values c (ap meant is ∙ filter_means primary predicates)
    ∙ ap (λ x. filter_value (meant x) (map meant predicates) None R values c) (sym same) ∙ ap (λ xs. filter_value (meant a) (map meant xs) None R values c) (sym all)
filtered_value e primary a predicates items (Some path) R values c is same all =
    value_by e _ R values c (ap meant is ∙ tail_means primary predicates path)
    ∙ ap (λ x. filter_value (meant x) (map meant predicates) (Some (meant_path path)) R values c) (sym same)
    ∙ ap (λ xs. filter_value (meant a) (map meant xs) (Some (meant_path path)) R values c) (sym all)
