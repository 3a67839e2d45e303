-- What is named of an expression that is known by an equation.
use Rattle.std.proofs.Common.{◌≡◌, refl, sym, ap, ◌∙◌, ℕ, ℤ, List, [], ◌∷◌, ◌++◌, Option, Result, Ok, Err, ◌⊎◌, inl, inr, length, take, ◌≤◌, ◌<◌, arith}
use Rattle.std.specs.Result.{IfOk}
use Rattle.std.specs.List.{flat_map}
use Rattle.std.proofs.lemmas.List.{append-nil, append_assoc}
use Rattle.sheet_ast.specs.declared.sheet.Sheet.{Sheet}
use Rattle.sheet_graph.specs.Graph.{names_of}
use Rattle.sheet_graph.specs.Mentions.{Mentions, expr_mentions, slot_mentions}
use Rattle.sheet_circles.specs.Parts.{path_mentions, tail_mentions}
use Rattle.sheet_circles.proofs.Equations.{of_operation, of_minus, of_literal, of_number, of_variable, of_call, of_path, of_filter}
use Rattle.sheet_circles.proofs.Naming.{then_named, left_named, all_named}
use Rattle.xpath_syntax.specs.declared.expression.Op.{Op}
use Rattle.xpath_syntax.specs.declared.expression.NameRef.{NameRef}
use Rattle.xpath_syntax.specs.declared.expression.Expr.{Expr}
use Rattle.xpath_syntax.specs.declared.expression.Expr.TheVariants as e
use Rattle.xpath_syntax.specs.declared.expression.Path.{Path}

-- what holds of an answer that is there
pub if_ok : {T E : Type 0} {P Q : Type 0} (r : Result T E) → IfOk r (λ _. P) → (P → Q) → IfOk r (λ _. Q)
if_ok (Ok x) p f = f p
if_ok (Err x) p f = tt

pub right_first : (s : Sheet) (from names later : List ℕ) (whole : Mentions) (x a b r l : Expr) (op : Op) → names ++ names_of s (expr_mentions x) ≡ from ++ names_of s whole
    → x ≡ e.Binary op a b → r ≡ b → l ≡ a → later ≡ names ++ names_of s (expr_mentions r) → later ++ names_of s (expr_mentions l) ≡ from ++ names_of s whole
right_first s from names later whole x a b r l op left is right next named =
    left_named s from names later whole (expr_mentions x) (expr_mentions l) (expr_mentions r) left
    (ap expr_mentions is ∙ of_operation op a b ∙ sym (ap (λ y. expr_mentions y ++ expr_mentions a) right) ∙ sym (ap (λ y. expr_mentions r ++ expr_mentions y) next)) named

pub minus_left : (s : Sheet) (from names : List ℕ) (whole : Mentions) (x a l : Expr) → names ++ names_of s (expr_mentions x) ≡ from ++ names_of s whole
    → x ≡ e.Minus a → l ≡ a → names ++ names_of s (expr_mentions l) ≡ from ++ names_of s whole
minus_left s from names whole x a l left is next =
    ap (λ y. names ++ names_of s (expr_mentions y)) next ∙ sym (ap (λ m. names ++ names_of s m) (ap expr_mentions is ∙ of_minus a)) ∙ left

pub primary_left : (s : Sheet) (from names between later : List ℕ) (whole : Mentions) (x a l : Expr) (ps : List Expr) (tail : Option Path)
    → names ++ names_of s (expr_mentions x) ≡ from ++ names_of s whole → x ≡ e.Filter a ps tail → l ≡ a
    → between ≡ names ++ names_of s (flat_map expr_mentions ps) → later ≡ between ++ names_of s (tail_mentions tail)
    → later ++ names_of s (expr_mentions l) ≡ from ++ names_of s whole
primary_left s from names between later whole x a l ps tail left is next first second =
    left_named s from names later whole (expr_mentions x) (expr_mentions l) (flat_map expr_mentions ps ++ tail_mentions tail) left
    (ap expr_mentions is ∙ of_filter a ps tail ∙ sym (ap (λ y. flat_map expr_mentions ps ++ tail_mentions tail ++ expr_mentions y) next))
    (then_named s names between later (flat_map expr_mentions ps) (tail_mentions tail) first second)

pub variable_named : (s : Sheet) (from names later : List ℕ) (whole : Mentions) (x : Expr) (name : NameRef) → names ++ names_of s (expr_mentions x) ≡ from ++ names_of s whole
    → x ≡ e.Variable name → later ≡ names ++ names_of s (slot_mentions name.slot) → later ≡ from ++ names_of s whole
variable_named s from names later whole x name left is named = all_named s from names later whole (expr_mentions x) _ left (ap expr_mentions is ∙ of_variable name) named

pub call_named : (s : Sheet) (from names later : List ℕ) (whole : Mentions) (x : Expr) (name : NameRef) (args : List Expr) → names ++ names_of s (expr_mentions x) ≡ from ++ names_of s whole
    → x ≡ e.Call name args → later ≡ names ++ names_of s (flat_map expr_mentions args) → later ≡ from ++ names_of s whole
call_named s from names later whole x name args left is named = all_named s from names later whole (expr_mentions x) _ left (ap expr_mentions is ∙ of_call name args) named

pub path_named : (s : Sheet) (from names later : List ℕ) (whole : Mentions) (x : Expr) (path : Path) → names ++ names_of s (expr_mentions x) ≡ from ++ names_of s whole
    → x ≡ e.Path path → later ≡ names ++ names_of s (path_mentions path) → later ≡ from ++ names_of s whole
path_named s from names later whole x path left is named = all_named s from names later whole (expr_mentions x) _ left (ap expr_mentions is ∙ of_path path) named

pub nothing_named : (s : Sheet) (from names : List ℕ) (whole : Mentions) (x : Expr) → names ++ names_of s (expr_mentions x) ≡ from ++ names_of s whole
    → ((text : List ℕ) × (x ≡ e.Literal text)) ⊎ ((z : ℤ) × (x ≡ e.Number z)) → names ≡ from ++ names_of s whole
nothing_named s from names whole x left (inl is) = sym (append-nil names) ∙ sym (ap (λ m. names ++ names_of s m) (ap expr_mentions is.1 ∙ of_literal is.0)) ∙ left
nothing_named s from names whole x left (inr is) = sym (append-nil names) ∙ sym (ap (λ m. names ++ names_of s m) (ap expr_mentions is.1 ∙ of_number is.0)) ∙ left
