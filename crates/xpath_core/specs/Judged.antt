-- How an operand is made of an expression.
use Rattle.std.specs.Prelude.{◌≡◌, true, false, None, Some, ◌⊎◌}
use Rattle.xpath_meaning.specs.Evaluation.{meant, meant_path}
use Rattle.xpath_meaning.specs.Items.{path_items}
use Rattle.xpath_operations.specs.Operands.{is_converted}
use Rattle.xpath_operations.specs.declared.operand.OperandKind.{OperandKind}
use Rattle.xpath_syntax.specs.declared.expression.Expr.{Expr}
use Rattle.xpath_syntax.specs.declared.expression.Expr.TheVariants as expr
use Rattle.xpath_syntax.specs.declared.expression.Path.{Path}

-- the operand is made of the value
abbrev pub JudgedByValue : OperandKind → Expr → Type 0
JudgedByValue kind e = ((meant e).items ≡ None) ⊎ (is_converted kind ≡ false)

-- the operand is made of the first item of this path, which is the expression
pub record JudgedByFirst (kind : OperandKind) (e : Expr) (path : Path) : Type 0 where
  pub converted : is_converted kind ≡ true
  pub is : e ≡ expr.Path path
  pub items : (meant e).items ≡ Some (path_items (meant_path path))
