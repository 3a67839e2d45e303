-- An expression taken apart.
use Rattle.xpath_syntax.specs.declared.expression.Expr.{Expr}
use Rattle.xpath_syntax.specs.declared.expression.Expr.TheVariants as expr
use Rattle.xpath_syntax.specs.declared.expression.Layer.{Layer}
use Rattle.xpath_syntax.specs.declared.expression.Layer.TheVariants as layer

-- the expression of this form, with these parts
abbrev pub of_layer : Layer → Expr
of_layer (layer.Binary op left right) = expr.Binary op left right
of_layer (layer.Minus inner) = expr.Minus inner
of_layer (layer.Literal text) = expr.Literal text
of_layer (layer.Number whole) = expr.Number whole
of_layer (layer.Variable name) = expr.Variable name
of_layer (layer.Call name args) = expr.Call name args
of_layer (layer.Path path) = expr.Path path
of_layer (layer.Filter primary predicates tail) = expr.Filter primary predicates tail
