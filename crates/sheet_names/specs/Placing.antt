-- Expressions with the slots of their variables.
use Rattle.std.specs.Prelude.{List, Option, Some, None}
use Rattle.xpath_syntax.specs.declared.expression.Expr.{Expr, roll-Expr}
use Rattle.xpath_syntax.specs.declared.expression.Expr.TheOpen.{Expr-F}
use Rattle.xpath_syntax.specs.declared.expression.Expr.TheFolds.{fold-Expr, fold-Path, fold-StepExpr}
use Rattle.xpath_syntax.specs.declared.expression.Expr.TheVariants as expr
use Rattle.xpath_syntax.specs.declared.expression.Path.{Path, roll-Path}
use Rattle.xpath_syntax.specs.declared.expression.StepExpr.{StepExpr, roll-StepExpr}
use Rattle.xpath_syntax.specs.declared.pattern.Part.{Part}
use Rattle.xpath_syntax.specs.declared.pattern.Part.TheVariants as part
use Rattle.sheet_names.specs.Names.{Name}
use Rattle.sheet_names.specs.Slots.{placed_name}

-- by its parts: a variable gets its slot, and all else stays
abbrev pub place_expr : List Name → List Name → Expr-F Expr Path StepExpr → Expr
place_expr globals locals (Expr-F.Variable name) = expr.Variable (placed_name globals locals name)
place_expr globals locals e = roll-Expr e

unfoldable pub placed : List Name → List Name → Expr → Expr
placed globals locals = fold-Expr Expr Path StepExpr (place_expr globals locals) roll-Path roll-StepExpr

unfoldable pub placed_path : List Name → List Name → Path → Path
placed_path globals locals = fold-Path Expr Path StepExpr (place_expr globals locals) roll-Path roll-StepExpr

unfoldable pub placed_step : List Name → List Name → StepExpr → StepExpr
placed_step globals locals = fold-StepExpr Expr Path StepExpr (place_expr globals locals) roll-Path roll-StepExpr

abbrev pub placed_tail : List Name → List Name → Option Path → Option Path
placed_tail globals locals None = None
placed_tail globals locals (Some path) = Some (placed_path globals locals path)

-- the expressions of a value template
abbrev pub placed_part : List Name → List Name → Part → Part
placed_part globals locals (part.Plain text) = part.Plain text
placed_part globals locals (part.Value e) = part.Value (placed globals locals e)
