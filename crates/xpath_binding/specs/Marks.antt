-- Expressions with the location paths marked whose nodes may be read one by one.
use Rattle.std.specs.Prelude.{Bool, true, false, ◌&&◌, not, List, [], ◌∷◌, Option, Some, None, codes}
use Rattle.std.specs.List.{list_all}
use Rattle.xpath_syntax.specs.declared.expression.AxisName.{AxisName}
use Rattle.xpath_syntax.specs.declared.expression.AxisName.TheVariants as axis
use Rattle.xpath_syntax.specs.declared.expression.Expr.{Expr, roll-Expr}
use Rattle.xpath_syntax.specs.declared.expression.Expr.TheOpen.{Expr-F, Path-F}
use Rattle.xpath_syntax.specs.declared.expression.Expr.TheFolds.{fold-Expr, fold-Path, fold-StepExpr}
use Rattle.xpath_syntax.specs.declared.expression.Expr.TheVariants as expr
use Rattle.xpath_syntax.specs.declared.expression.Path.{Path, roll-Path, out-Path}
use Rattle.xpath_syntax.specs.declared.expression.StepExpr.{StepExpr, roll-StepExpr, out-StepExpr}
use Rattle.xpath_chains.specs.Mentions.{step_mentions}

abbrev pub is_child : AxisName → Bool
is_child axis.Child = true
is_child _ = false

-- a step on the child axis without last() in its predicates, at any depth
abbrev pub is_plain : StepExpr → Bool
is_plain step = is_child (out-StepExpr step).axis && not (step_mentions (codes "last") step)

-- there are such steps, and no others
abbrev pub may_stream : List StepExpr → Bool
may_stream [] = false
may_stream (step ∷ steps) = list_all is_plain (step ∷ steps)

-- a path with these steps, marked so
abbrev pub with_steps : Path-F Expr Path StepExpr → Bool → Path
with_steps path streams = roll-Path (record { absolute = path.absolute; parts = path.parts; streams = streams })

-- a location path, where this is allowed
abbrev pub mark_path : Bool → Path-F Expr Path StepExpr → Path
mark_path allowed path = with_steps path (allowed && may_stream path.parts)

-- the path behind a primary is no location path
abbrev pub unmarked : Path → Path
unmarked path = with_steps (out-Path path) false

abbrev pub mark_expr : Expr-F Expr Path StepExpr → Expr
mark_expr (Expr-F.Filter primary predicates (Some tail)) = expr.Filter primary predicates (Some (unmarked tail))
mark_expr e = roll-Expr e

unfoldable pub marked : Bool → Expr → Expr
marked allowed = fold-Expr Expr Path StepExpr mark_expr (mark_path allowed) roll-StepExpr

unfoldable pub marked_path : Bool → Path → Path
marked_path allowed = fold-Path Expr Path StepExpr mark_expr (mark_path allowed) roll-StepExpr

unfoldable pub marked_step : Bool → StepExpr → StepExpr
marked_step allowed = fold-StepExpr Expr Path StepExpr mark_expr (mark_path allowed) roll-StepExpr

abbrev pub marked_tail : Bool → Option Path → Option Path
marked_tail allowed None = None
marked_tail allowed (Some path) = Some (unmarked (marked_path allowed path))
