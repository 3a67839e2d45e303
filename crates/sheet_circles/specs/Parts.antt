-- What the parts of expressions mention.
use Rattle.std.specs.Prelude.{List, [], Option, Some, None}
use Rattle.sheet_graph.specs.Mentions.{Mentions, expr_layer, path_layer, step_layer}
use Rattle.xpath_syntax.specs.declared.expression.Expr.TheFolds.{fold-Path, fold-StepExpr}
use Rattle.xpath_syntax.specs.declared.expression.Path.{Path}
use Rattle.xpath_syntax.specs.declared.expression.StepExpr.{StepExpr}

-- the variables of a location path
unfoldable pub path_mentions : Path → Mentions
path_mentions = fold-Path Mentions Mentions Mentions expr_layer path_layer step_layer

-- the variables of a step
unfoldable pub step_mentions : StepExpr → Mentions
step_mentions = fold-StepExpr Mentions Mentions Mentions expr_layer path_layer step_layer

abbrev pub tail_mentions : Option Path → Mentions
tail_mentions None = []
tail_mentions (Some path) = path_mentions path
