-- Whether an expression has a variable that there is none of, or a key that there is none of, at any depth.
use Rattle.std.specs.Prelude.{Bool, true, false, ◌||◌, not, is_some, List, Option, Some, None, codes}
use Rattle.std.specs.List.{list_any}
use Rattle.xpath_chains.specs.Mentions.{any, is_function}
use Rattle.xpath_syntax.specs.declared.expression.Expr.{Expr}
use Rattle.xpath_syntax.specs.declared.expression.Expr.TheOpen.{Expr-F, Path-F, StepExpr-F}
use Rattle.xpath_syntax.specs.declared.expression.Expr.TheFolds.{fold-Expr, fold-Path, fold-StepExpr}
use Rattle.xpath_syntax.specs.declared.expression.NameRef.{NameRef}
use Rattle.xpath_syntax.specs.declared.expression.Path.{Path}
use Rattle.xpath_syntax.specs.declared.expression.StepExpr.{StepExpr}
use Rattle.xpath_syntax.specs.declared.pattern.Part.{Part}
use Rattle.xpath_syntax.specs.declared.pattern.Part.TheVariants as part
use Rattle.xpath_syntax.specs.declared.pattern.Pattern.{Pattern}
use Rattle.xpath_syntax.specs.declared.pattern.PatternPath.{PatternPath}
use Rattle.xpath_syntax.specs.declared.pattern.PatternStart.{PatternStart}
use Rattle.xpath_syntax.specs.declared.pattern.PatternStart.TheVariants as start
use Rattle.xpath_syntax.specs.declared.pattern.PatternStep.{PatternStep}
use Rattle.sheet_reading.specs.declared.tree.Given.{Given}
use Rattle.sheet_values.specs.declared.value.Value.{Value}
use Rattle.sheet_values.specs.declared.value.Value.TheVariants as value
use Rattle.sheet_names.specs.declared.searching.Sought.{Sought}
use Rattle.sheet_names.specs.declared.searching.Sought.TheVariants as sought
use Rattle.sheet_names.specs.Names.{Name, expanded}
use Rattle.sheet_names.specs.Slots.{slot_of}

-- what is looked for: variables and calls that meet these, and keys of patterns or not
pub record Search : Type 0 where
  pub variable : NameRef → Bool
  pub call : NameRef → Bool
  pub key : Bool

-- variables that are neither among the globals nor among the locals in scope
abbrev pub unknown_variables : List Name → List Name → Search
unknown_variables globals locals = record {
  variable = λ name. not (is_some (slot_of globals locals (expanded name)));
  call = λ name. false;
  key = false;
}

-- no key is declared yet, so each that is named is unknown
abbrev pub unknown_keys : Search
unknown_keys = record { variable = λ name. false; call = is_function (codes "key"); key = true }

abbrev pub search_for : Sought → Search
search_for (sought.Variable globals locals) = unknown_variables globals.now locals.now
search_for sought.Key = unknown_keys

-- by what its parts have
abbrev pub expr_has : Search → Expr-F Bool Bool Bool → Bool
expr_has S (Expr-F.Binary op left right) = left || right
expr_has S (Expr-F.Minus inner) = inner
expr_has S (Expr-F.Literal text) = false
expr_has S (Expr-F.Number whole) = false
expr_has S (Expr-F.Variable name) = S.variable name
expr_has S (Expr-F.Call name args) = S.call name || any args
expr_has S (Expr-F.Path path) = path
expr_has S (Expr-F.Filter primary predicates None) = primary || any predicates
expr_has S (Expr-F.Filter primary predicates (Some tail)) = primary || (any predicates || tail)

abbrev pub parts_have : Path-F Bool Bool Bool → Bool
parts_have path = any path.parts

abbrev pub predicates_have : StepExpr-F Bool Bool Bool → Bool
predicates_have step = any step.predicates

unfoldable pub has : Search → Expr → Bool
has S = fold-Expr Bool Bool Bool (expr_has S) parts_have predicates_have

unfoldable pub path_has : Search → Path → Bool
path_has S = fold-Path Bool Bool Bool (expr_has S) parts_have predicates_have

unfoldable pub step_has : Search → StepExpr → Bool
step_has S = fold-StepExpr Bool Bool Bool (expr_has S) parts_have predicates_have

abbrev pub tail_has : Search → Option Path → Bool
tail_has S None = false
tail_has S (Some path) = path_has S path

-- a call, the predicates of a primary and the path behind it
abbrev pub call_has : Search → NameRef → List Expr → Bool
call_has S name args = S.call name || list_any (has S) args

abbrev pub behind_has : Search → List Expr → Option Path → Bool
behind_has S predicates tail = list_any (has S) predicates || tail_has S tail

abbrev pub start_has : Search → PatternStart → Bool
start_has S (start.Key name text) = S.key
start_has S _ = false

abbrev pub pattern_step_has : Search → PatternStep → Bool
pattern_step_has S step = step_has S step.part

abbrev pub pattern_path_has : Search → PatternPath → Bool
pattern_path_has S path = start_has S path.start || list_any (pattern_step_has S) path.parts

abbrev pub pattern_has : Search → Pattern → Bool
pattern_has S pattern = list_any (pattern_path_has S) pattern.alternatives

abbrev pub part_has : Search → Part → Bool
part_has S (part.Plain text) = false
part_has S (part.Value e) = has S e

-- the value of an attribute
abbrev pub value_has : Search → Value → Bool
value_has S (value.Expression e) = has S e
value_has S (value.Pattern pattern) = pattern_has S pattern
value_has S (value.Template parts) = list_any (part_has S) parts
value_has S _ = false

abbrev pub given_has : Search → Given → Bool
given_has S given = value_has S given.value
