-- Which calls an expression has.
use Rattle.std.specs.Prelude.{ℕ, Bool, false, ◌||◌, ◌&&◌, List, [], Option, Some, None, codes}
use Rattle.std.specs.List.{list_any}
use Rattle.std.specs.Str.{bytes_eq}
use Rattle.xpath_syntax.specs.declared.expression.Expr.{Expr}
use Rattle.xpath_syntax.specs.declared.expression.Expr.TheOpen.{Expr-F, Path-F, StepExpr-F}
use Rattle.xpath_syntax.specs.declared.expression.Expr.TheFolds.{fold-Expr, fold-Path, fold-StepExpr}
use Rattle.xpath_syntax.specs.declared.expression.NameRef.{NameRef}
use Rattle.xpath_syntax.specs.declared.expression.Path.{Path}
use Rattle.xpath_syntax.specs.declared.expression.StepExpr.{StepExpr}

-- the name of this function
abbrev pub is_function : List ℕ → NameRef → Bool
is_function word name = bytes_eq name.prefix [] && bytes_eq name.local word

-- one of them holds
abbrev pub any : List Bool → Bool
any bs = list_any (λ b. b) bs

-- by what its parts have: a call of the function
abbrev pub has_call : List ℕ → Expr-F Bool Bool Bool → Bool
has_call word (Expr-F.Binary op left right) = left || right
has_call word (Expr-F.Minus inner) = inner
has_call word (Expr-F.Literal text) = false
has_call word (Expr-F.Number whole) = false
has_call word (Expr-F.Variable name) = false
has_call word (Expr-F.Call name args) = is_function word name || any args
has_call word (Expr-F.Path path) = path
has_call word (Expr-F.Filter primary predicates None) = primary || any predicates
has_call word (Expr-F.Filter primary predicates (Some tail)) = primary || (any predicates || tail)

abbrev pub path_has : Path-F Bool Bool Bool → Bool
path_has path = any path.parts

abbrev pub step_has : StepExpr-F Bool Bool Bool → Bool
step_has step = any step.predicates

-- an expression, a path and a step have a call of the function, at any depth
unfoldable pub mentions : List ℕ → Expr → Bool
mentions word = fold-Expr Bool Bool Bool (has_call word) path_has step_has

unfoldable pub path_mentions : List ℕ → Path → Bool
path_mentions word = fold-Path Bool Bool Bool (has_call word) path_has step_has

unfoldable pub step_mentions : List ℕ → StepExpr → Bool
step_mentions word = fold-StepExpr Bool Bool Bool (has_call word) path_has step_has

abbrev pub tail_mentions : List ℕ → Option Path → Bool
tail_mentions word None = false
tail_mentions word (Some path) = path_mentions word path

-- by what its parts have, predicates left out: a call of last()
abbrev pub has_last_outside : Expr-F Bool Bool Bool → Bool
has_last_outside (Expr-F.Binary op left right) = left || right
has_last_outside (Expr-F.Minus inner) = inner
has_last_outside (Expr-F.Call name args) = is_function (codes "last") name || any args
has_last_outside (Expr-F.Filter primary predicates tail) = primary
has_last_outside _ = false

-- an expression has a call of last() that stands in no predicate
unfoldable pub last_outside : Expr → Bool
last_outside = fold-Expr Bool Bool Bool has_last_outside (λ path. false) (λ step. false)
