-- Expressions and patterns with their names bound, or the first refusal in the order of their tokens.
use Rattle.std.specs.Prelude.{ℕ, List, [], ◌∷◌, length, map, Bool, true, false, if◌then◌else◌, Option, Some, None, Result, Ok, Err}
use Rattle.xpath_syntax.specs.declared.expression.AxisName.{AxisName}
use Rattle.xpath_syntax.specs.declared.expression.AxisName.TheVariants as axis
use Rattle.xpath_syntax.specs.declared.expression.Expr.{Expr, out-Expr}
use Rattle.xpath_syntax.specs.declared.expression.Expr.TheVariants as expr
use Rattle.xpath_syntax.specs.declared.expression.Expr.TheOpen.{Expr-F, Path-F, StepExpr-F}
use Rattle.xpath_syntax.specs.declared.expression.Expr.TheFolds.{fold-Expr, fold-Path, fold-StepExpr}
use Rattle.xpath_syntax.specs.declared.expression.NameRef.{NameRef}
use Rattle.xpath_syntax.specs.declared.expression.Path.{Path, roll-Path}
use Rattle.xpath_syntax.specs.declared.expression.StepExpr.{StepExpr, roll-StepExpr}
use Rattle.xpath_syntax.specs.declared.expression.TestExpr.{TestExpr}
use Rattle.xpath_syntax.specs.declared.expression.TestExpr.TheVariants as test
use Rattle.xpath_syntax.specs.declared.pattern.Pattern.{Pattern}
use Rattle.xpath_syntax.specs.declared.pattern.PatternPath.{PatternPath}
use Rattle.xpath_syntax.specs.declared.pattern.PatternStart.{PatternStart}
use Rattle.xpath_syntax.specs.declared.pattern.PatternStart.TheVariants as start
use Rattle.xpath_syntax.specs.declared.pattern.PatternStep.{PatternStep}
use Rattle.xpath_binding.specs.declared.error.BindError.{BindError}
use Rattle.xpath_binding.specs.declared.error.BindError.TheVariants as error
use Rattle.xpath_binding.specs.Names.{◌>>=◌, Resolution, bound_name}
use Rattle.xpath_binding.specs.Scope.{Scope, bound_variable, call_uri}

-- each of them in order, or the first refusal
abbrev pub in_order : {A : Type 0} → List (Result A BindError) → Result (List A) BindError
in_order [] = Ok []
in_order (x ∷ xs) = x >>= λ y. in_order xs >>= λ ys. Ok (y ∷ ys)

-- what a part is: its text where it is a literal, and what it is bound to
pub record Bound : Type 0 where
  pub text : Option (List ℕ)
  pub tree : Result Expr BindError

abbrev pub trees : List Bound → List (Result Expr BindError)
trees parts = map (λ (part : Bound). part.tree) parts

abbrev pub first_text : List Bound → Option (List ℕ)
first_text [] = None
first_text (part ∷ parts) = part.text

-- the text of a literal
abbrev pub text_of_layer : {E P T : Type 0} → Expr-F E P T → Option (List ℕ)
text_of_layer (Expr-F.Literal text) = Some text
text_of_layer _ = None

abbrev pub text_of : Expr → Option (List ℕ)
text_of e = text_of_layer (out-Expr e)

abbrev pub first_literal : List Expr → Option (List ℕ)
first_literal [] = None
first_literal (e ∷ es) = text_of e

-- a call is judged at its name, then at its key's name, then its arguments are bound
abbrev pub call_binds : Scope → NameRef → ℕ → Option (List ℕ) → Result (List Expr) BindError → Result Expr BindError
call_binds S name count first args =
    call_uri S name count first >>= λ uri. args >>= λ bound. Ok (expr.Call (record name { uri = Some uri }) bound)

abbrev pub bound_tail : Option (Result Path BindError) → Result (Option Path) BindError
bound_tail None = Ok None
bound_tail (Some tail) = tail >>= λ path. Ok (Some path)

-- an expression by what its parts are bound to
abbrev pub expr_binds : Scope → Expr-F Bound (Result Path BindError) (Result StepExpr BindError) → Result Expr BindError
expr_binds S (Expr-F.Binary op left right) = left.tree >>= λ x. right.tree >>= λ y. Ok (expr.Binary op x y)
expr_binds S (Expr-F.Minus inner) = inner.tree >>= λ x. Ok (expr.Minus x)
expr_binds S (Expr-F.Literal text) = Ok (expr.Literal text)
expr_binds S (Expr-F.Number whole) = Ok (expr.Number whole)
expr_binds S (Expr-F.Variable name) = bound_variable S name >>= λ bound. Ok (expr.Variable bound)
expr_binds S (Expr-F.Call name args) = call_binds S name (length args) (first_text args) (in_order (trees args))
expr_binds S (Expr-F.Path path) = path >>= λ bound. Ok (expr.Path bound)
expr_binds S (Expr-F.Filter primary predicates tail) =
    primary.tree >>= λ x. in_order (trees predicates) >>= λ ps. bound_tail tail >>= λ path. Ok (expr.Filter x ps path)

abbrev pub binds : Scope → Expr-F Bound (Result Path BindError) (Result StepExpr BindError) → Bound
binds S e = record { text = text_of_layer e; tree = expr_binds S e }

abbrev pub path_binds : Path-F Bound (Result Path BindError) (Result StepExpr BindError) → Result Path BindError
path_binds path = in_order path.parts >>= λ parts. Ok (roll-Path (record { absolute = path.absolute; parts = parts; streams = path.streams }))

abbrev pub is_namespace : AxisName → Bool
is_namespace axis.Namespace = true
is_namespace _ = false

abbrev pub tested : Resolution → TestExpr → Result TestExpr BindError
tested R (test.InPrefix name) = bound_name R name >>= λ bound. Ok (test.InPrefix bound)
tested R (test.Name name) = bound_name R name >>= λ bound. Ok (test.Name bound)
tested R t = Ok t

-- the node test of a step, behind its axis
abbrev pub bound_test : Resolution → AxisName → TestExpr → Result TestExpr BindError
bound_test R a t = if is_namespace a then Err error.Unsupported else tested R t

abbrev pub step_binds : Scope → StepExpr-F Bound (Result Path BindError) (Result StepExpr BindError) → Result StepExpr BindError
step_binds S step = bound_test S.uris step.axis step.test >>= λ t. in_order (trees step.predicates) >>= λ ps.
    Ok (roll-StepExpr (record { axis = step.axis; test = t; predicates = ps }))

unfoldable pub bound_part : Scope → Expr → Bound
bound_part S = fold-Expr Bound (Result Path BindError) (Result StepExpr BindError) (binds S) path_binds (step_binds S)

unfoldable pub bound_path : Scope → Path → Result Path BindError
bound_path S = fold-Path Bound (Result Path BindError) (Result StepExpr BindError) (binds S) path_binds (step_binds S)

unfoldable pub bound_step : Scope → StepExpr → Result StepExpr BindError
bound_step S = fold-StepExpr Bound (Result Path BindError) (Result StepExpr BindError) (binds S) path_binds (step_binds S)

-- an expression with its names bound, or its first refusal
abbrev pub bound : Scope → Expr → Result Expr BindError
bound S e = (bound_part S e).tree

abbrev pub bound_call : Scope → NameRef → List Expr → Result Expr BindError
bound_call S name args = call_binds S name (length args) (first_literal args) (in_order (map (bound S) args))

-- the start of a pattern's path: of a key, its name
abbrev pub bound_start : Resolution → PatternStart → Result PatternStart BindError
bound_start R (start.Key name value) = bound_name R name >>= λ bound. Ok (start.Key bound value)
bound_start R s = Ok s

abbrev pub bound_pattern_step : Scope → PatternStep → Result PatternStep BindError
bound_pattern_step S step = bound_step S step.part >>= λ part. Ok (record { deep = step.deep; part = part })

abbrev pub bound_pattern_path : Scope → PatternPath → Result PatternPath BindError
bound_pattern_path S path = bound_start S.uris path.start >>= λ s. in_order (map (bound_pattern_step S) path.parts) >>= λ parts.
    Ok (record { start = s; parts = parts })

-- a pattern with its names bound, or its first refusal; no variable of it is unknown
abbrev pub bound_pattern : Resolution → Pattern → Result Pattern BindError
bound_pattern R p =
    in_order (map (bound_pattern_path (record { uris = R; vars = None; in_pattern = true })) p.alternatives) >>= λ paths.
    Ok (record { alternatives = paths })
