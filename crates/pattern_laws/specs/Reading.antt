-- A path of a pattern, read as an expression (XSLT 1.0, section 5.2).
use Rattle.std.specs.Prelude.{ℕ, List, [], ◌∷◌, true, false, if◌then◌else◌, Option, Some, None, codes}
use Rattle.xpath_grammar.specs.Grammar.{any_depth, filtered, path_of}
use Rattle.xpath_meaning.specs.Functions.{qualified}
use Rattle.xpath_syntax.specs.declared.expression.Expr.{Expr}
use Rattle.xpath_syntax.specs.declared.expression.Expr.TheVariants as expr
use Rattle.xpath_syntax.specs.declared.expression.NameRef.{NameRef}
use Rattle.xpath_syntax.specs.declared.expression.Op.TheVariants as op
use Rattle.xpath_syntax.specs.declared.expression.Path.{Path}
use Rattle.xpath_syntax.specs.declared.expression.StepExpr.{StepExpr}
use Rattle.xpath_syntax.specs.declared.pattern.PatternPath.{PatternPath}
use Rattle.xpath_syntax.specs.declared.pattern.PatternStart.{PatternStart}
use Rattle.xpath_syntax.specs.declared.pattern.PatternStart.TheVariants as start
use Rattle.xpath_syntax.specs.declared.pattern.PatternStep.{PatternStep}

-- a step, and before it the one that `//` is short for where that stands there (XPath 1.0, section 2.5)
abbrev pub with_step : PatternStep → List StepExpr → List StepExpr
with_step step steps = if step.deep then any_depth ∷ step.part ∷ steps else step.part ∷ steps

abbrev pub steps_in : List PatternStep → List StepExpr
steps_in [] = []
steps_in (step ∷ steps) = with_step step (steps_in steps)

-- the path behind a call, if there is one
abbrev pub path_behind : List PatternStep → Option Path
path_behind [] = None
path_behind (step ∷ steps) = Some (path_of false (steps_in (step ∷ steps)))

-- the name of a function, as it is bound: a call of key() has the namespace and the place of the key
abbrev pub function_named : List ℕ → Option (List ℕ) → Option ℕ → NameRef
function_named local uri slot = record { prefix = []; local = local; uri = uri; slot = slot }

abbrev pub call_of_id : List ℕ → Expr
call_of_id ids = expr.Call (function_named (codes "id") (Some []) None) (expr.Literal ids ∷ [])

abbrev pub call_of_key : NameRef → List ℕ → Expr
call_of_key name value = expr.Call (function_named (codes "key") name.uri name.slot) (expr.Literal (qualified name.prefix name.local) ∷ expr.Literal value ∷ [])

abbrev pub expression_from : PatternStart → List PatternStep → Expr
expression_from start.Relative steps = expr.Path (path_of false (steps_in steps))
expression_from start.Root steps = expr.Path (path_of true (steps_in steps))
expression_from start.Deep steps = expr.Path (path_of true (any_depth ∷ steps_in steps))
expression_from (start.Id ids) steps = filtered (call_of_id ids) [] (path_behind steps)
expression_from (start.Key name value) steps = filtered (call_of_key name value) [] (path_behind steps)

abbrev pub expression_of : PatternPath → Expr
expression_of path = expression_from path.start path.parts

-- alternatives, which `|` joins to what stands before them
abbrev pub with_alternatives : Expr → List PatternPath → Expr
with_alternatives e [] = e
with_alternatives e (path ∷ paths) = with_alternatives (expr.Binary op.Union e (expression_of path)) paths
