-- The form of the grammar: nonterminals, what each stands for, and productions.
use Rattle.std.specs.Prelude.{Bool, List, Option}
use Rattle.xpath_syntax.specs.declared.expression.AxisName.{AxisName}
use Rattle.xpath_syntax.specs.declared.expression.Expr.{Expr}
use Rattle.xpath_syntax.specs.declared.expression.Path.{Path}
use Rattle.xpath_syntax.specs.declared.expression.StepExpr.{StepExpr}
use Rattle.xpath_syntax.specs.declared.expression.TestExpr.{TestExpr}
use Rattle.xpath_syntax.specs.declared.pattern.Pattern.{Pattern}
use Rattle.xpath_syntax.specs.declared.pattern.PatternPath.{PatternPath}
use Rattle.xpath_syntax.specs.declared.pattern.PatternStep.{PatternStep}
use Rattle.xpath_grammar.specs.declared.sign.Sign.{Sign}
use Rattle.xpath_grammar.specs.declared.sign.Precedence.{Precedence}
use Rattle.xpath_grammar.specs.Words.{Word}

pub data Nonterminal : Type 0 where
  -- an expression of a precedence, and the operators of a precedence behind a left operand
  level : Precedence → Nonterminal
  more : Precedence → Expr → Nonterminal
  -- a primary, predicates, a relative path behind them, and what stands behind a function's name
  primary : Nonterminal
  predicates : Nonterminal
  relative_tail : Nonterminal
  call : Nonterminal
  arguments : Nonterminal
  more_arguments : Nonterminal
  -- a location path, a relative one, a step, its test with predicates, and the test alone
  location : Nonterminal
  steps : Nonterminal
  more_steps : Nonterminal
  step : Nonterminal
  tested : AxisName → Nonterminal
  node_test : Nonterminal
  -- a pattern and its parts
  pattern : Nonterminal
  more_patterns : Nonterminal
  pattern_path : Nonterminal
  pattern_steps : Nonterminal
  more_pattern_steps : Nonterminal
  pattern_step : Nonterminal

-- what the words of a nonterminal stand for
abbrev pub Tree : Nonterminal → Type 0
Tree (level p) = Expr
Tree (more p left) = Expr
Tree primary = Expr
Tree predicates = List Expr
Tree relative_tail = Option Path
Tree call = List Expr
Tree arguments = List Expr
Tree more_arguments = List Expr
Tree location = Path
Tree steps = List StepExpr
Tree more_steps = List StepExpr
Tree step = StepExpr
Tree (tested a) = StepExpr
Tree node_test = TestExpr
Tree pattern = Pattern
Tree more_patterns = List PatternPath
Tree pattern_path = PatternPath
Tree pattern_steps = List PatternStep
Tree more_pattern_steps = List PatternStep
Tree pattern_step = StepExpr

-- what a nonterminal may consist of, and its tree
pub data Production (v : Nonterminal) : Type 0 where
  -- nothing more, and the tree
  gives : Tree v → Production v
  -- a word that passes, and what follows it
  word : (Sign → Bool) → (Word → Production v) → Production v
  -- a nonterminal, and what follows it
  part : (m : Nonterminal) → (Tree m → Production v) → Production v
  -- the first, which begins with a word that passes, or else the second
  either : (Sign → Bool) → Production v → Production v → Production v
  -- a number within the limits, and what follows it; or else the second
  number : (Word → Production v) → Production v → Production v
  -- a word that passes and opens a level, a nonterminal in this level, and what follows it; or else the last
  nested : (Sign → Bool) → (m : Nonterminal) → (Word → Tree m → Production v) → Production v → Production v
