-- The grammar: of expressions (XPath 1.0, 2 and 3), with the abbreviations written out, and of patterns (XSLT 1.0, 5.2).
use Rattle.std.specs.Prelude.{Bool, true, false, List, [], ◌∷◌, Option, Some, None}
use Rattle.xpath_syntax.specs.declared.expression.AxisName.{AxisName}
use Rattle.xpath_syntax.specs.declared.expression.AxisName.TheVariants as axis
use Rattle.xpath_syntax.specs.declared.expression.Expr.{Expr}
use Rattle.xpath_syntax.specs.declared.expression.Expr.TheVariants as expr
use Rattle.xpath_syntax.specs.declared.expression.Path.{Path, roll-Path}
use Rattle.xpath_syntax.specs.declared.expression.StepExpr.{StepExpr, roll-StepExpr}
use Rattle.xpath_syntax.specs.declared.expression.TestExpr.{TestExpr}
use Rattle.xpath_syntax.specs.declared.expression.TestExpr.TheVariants as test
use Rattle.xpath_syntax.specs.declared.pattern.Pattern.{Pattern}
use Rattle.xpath_syntax.specs.declared.pattern.PatternPath.{PatternPath}
use Rattle.xpath_syntax.specs.declared.pattern.PatternStart.{PatternStart}
use Rattle.xpath_syntax.specs.declared.pattern.PatternStart.TheVariants as start
use Rattle.xpath_syntax.specs.declared.pattern.PatternStep.{PatternStep}
use Rattle.xpath_grammar.specs.declared.sign.Sign.{Sign}
use Rattle.xpath_grammar.specs.declared.sign.Sign.TheVariants as sign
use Rattle.xpath_grammar.specs.declared.sign.Precedence.TheVariants as precedence
use Rattle.xpath_grammar.specs.Words.{name_of, variable_of, in_prefix_of, literal_of, number_of}
use Rattle.xpath_grammar.specs.Signs.{tighter, is_operator, is_minus, is_slash, is_slashes, is_open, is_close, is_open_square, is_close_square}
use Rattle.xpath_grammar.specs.Signs.{is_point, is_points, is_at, is_comma, is_colons, is_plain_name, is_in_prefix, is_star, is_variable, is_id, is_key}
use Rattle.xpath_grammar.specs.Signs.{is_function, is_node_type, is_instruction, is_literal, is_name_literal, is_axis, is_pattern_axis, axis_of, op_of}
use Rattle.xpath_grammar.specs.Signs.{begins_step, begins_pattern_step, begins_primary, begins_expression}
use Rattle.xpath_grammar.specs.Productions.{Nonterminal, level, more, primary, predicates, relative_tail, call, arguments, more_arguments, location}
use Rattle.xpath_grammar.specs.Productions.{steps, more_steps, step, tested, node_test, pattern, more_patterns, pattern_path, pattern_steps}
use Rattle.xpath_grammar.specs.Productions.{more_pattern_steps, pattern_step, Production, gives, word, part, either, number, nested}

abbrev pub step_of : AxisName → TestExpr → List Expr → StepExpr
step_of a t ps = roll-StepExpr (record { axis = a; test = t; predicates = ps })

-- `self::node()`, `parent::node()`, and the step that `//` stands for
abbrev pub itself : StepExpr
itself = step_of axis.Itself test.Node []

abbrev pub parent : StepExpr
parent = step_of axis.Parent test.Node []

abbrev pub any_depth : StepExpr
any_depth = step_of axis.DescendantOrSelf test.Node []

abbrev pub path_of : Bool → List StepExpr → Path
path_of absolute parts = roll-Path (record { absolute = absolute; parts = parts; streams = false })

-- a primary alone is itself
abbrev pub filtered : Expr → List Expr → Option Path → Expr
filtered x [] None = x
filtered x ps t = expr.Filter x ps t

-- `node()`, `text()`, `comment()`
abbrev pub test_of : Sign → TestExpr
test_of sign.Text = test.Text
test_of sign.Comment = test.Comment
test_of s = test.Node

abbrev pub pattern_of : List PatternPath → Pattern
pattern_of paths = record { alternatives = paths }

abbrev pub pattern_path_of : PatternStart → List PatternStep → PatternPath
pattern_path_of s parts = record { start = s; parts = parts }

abbrev pub pattern_step_of : Bool → StepExpr → PatternStep
pattern_step_of deep s = record { deep = deep; part = s }

-- the productions. Operators group to the left: each takes what stands before it as its left operand.
abbrev pub production : (v : Nonterminal) → Production v
production (level precedence.Path) =
    either begins_primary (part primary (λ x. part predicates (λ ps. part relative_tail (λ t. gives (filtered x ps t)))))
    (part location (λ p. gives (expr.Path p)))
production (level precedence.Unary) =
    nested is_minus (level precedence.Unary) (λ w x. gives (expr.Minus x))
    (part (level precedence.Union) (λ x. gives x))
production (level p) = part (level (tighter p)) (λ left. part (more p left) (λ x. gives x))
production (more p left) =
    either (is_operator p) (word (is_operator p) (λ w. part (level (tighter p)) (λ right. part (more p (expr.Binary (op_of w.sign) left right)) (λ x. gives x))))
    (gives left)
production primary =
    nested is_open (level precedence.Or) (λ w x. word is_close (λ c. gives x))
    (nested is_function call (λ w xs. gives (expr.Call (name_of w.text) xs))
    (either is_literal (word is_literal (λ w. gives (expr.Literal (literal_of w.text))))
    (number (λ w. gives (expr.Number (number_of w.text)))
    (word is_variable (λ w. gives (expr.Variable (variable_of w.text)))))))
production predicates =
    nested is_open_square (level precedence.Or) (λ w x. word is_close_square (λ c. part predicates (λ xs. gives (x ∷ xs))))
    (gives [])
production relative_tail =
    either is_slash (word is_slash (λ w. part steps (λ ss. gives (Some (path_of false ss)))))
    (either is_slashes (word is_slashes (λ w. part steps (λ ss. gives (Some (path_of false (any_depth ∷ ss))))))
    (gives None))
production call = word is_open (λ w. part arguments (λ xs. word is_close (λ c. gives xs)))
production arguments =
    either begins_expression (part (level precedence.Or) (λ x. part more_arguments (λ xs. gives (x ∷ xs))))
    (gives [])
production more_arguments =
    either is_comma (word is_comma (λ w. part (level precedence.Or) (λ x. part more_arguments (λ xs. gives (x ∷ xs)))))
    (gives [])
production location =
    either is_slash (word is_slash (λ w.
    either begins_step (part steps (λ ss. gives (path_of true ss)))
    (gives (path_of true []))))
    (either is_slashes (word is_slashes (λ w. part steps (λ ss. gives (path_of true (any_depth ∷ ss)))))
    (part steps (λ ss. gives (path_of false ss))))
production steps = part step (λ s. part more_steps (λ ss. gives (s ∷ ss)))
production more_steps =
    either is_slash (word is_slash (λ w. part steps (λ ss. gives ss)))
    (either is_slashes (word is_slashes (λ w. part steps (λ ss. gives (any_depth ∷ ss))))
    (gives []))
production step =
    either is_point (word is_point (λ w. gives itself))
    (either is_points (word is_points (λ w. gives parent))
    (either is_at (word is_at (λ w. part (tested axis.Attribute) (λ s. gives s)))
    (either is_axis (word is_axis (λ w. word is_colons (λ c. part (tested (axis_of w.sign)) (λ s. gives s))))
    (part (tested axis.Child) (λ s. gives s)))))
production (tested a) = part node_test (λ t. part predicates (λ ps. gives (step_of a t ps)))
production node_test =
    either is_star (word is_star (λ w. gives test.AnyName))
    (either is_in_prefix (word is_in_prefix (λ w. gives (test.InPrefix (in_prefix_of w.text))))
    (either is_node_type (word is_node_type (λ w. word is_open (λ o. word is_close (λ c. gives (test_of w.sign)))))
    (either is_instruction (word is_instruction (λ w. word is_open (λ o.
    either is_literal (word is_literal (λ l. word is_close (λ c. gives (test.Instruction (Some (literal_of l.text))))))
    (word is_close (λ c. gives (test.Instruction None))))))
    (word is_plain_name (λ w. gives (test.Name (name_of w.text)))))))
production pattern = part pattern_path (λ p. part more_patterns (λ ps. gives (pattern_of (p ∷ ps))))
production more_patterns =
    either (is_operator precedence.Union) (word (is_operator precedence.Union) (λ w. part pattern_path (λ p. part more_patterns (λ ps. gives (p ∷ ps)))))
    (gives [])
production pattern_path =
    either is_slash (word is_slash (λ w.
    either begins_pattern_step (part pattern_steps (λ ss. gives (pattern_path_of start.Root ss)))
    (gives (pattern_path_of start.Root []))))
    (either is_slashes (word is_slashes (λ w. part pattern_steps (λ ss. gives (pattern_path_of start.Deep ss))))
    (either is_id (word is_id (λ w. word is_open (λ o. word is_literal (λ l. word is_close (λ c.
    part more_pattern_steps (λ ss. gives (pattern_path_of (start.Id (literal_of l.text)) ss)))))))
    (either is_key (word is_key (λ w. word is_open (λ o. word is_name_literal (λ n. word is_comma (λ m. word is_literal (λ l. word is_close (λ c.
    part more_pattern_steps (λ ss. gives (pattern_path_of (start.Key (name_of (literal_of n.text)) (literal_of l.text)) ss)))))))))
    (part pattern_steps (λ ss. gives (pattern_path_of start.Relative ss))))))
production pattern_steps = part pattern_step (λ s. part more_pattern_steps (λ ss. gives (pattern_step_of false s ∷ ss)))
production more_pattern_steps =
    either is_slash (word is_slash (λ w. part pattern_step (λ s. part more_pattern_steps (λ ss. gives (pattern_step_of false s ∷ ss)))))
    (either is_slashes (word is_slashes (λ w. part pattern_step (λ s. part more_pattern_steps (λ ss. gives (pattern_step_of true s ∷ ss)))))
    (gives []))
production pattern_step =
    either is_at (word is_at (λ w. part (tested axis.Attribute) (λ s. gives s)))
    (either is_pattern_axis (word is_pattern_axis (λ w. word is_colons (λ c. part (tested (axis_of w.sign)) (λ s. gives s))))
    (part (tested axis.Child) (λ s. gives s)))
