-- Each nonterminal has a tree, and each of its alternatives has words.
use Rattle.std.proofs.Common.{refl, []}
use Rattle.xpath_syntax.specs.declared.expression.AxisName.{AxisName}
use Rattle.xpath_syntax.specs.declared.expression.AxisName.TheVariants as axis
use Rattle.xpath_syntax.specs.declared.expression.Op.TheVariants as op
use Rattle.xpath_syntax.specs.declared.expression.Expr.{Expr}
use Rattle.xpath_grammar.specs.declared.sign.Sign.{Sign}
use Rattle.xpath_grammar.specs.declared.sign.Sign.TheVariants as sign
use Rattle.xpath_grammar.specs.declared.sign.Precedence.{Precedence}
use Rattle.xpath_grammar.specs.declared.sign.Precedence.TheVariants as precedence
use Rattle.xpath_grammar.specs.Words.{Word}
use Rattle.xpath_grammar.specs.Productions.{Nonterminal, level, more, primary, predicates, relative_tail, call, arguments, more_arguments, location}
use Rattle.xpath_grammar.specs.Productions.{steps, more_steps, step, tested, node_test, pattern, more_patterns, pattern_path, pattern_steps}
use Rattle.xpath_grammar.specs.Productions.{more_pattern_steps, pattern_step}
use Rattle.xpath_grammar.specs.Grammar.{production}
use Rattle.xpath_grammar.proofs.AllSigns.{by_all}
use Rattle.xpath_grammar.proofs.Fill.{HasTree, Full, fill}

abbrev word_of : Sign → Word
word_of s = record { sign = s; text = [] }

predicates_has : HasTree predicates
predicates_has = fill predicates (production predicates) tt

node_test_has : HasTree node_test
node_test_has = fill node_test (production node_test) ((word_of sign.Name, refl), λ w. tt)

tested_has : (a : AxisName) → HasTree (tested a)
tested_has a = fill (tested a) (production (tested a)) (node_test_has, λ x. (predicates_has, λ x. tt))

step_has : HasTree step
step_has = fill step (production step) (tested_has axis.Child, λ x. tt)

more_steps_has : HasTree more_steps
more_steps_has = fill more_steps (production more_steps) tt

steps_has : HasTree steps
steps_has = fill steps (production steps) (step_has, λ x. (more_steps_has, λ x. tt))

location_has : HasTree location
location_has = fill location (production location) (steps_has, λ x. tt)

path_has : HasTree (level precedence.Path)
path_has = fill (level precedence.Path) (production (level precedence.Path)) (location_has, λ x. tt)

more_has : (p : Precedence) (left : Expr) → HasTree (more p left)
more_has p left = fill (more p left) (production (more p left)) tt

union_has : HasTree (level precedence.Union)
union_has = fill (level precedence.Union) (production (level precedence.Union)) (path_has, λ x. (more_has precedence.Union x, λ x. tt))

unary_has : HasTree (level precedence.Unary)
unary_has = fill (level precedence.Unary) (production (level precedence.Unary)) (union_has, λ x. tt)

multiplicative_has : HasTree (level precedence.Multiplicative)
multiplicative_has = fill (level precedence.Multiplicative) (production (level precedence.Multiplicative)) (unary_has, λ x. (more_has precedence.Multiplicative x, λ x. tt))

additive_has : HasTree (level precedence.Additive)
additive_has = fill (level precedence.Additive) (production (level precedence.Additive)) (multiplicative_has, λ x. (more_has precedence.Additive x, λ x. tt))

relational_has : HasTree (level precedence.Relational)
relational_has = fill (level precedence.Relational) (production (level precedence.Relational)) (additive_has, λ x. (more_has precedence.Relational x, λ x. tt))

equality_has : HasTree (level precedence.Equality)
equality_has = fill (level precedence.Equality) (production (level precedence.Equality)) (relational_has, λ x. (more_has precedence.Equality x, λ x. tt))

and_has : HasTree (level precedence.And)
and_has = fill (level precedence.And) (production (level precedence.And)) (equality_has, λ x. (more_has precedence.And x, λ x. tt))

or_has : HasTree (level precedence.Or)
or_has = fill (level precedence.Or) (production (level precedence.Or)) (and_has, λ x. (more_has precedence.Or x, λ x. tt))

primary_has : HasTree primary
primary_has = fill primary (production primary) ((word_of sign.Variable, refl), λ w. tt)

relative_tail_has : HasTree relative_tail
relative_tail_has = fill relative_tail (production relative_tail) tt

arguments_has : HasTree arguments
arguments_has = fill arguments (production arguments) tt

call_has : HasTree call
call_has = fill call (production call) ((word_of sign.Open, refl), λ w. (arguments_has, λ x. ((word_of sign.Close, refl), λ w. tt)))

more_arguments_has : HasTree more_arguments
more_arguments_has = fill more_arguments (production more_arguments) tt

pattern_step_has : HasTree pattern_step
pattern_step_has = fill pattern_step (production pattern_step) (tested_has axis.Child, λ x. tt)

more_pattern_steps_has : HasTree more_pattern_steps
more_pattern_steps_has = fill more_pattern_steps (production more_pattern_steps) tt

pattern_steps_has : HasTree pattern_steps
pattern_steps_has = fill pattern_steps (production pattern_steps) (pattern_step_has, λ x. (more_pattern_steps_has, λ x. tt))

pattern_path_has : HasTree pattern_path
pattern_path_has = fill pattern_path (production pattern_path) (pattern_steps_has, λ x. tt)

more_patterns_has : HasTree more_patterns
more_patterns_has = fill more_patterns (production more_patterns) tt

pattern_has : HasTree pattern
pattern_has = fill pattern (production pattern) (pattern_path_has, λ x. (more_patterns_has, λ x. tt))

pub has : (v : Nonterminal) → HasTree v
has predicates = predicates_has
has node_test = node_test_has
has step = step_has
has (tested a) = tested_has a
has more_steps = more_steps_has
has steps = steps_has
has location = location_has
has (level precedence.Path) = path_has
has (more p left) = more_has p left
has (level precedence.Union) = union_has
has (level precedence.Unary) = unary_has
has (level precedence.Multiplicative) = multiplicative_has
has (level precedence.Additive) = additive_has
has (level precedence.Relational) = relational_has
has (level precedence.Equality) = equality_has
has (level precedence.And) = and_has
has (level precedence.Or) = or_has
has primary = primary_has
has relative_tail = relative_tail_has
has arguments = arguments_has
has call = call_has
has more_arguments = more_arguments_has
has pattern_step = pattern_step_has
has more_pattern_steps = more_pattern_steps_has
has pattern_steps = pattern_steps_has
has pattern_path = pattern_path_has
has more_patterns = more_patterns_has
has pattern = pattern_has

pub full : (v : Nonterminal) → Full v (production v)
full (level precedence.Path) = ((λ w h. (λ x. (λ x. (λ x. tt)))), (λ x. tt))
full (level precedence.Unary) = ((λ u x. tt), (λ x. tt), by_all _ refl)
full (level precedence.Union) = (λ x. (λ x. tt))
full (level precedence.Multiplicative) = (λ x. (λ x. tt))
full (level precedence.Additive) = (λ x. (λ x. tt))
full (level precedence.Relational) = (λ x. (λ x. tt))
full (level precedence.Equality) = (λ x. (λ x. tt))
full (level precedence.And) = (λ x. (λ x. tt))
full (level precedence.Or) = (λ x. (λ x. tt))
full (more p left) = ((λ w h. ((w, h), λ u. (λ x. (λ x. tt)))), tt)
full primary = (
  (λ u x. ((word_of sign.Close, refl), λ u. tt)),
  ((λ u x. tt), ((λ w h. ((word_of sign.Literal, refl), λ u. tt)), ((λ u. tt), ((word_of sign.Variable, refl), λ u. tt))), by_all _ refl),
  by_all _ refl,
)
full predicates = ((λ u x. ((word_of sign.CloseSquare, refl), λ u. (λ x. tt))), tt, by_all _ refl)
full relative_tail = ((λ w h. ((word_of sign.Slash, refl), λ u. (λ x. tt))), ((λ w h. ((word_of sign.Slashes, refl), λ u. (λ x. tt))), tt))
full call = ((word_of sign.Open, refl), λ u. (λ x. ((word_of sign.Close, refl), λ u. tt)))
full arguments = ((λ w h. (λ x. (λ x. tt))), tt)
full more_arguments = ((λ w h. ((word_of sign.Comma, refl), λ u. (λ x. (λ x. tt)))), tt)
full location = ((λ w h. ((word_of sign.Slash, refl), λ u. ((λ w h. (λ x. tt)), tt))), ((λ w h. ((word_of sign.Slashes, refl), λ u. (λ x. tt))), (λ x. tt)))
full steps = (λ x. (λ x. tt))
full more_steps = ((λ w h. ((word_of sign.Slash, refl), λ u. (λ x. tt))), ((λ w h. ((word_of sign.Slashes, refl), λ u. (λ x. tt))), tt))
full step = (
  (λ w h. ((word_of sign.Point, refl), λ u. tt)),
  (
    (λ w h. ((word_of sign.Points, refl), λ u. tt)),
    (
      (λ w h. ((word_of sign.At, refl), λ u. (λ x. tt))),
      ((λ w h. ((word_of (sign.Axis axis.Child), refl), λ u. ((word_of sign.Colons, refl), λ u. (λ x. tt)))), (λ x. tt)),
    ),
  ),
)
full (tested a) = (λ x. (λ x. tt))
full node_test = (
  (λ w h. ((word_of sign.Star, refl), λ u. tt)),
  (
    (λ w h. ((word_of sign.InPrefix, refl), λ u. tt)),
    (
      (λ w h. ((word_of sign.Node, refl), λ u. ((word_of sign.Open, refl), λ u. ((word_of sign.Close, refl), λ u. tt)))),
      (
        (λ w h. (
          (word_of sign.Instruction, refl),
          λ u. (
            (word_of sign.Open, refl),
            λ u. (
              (λ w h. ((word_of sign.Literal, refl), λ u. ((word_of sign.Close, refl), λ u. tt))),
              ((word_of sign.Close, refl), λ u. tt),
            ),
          ),
        )),
        ((word_of sign.Name, refl), λ u. tt),
      ),
    ),
  ),
)
full pattern = (λ x. (λ x. tt))
full more_patterns = ((λ w h. ((word_of (sign.Operator op.Union), refl), λ u. (λ x. (λ x. tt)))), tt)
full pattern_path = (
  (λ w h. ((word_of sign.Slash, refl), λ u. ((λ w h. (λ x. tt)), tt))),
  (
    (λ w h. ((word_of sign.Slashes, refl), λ u. (λ x. tt))),
    (
      (λ w h. (
        (word_of sign.Id, refl),
        λ u. (
          (word_of sign.Open, refl),
          λ u.
              ((word_of sign.Literal, refl), λ u. ((word_of sign.Close, refl), λ u. (λ x. tt))),
        ),
      )),
      (
        (λ w h. (
          (word_of sign.Key, refl),
          λ u. (
            (word_of sign.Open, refl),
            λ u. (
              (word_of sign.NameLiteral, refl),
              λ u. (
                (word_of sign.Comma, refl),
                λ u.
                    ((word_of sign.Literal, refl), λ u. ((word_of sign.Close, refl), λ u. (λ x. tt))),
              ),
            ),
          ),
        )),
        (λ x. tt),
      ),
    ),
  ),
)
full pattern_steps = (λ x. (λ x. tt))
full more_pattern_steps = ((λ w h. ((word_of sign.Slash, refl), λ u. (λ x. (λ x. tt)))), ((λ w h. ((word_of sign.Slashes, refl), λ u. (λ x. (λ x. tt)))), tt))
full pattern_step = ((λ w h. ((word_of sign.At, refl), λ u. (λ x. tt))), ((λ w h. ((word_of (sign.Axis axis.Child), refl), λ u. ((word_of sign.Colons, refl), λ u. (λ x. tt)))), (λ x. tt)))
