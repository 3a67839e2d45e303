-- Operators (XPath 1.0, sections 3.3 to 3.5): the left operand is converted before the right one is evaluated.
use Rattle.std.specs.Prelude.{◌++◌, Bool, true, false, pos, Result}
use Rattle.doc_model.specs.Answers.{Known}
use Rattle.whole_num.specs.Number.{sum_of, difference_of, product_of, quotient_of, remainder_of}
use Rattle.whole_num.specs.declared.number.Num.{Num}
use Rattle.whole_num.specs.declared.number.Num.TheVariants.{Whole}
use Rattle.whole_num.specs.declared.number.NumFault.{NumFault}
use Rattle.xpath_syntax.specs.declared.expression.Op.{Op}
use Rattle.xpath_syntax.specs.declared.expression.Op.TheVariants as op
use Rattle.xpath_values.specs.declared.value.Value.{Value}
use Rattle.xpath_values.specs.declared.value.Value.TheVariants.{Nodes}
use Rattle.xpath_meaning.specs.Comparisons.{comparison}
use Rattle.xpath_meaning.specs.Conversions.{number, truth}
use Rattle.xpath_meaning.specs.DocumentOrder.{document_order}
use Rattle.xpath_meaning.specs.Meanings.{Meaning, Meant, truth_at, number_at, nodes_at}
use Rattle.xpath_meaning.specs.Outcome.{Outcome, ◌>>=◌, calculated}

-- the right operand is left out where the left one decides
abbrev pub or_else : Bool → Outcome Bool → Outcome Bool
or_else true right = Known true
or_else false right = right

abbrev pub and_also : Bool → Outcome Bool → Outcome Bool
and_also true right = right
and_also false right = Known false

abbrev pub calculation : (Num → Num → Result Num NumFault) → Meant → Meant → Meaning (Outcome Value)
calculation gives left right R values c = number_at left R values c >>= λ a. number_at right R values c >>= λ b. calculated (gives a b) >>= λ n. Known (number n)

abbrev pub comparing : Op → Meant → Meant → Meaning (Outcome Value)
comparing op left right R values c = left.value R values c >>= λ a. right.value R values c >>= λ b. comparison op R a b >>= λ b. Known (truth b)

abbrev pub binary : Op → Meant → Meant → Meaning (Outcome Value)
binary op.Or left right R values c = truth_at left R values c >>= λ a. or_else a (truth_at right R values c) >>= λ b. Known (truth b)
binary op.And left right R values c = truth_at left R values c >>= λ a. and_also a (truth_at right R values c) >>= λ b. Known (truth b)
binary op.Equal left right R values c = comparing op.Equal left right R values c
binary op.NotEqual left right R values c = comparing op.NotEqual left right R values c
binary op.Less left right R values c = comparing op.Less left right R values c
binary op.LessEqual left right R values c = comparing op.LessEqual left right R values c
binary op.Greater left right R values c = comparing op.Greater left right R values c
binary op.GreaterEqual left right R values c = comparing op.GreaterEqual left right R values c
binary op.Add left right R values c = calculation sum_of left right R values c
binary op.Subtract left right R values c = calculation difference_of left right R values c
binary op.Multiply left right R values c = calculation product_of left right R values c
binary op.Div left right R values c = calculation quotient_of left right R values c
binary op.Mod left right R values c = calculation remainder_of left right R values c
binary op.Union left right R values c = nodes_at left R values c >>= λ a. nodes_at right R values c >>= λ b. Known (Nodes (document_order (a ++ b)))

-- the unary minus
abbrev pub minus : Meant → Meaning (Outcome Value)
minus m R values c = number_at m R values c >>= λ n. calculated (difference_of (Whole (pos 0)) n) >>= λ n. Known (number n)
