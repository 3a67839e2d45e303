-- Operators keep what they tell.
use Rattle.std.proofs.Common.{refl, Bool, true, false, Result, pos}
use Rattle.doc_model.specs.Answers.{Stays}
use Rattle.whole_num.specs.Number.{sum_of, difference_of, product_of, quotient_of, remainder_of}
use Rattle.whole_num.specs.declared.number.Num.{Num}
use Rattle.whole_num.specs.declared.number.Num.TheVariants.{Whole}
use Rattle.whole_num.specs.declared.number.NumFault.{NumFault}
use Rattle.xpath_syntax.specs.declared.expression.Op.{Op}
use Rattle.xpath_syntax.specs.declared.expression.Op.TheVariants as op
use Rattle.xpath_meaning.specs.Meanings.{Meant}
use Rattle.xpath_meaning.specs.Operators.{or_else, and_also, calculation, comparing, binary, minus}
use Rattle.xpath_meaning.specs.Outcome.{Outcome, calculated}
use Rattle.xpath_laws.proofs.Staying.{bind_stays, stays}
use Rattle.xpath_laws.proofs.Keeping.{Keeps, MeantKeeps, truth_keeps, number_keeps, nodes_keep}
use Rattle.xpath_laws.proofs.Comparing.{comparison_stays}

or_stays : (b : Bool) (x y : Outcome Bool) → Stays x y → Stays (or_else b x) (or_else b y)
or_stays true x y s = refl
or_stays false x y s = s

and_stays : (b : Bool) (x y : Outcome Bool) → Stays x y → Stays (and_also b x) (and_also b y)
and_stays true x y s = s
and_stays false x y s = refl

calculation_keeps : (gives : Num → Num → Result Num NumFault) (a b : Meant) → MeantKeeps a → MeantKeeps b → Keeps (calculation gives a b)
calculation_keeps gives a b k l R Q x values c =
    bind_stays _ _ _ _ (number_keeps a k R Q x values c) (λ m. bind_stays _ _ _ _ (number_keeps b l R Q x values c) (λ n. bind_stays _ _ _ _ (stays (calculated (gives m n))) (λ v. refl)))

comparing_keeps : (op : Op) (a b : Meant) → MeantKeeps a → MeantKeeps b → Keeps (comparing op a b)
comparing_keeps op a b k l R Q x values c =
    bind_stays _ _ _ _ (k.value R Q x values c) (λ v. bind_stays _ _ _ _ (l.value R Q x values c) (λ w. bind_stays _ _ _ _ (comparison_stays op R Q x v w) (λ b. refl)))

pub binary_keeps : (o : Op) (a b : Meant) → MeantKeeps a → MeantKeeps b → Keeps (binary o a b)
binary_keeps op.Or a b k l R Q x values c =
    bind_stays _ _ _ _ (truth_keeps a k R Q x values c) (λ v. bind_stays _ _ _ _ (or_stays v _ _ (truth_keeps b l R Q x values c)) (λ w. refl))
binary_keeps op.And a b k l R Q x values c =
    bind_stays _ _ _ _ (truth_keeps a k R Q x values c) (λ v. bind_stays _ _ _ _ (and_stays v _ _ (truth_keeps b l R Q x values c)) (λ w. refl))
binary_keeps op.Equal a b k l R Q x values c = comparing_keeps op.Equal a b k l R Q x values c
binary_keeps op.NotEqual a b k l R Q x values c = comparing_keeps op.NotEqual a b k l R Q x values c
binary_keeps op.Less a b k l R Q x values c = comparing_keeps op.Less a b k l R Q x values c
binary_keeps op.LessEqual a b k l R Q x values c = comparing_keeps op.LessEqual a b k l R Q x values c
binary_keeps op.Greater a b k l R Q x values c = comparing_keeps op.Greater a b k l R Q x values c
binary_keeps op.GreaterEqual a b k l R Q x values c = comparing_keeps op.GreaterEqual a b k l R Q x values c
binary_keeps op.Add a b k l R Q x values c = calculation_keeps sum_of a b k l R Q x values c
binary_keeps op.Subtract a b k l R Q x values c = calculation_keeps difference_of a b k l R Q x values c
binary_keeps op.Multiply a b k l R Q x values c = calculation_keeps product_of a b k l R Q x values c
binary_keeps op.Div a b k l R Q x values c = calculation_keeps quotient_of a b k l R Q x values c
binary_keeps op.Mod a b k l R Q x values c = calculation_keeps remainder_of a b k l R Q x values c
binary_keeps op.Union a b k l R Q x values c =
    bind_stays _ _ _ _ (nodes_keep a k R Q x values c) (λ v. bind_stays _ _ _ _ (nodes_keep b l R Q x values c) (λ w. refl))

pub minus_keeps : (a : Meant) → MeantKeeps a → Keeps (minus a)
minus_keeps a k R Q x values c =
    bind_stays _ _ _ _ (number_keeps a k R Q x values c) (λ n. bind_stays _ _ _ _ (stays (calculated (difference_of (Whole (pos 0)) n))) (λ v. refl))
