-- Operators in terms of their operands.
use Rattle.std.proofs.Common.{◌≡◌, refl, sym, ap, ◌∙◌, ℕ, List, Bool, true, false, Option, Some, None}
use Rattle.doc_model.specs.Answers.{Known, Fault, Open}
use Rattle.whole_num.specs.declared.number.Num.{Num}
use Rattle.xpath_syntax.specs.declared.expression.Op.{Op}
use Rattle.xpath_syntax.specs.declared.expression.Op.TheVariants as op
use Rattle.xpath_values.specs.Values.{truth_of_value}
use Rattle.xpath_values.specs.declared.value.Value.{Value}
use Rattle.xpath_meaning.specs.declared.context.Context.{Context}
use Rattle.xpath_meaning.specs.Comparisons.{comparison}
use Rattle.xpath_meaning.specs.Conversions.{number_of, nodes_of, text_of, truth}
use Rattle.xpath_meaning.specs.Meanings.{Meaning, Meant, plain, truth_at, number_at, nodes_at}
use Rattle.xpath_meaning.specs.Operators.{binary, or_else, and_also}
use Rattle.xpath_meaning.specs.Outcome.{Outcome, ◌>>=◌}
use Rattle.xpath_meaning.specs.Reading.{Reading}
use Rattle.xpath_operations.specs.Operands.{kind_of, operand_by, operand_as, operand_in, or_decided, and_decided, decided, calculation, union, combined, unless_decided, applied}
use Rattle.xpath_operations.specs.declared.operand.Operand.{Operand}
use Rattle.xpath_operations.specs.declared.operand.OperandKind.{OperandKind}
use Rattle.xpath_operations.specs.declared.operand.OperandKind.TheVariants as kind
use Rattle.xpath_operations.specs.declared.operand.Operand.TheVariants.{Truth, Number, Nodes, Whole, Text}

or_is : (R : Reading) (o p : Outcome Bool)
    → (o >>= λ a. or_else a p >>= λ b. Known (truth b)) ≡ ((o >>= λ b. Known (Truth b)) >>= λ x. unless_decided (decided op.Or x) ((p >>= λ b. Known (Truth b)) >>= λ y. combined op.Or R x y))
or_is R (Known true) p = refl
or_is R (Known false) (Known b) = refl
or_is R (Known false) (Fault f) = refl
or_is R (Known false) (Open m) = refl
or_is R (Fault f) p = refl
or_is R (Open m) p = refl

and_is : (R : Reading) (o p : Outcome Bool)
    → (o >>= λ a. and_also a p >>= λ b. Known (truth b)) ≡ ((o >>= λ b. Known (Truth b)) >>= λ x. unless_decided (decided op.And x) ((p >>= λ b. Known (Truth b)) >>= λ y. combined op.And R x y))
and_is R (Known false) p = refl
and_is R (Known true) (Known b) = refl
and_is R (Known true) (Fault f) = refl
and_is R (Known true) (Open m) = refl
and_is R (Fault f) p = refl
and_is R (Open m) p = refl

-- operands that decide nothing
both : {A : Type 0} (o : Op) (R : Reading) (made : A → Operand) (f : A → A → Outcome Value) (p q : Outcome A) → ((a : A) → decided o (made a) ≡ None)
    → ((a b : A) → combined o R (made a) (made b) ≡ f a b)
    → (p >>= λ a. q >>= λ b. f a b) ≡ ((p >>= λ a. Known (made a)) >>= λ x. unless_decided (decided o x) ((q >>= λ b. Known (made b)) >>= λ y. combined o R x y))
both o R made f (Known a) (Known b) h k = sym (ap (λ d. unless_decided d (combined o R (made a) (made b))) (h a) ∙ k a b)
both o R made f (Known a) (Fault e) h k = sym (ap (λ d. unless_decided d (Fault e)) (h a))
both o R made f (Known a) (Open m) h k = sym (ap (λ d. unless_decided d (Open m)) (h a))
both o R made f (Fault e) q h k = refl
both o R made f (Open m) q h k = refl

compared_is : (o : Op) (R : Reading) (p q : Outcome Value)
    → (p >>= λ a. q >>= λ b. comparison o R a b >>= λ b. Known (truth b))
    ≡ ((p >>= λ a. Known (Whole a)) >>= λ x. unless_decided (decided o x) ((q >>= λ b. Known (Whole b)) >>= λ y. combined o R x y))
compared_is o R p q = both o R Whole (λ a b. comparison o R a b >>= λ b. Known (truth b)) p q (λ a. refl) (λ a b. refl)

calculated_is : (o : Op) (R : Reading) (p q : Outcome Num)
    → (p >>= λ a. q >>= λ b. calculation o a b) ≡ ((p >>= λ a. Known (Number a)) >>= λ x. unless_decided (decided o x) ((q >>= λ b. Known (Number b)) >>= λ y. combined o R x y))
calculated_is o R p q = both o R Number (calculation o) p q (λ a. refl) (λ a b. refl)

-- an operation: its left operand, and then the operator with the right one
pub binary_is : (o : Op) (left right : Meant) (R : Reading) (values : List Value) (c : Context) → binary o left right R values c ≡ (operand_in o left R values c >>= λ x. applied o x right R values c)
binary_is op.Or left right R values c = or_is R (truth_at left R values c) (truth_at right R values c)
binary_is op.And left right R values c = and_is R (truth_at left R values c) (truth_at right R values c)
binary_is op.Equal left right R values c = compared_is op.Equal R (left.value R values c) (right.value R values c)
binary_is op.NotEqual left right R values c = compared_is op.NotEqual R (left.value R values c) (right.value R values c)
binary_is op.Less left right R values c = compared_is op.Less R (left.value R values c) (right.value R values c)
binary_is op.LessEqual left right R values c = compared_is op.LessEqual R (left.value R values c) (right.value R values c)
binary_is op.Greater left right R values c = compared_is op.Greater R (left.value R values c) (right.value R values c)
binary_is op.GreaterEqual left right R values c = compared_is op.GreaterEqual R (left.value R values c) (right.value R values c)
binary_is op.Add left right R values c = calculated_is op.Add R (number_at left R values c) (number_at right R values c)
binary_is op.Subtract left right R values c = calculated_is op.Subtract R (number_at left R values c) (number_at right R values c)
binary_is op.Multiply left right R values c = calculated_is op.Multiply R (number_at left R values c) (number_at right R values c)
binary_is op.Div left right R values c = calculated_is op.Div R (number_at left R values c) (number_at right R values c)
binary_is op.Mod left right R values c = calculated_is op.Mod R (number_at left R values c) (number_at right R values c)
binary_is op.Union left right R values c = both op.Union R Nodes union (nodes_at left R values c) (nodes_at right R values c) (λ a. refl) (λ a b. refl)

truth_last : (p : Outcome Value) → ((p >>= λ v. Known (truth_of_value v)) >>= λ b. Known (Truth b)) ≡ (p >>= λ v. Known (Truth (truth_of_value v)))
truth_last (Known v) = refl
truth_last (Fault f) = refl
truth_last (Open m) = refl

then_last : {A : Type 0} (p : Outcome Value) (f : Value → Outcome A) (g : A → Outcome Operand) → ((p >>= f) >>= g) ≡ (p >>= λ v. f v >>= g)
then_last (Known v) f g = refl
then_last (Fault e) f g = refl
then_last (Open m) f g = refl

pub by_kind : (k : OperandKind) (value : Meaning (Outcome Value)) (R : Reading) (values : List Value) (c : Context)
    → operand_as k (plain value) R values c ≡ (value R values c >>= λ v. operand_by k R v)
by_kind kind.Truth value R values c = truth_last (value R values c)
by_kind kind.Number value R values c = then_last (value R values c) (number_of R) (λ n. Known (Number n))
by_kind kind.Nodes value R values c = then_last (value R values c) nodes_of (λ nodes. Known (Nodes nodes))
by_kind kind.Whole value R values c = refl
by_kind kind.Text value R values c = then_last (value R values c) (text_of R) (λ bytes. Known (Text bytes))

-- an operand that is no path whose nodes may be taken one by one: its value, and then the conversion
pub plain_operand : (o : Op) (value : Meaning (Outcome Value)) (R : Reading) (values : List Value) (c : Context)
    → operand_in o (plain value) R values c ≡ (value R values c >>= λ v. operand_by (kind_of o) R v)
plain_operand o value R values c = by_kind (kind_of o) value R values c
