-- What the six comparisons of two atoms give (XPath 1.0, section 3.4).
use Rattle.std.specs.Prelude.{Bool, true, false, not, ◌||◌, Option, Some, None, Result, Ok, Err}
use Rattle.std.specs.Bool.{beq}
use Rattle.std.specs.Str.{bytes_eq}
use Rattle.std.specs.declared.cmp.Ordering.{Ordering}
use Rattle.std.specs.declared.cmp.Ordering.TheVariants as order
use Rattle.whole_num.specs.Number.{order_of}
use Rattle.whole_num.specs.declared.number.Num.{Num}
use Rattle.whole_num.specs.declared.number.NumFault.{NumFault}
use Rattle.xpath_syntax.specs.declared.expression.Op.{Op}
use Rattle.xpath_syntax.specs.declared.expression.Op.TheVariants as op
use Rattle.xpath_values.specs.declared.atom.Atom.{Atom}
use Rattle.xpath_values.specs.declared.atom.Atom.TheVariants.{Text, Number, Truth}
use Rattle.xpath_values.specs.Conversions.{number_of, truth_of}

abbrev pub is_less : Option Ordering → Bool
is_less (Some order.Less) = true
is_less (Some order.Equal) = false
is_less (Some order.Greater) = false
is_less None = false

abbrev pub is_equal : Option Ordering → Bool
is_equal (Some order.Less) = false
is_equal (Some order.Equal) = true
is_equal (Some order.Greater) = false
is_equal None = false

abbrev pub is_greater : Option Ordering → Bool
is_greater (Some order.Less) = false
is_greater (Some order.Equal) = false
is_greater (Some order.Greater) = true
is_greater None = false

-- numbers in this order meet the operator; with NaN there is no order, and only `!=` is met
abbrev pub meets : Op → Option Ordering → Bool
meets op.Equal o = is_equal o
meets op.NotEqual o = not (is_equal o)
meets op.Less o = is_less o
meets op.LessEqual o = is_less o || is_equal o
meets op.Greater o = is_greater o
meets op.GreaterEqual o = is_greater o || is_equal o
meets op.Or o = false
meets op.And o = false
meets op.Add o = false
meets op.Subtract o = false
meets op.Multiply o = false
meets op.Div o = false
meets op.Mod o = false
meets op.Union o = false

-- of two numbers the left one's fault comes first
abbrev pub by_numbers : Op → Result Num NumFault → Result Num NumFault → Result Bool NumFault
by_numbers op (Err fault) b = Err fault
by_numbers op (Ok a) (Err fault) = Err fault
by_numbers op (Ok a) (Ok b) = Ok (meets op (order_of a b))

abbrev pub as_numbers : Op → Atom → Atom → Result Bool NumFault
as_numbers op a b = by_numbers op (number_of a) (number_of b)

-- equal: as booleans if either is one, else as numbers if either is one, else as texts
abbrev pub equal : Atom → Atom → Result Bool NumFault
equal (Truth a) b = Ok (beq a (truth_of b))
equal (Number a) (Truth b) = Ok (beq (truth_of (Number a)) b)
equal (Text a) (Truth b) = Ok (beq (truth_of (Text a)) b)
equal (Number a) (Number b) = as_numbers op.Equal (Number a) (Number b)
equal (Number a) (Text b) = as_numbers op.Equal (Number a) (Text b)
equal (Text a) (Number b) = as_numbers op.Equal (Text a) (Number b)
equal (Text a) (Text b) = Ok (bytes_eq a b)

-- `!=` holds where `=` doesn't
abbrev pub unequal : Result Bool NumFault → Result Bool NumFault
unequal (Ok is) = Ok (not is)
unequal (Err fault) = Err fault

-- what a comparison gives; no other operator holds of two atoms
abbrev pub compared : Op → Atom → Atom → Result Bool NumFault
compared op.Equal a b = equal a b
compared op.NotEqual a b = unequal (equal a b)
compared op.Less a b = as_numbers op.Less a b
compared op.LessEqual a b = as_numbers op.LessEqual a b
compared op.Greater a b = as_numbers op.Greater a b
compared op.GreaterEqual a b = as_numbers op.GreaterEqual a b
compared op.Or a b = Ok false
compared op.And a b = Ok false
compared op.Add a b = Ok false
compared op.Subtract a b = Ok false
compared op.Multiply a b = Ok false
compared op.Div a b = Ok false
compared op.Mod a b = Ok false
compared op.Union a b = Ok false
