-- Words: what a token is to the grammar, with its bytes, and what they tell.
use Rattle.std.specs.Prelude.{ℕ, ◌-◌, List, [], length, take, drop, Option, Some, None, Result, Ok, Err, ℤ, pos}
use Rattle.name_grammar.specs.Names.{prefix_of, local_of}
use Rattle.whole_num.specs.Text as number
use Rattle.whole_num.specs.declared.number.Num.{Num}
use Rattle.whole_num.specs.declared.number.Num.TheVariants.{Whole}
use Rattle.whole_num.specs.declared.number.NumFault.{NumFault}
use Rattle.xpath_syntax.specs.declared.expression.NameRef.{NameRef}
use Rattle.xpath_grammar.specs.declared.sign.Sign.{Sign}

-- a word: what a token is to the grammar, and its bytes
pub record Word : Type 0 where
  pub sign : Sign
  pub text : List ℕ

-- a name as it is written
abbrev pub name_of : List ℕ → NameRef
name_of text = record { prefix = prefix_of text; local = local_of text; uri = None; slot = None }

-- the name behind `$`
abbrev pub variable_of : List ℕ → NameRef
variable_of text = name_of (drop 1 text)

-- the prefix before `:*`
abbrev pub in_prefix_of : List ℕ → NameRef
in_prefix_of text = record { prefix = prefix_of text; local = []; uri = None; slot = None }

-- what stands between the quotes
abbrev pub literal_of : List ℕ → List ℕ
literal_of text = take (length text - 2) (drop 1 text)

abbrev pub whole_of : Result Num NumFault → ℤ
whole_of (Ok (Whole z)) = z
whole_of r = pos 0

-- the number that is written; it counts only where it is within limits
abbrev pub number_of : List ℕ → ℤ
number_of text = whole_of (number.number_of text)

abbrev pub fault_of : Result Num NumFault → Option NumFault
fault_of (Err f) = Some f
fault_of r = None

-- which numbers are refused, and why: those with a digit other than 0 behind the point, and those out of range
abbrev pub whole_numbers : List ℕ → Option NumFault
whole_numbers text = fault_of (number.number_of text)
