-- What an atom or a value is as a string, as a number and as a boolean (XPath 1.0, sections 4.2 to 4.4).
use Rattle.std.specs.Prelude.{ℕ, Bool, true, false, not, ◌==◌, List, length, Result, Ok, pos, codes}
use Rattle.whole_num.specs.Number.{is_zero}
use Rattle.whole_num.specs.Text as numbers
use Rattle.whole_num.specs.declared.number.Num.{Num}
use Rattle.whole_num.specs.declared.number.Num.TheVariants.{NaN, Whole}
use Rattle.whole_num.specs.declared.number.NumFault.{NumFault}
use Rattle.xpath_values.specs.declared.atom.Atom.{Atom as AnyAtom}
use Rattle.xpath_values.specs.declared.atom.Atom.TheVariants.{Text, Number, Truth}

-- the text of a number: `NaN`, or its digits with `-` before those of a negative one
abbrev pub number_text : Num → List ℕ
number_text n = numbers.text_of n

abbrev pub text_of : AnyAtom → List ℕ
text_of (Text text) = text
text_of (Number number) = number_text number
text_of (Truth true) = codes "true"
text_of (Truth false) = codes "false"

-- the number of a text by its form; of a boolean 1 or 0
abbrev pub number_of : AnyAtom → Result Num NumFault
number_of (Text text) = numbers.number_of text
number_of (Number number) = Ok number
number_of (Truth true) = Ok (Whole (pos 1))
number_of (Truth false) = Ok (Whole (pos 0))

-- a text is true if it isn't empty, a number if it is neither 0 nor NaN
abbrev pub truth_of : AnyAtom → Bool
truth_of (Text text) = not (length text == 0)
truth_of (Number NaN) = false
truth_of (Number (Whole z)) = not (is_zero z)
truth_of (Truth truth) = truth
