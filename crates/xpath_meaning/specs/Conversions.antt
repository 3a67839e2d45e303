-- Conversions of values (XPath 1.0, sections 3.3, 4.2 to 4.4; XSLT 1.0, section 11.1).
use Rattle.std.specs.Prelude.{ℕ, List, [], ◌∷◌, Bool, true, false, Option, Some, None, pos}
use Rattle.std.specs.Ordering.{int_eq}
use Rattle.doc_model.specs.Answers.{Known, Fault}
use Rattle.fault_kinds.specs.declared.fault.FaultKind.TheVariants.{NotNodeSet}
use Rattle.whole_num.specs.Text as numbers
use Rattle.whole_num.specs.declared.number.Num.{Num}
use Rattle.whole_num.specs.declared.number.Num.TheVariants.{NaN, Whole}
use Rattle.xpath_values.specs.Conversions as atoms
use Rattle.xpath_values.specs.Fragments as fragments
use Rattle.xpath_values.specs.Values.{truth_of_value}
use Rattle.xpath_values.specs.declared.atom.Atom.{Atom as AnyAtom}
use Rattle.xpath_values.specs.declared.atom.Atom.TheVariants.{Text, Number, Truth}
use Rattle.xpath_values.specs.declared.value.Value.{Value}
use Rattle.xpath_values.specs.declared.value.Value.TheVariants.{Nodes, Atom, Fragment}
use Rattle.xpath_meaning.specs.Outcome.{Outcome, ◌>>=◌, calculated}
use Rattle.xpath_meaning.specs.Reading.{Reading}

abbrev pub text : List ℕ → Value
text bytes = Atom (Text bytes)

abbrev pub number : Num → Value
number n = Atom (Number n)

abbrev pub truth : Bool → Value
truth b = Atom (Truth b)

-- a count of nodes or characters, or a position
abbrev pub count : ℕ → Value
count n = number (Whole (pos n))

-- the string-value of a node, where there is one
abbrev pub text_of_first : Reading → Option ℕ → Outcome (List ℕ)
text_of_first R None = Known []
text_of_first R (Some n) = R.value n

abbrev pub first_of : List ℕ → Option ℕ
first_of [] = None
first_of (n ∷ ns) = Some n

-- the string: of a node-set the string-value of its first node in document order, or empty
abbrev pub text_of : Reading → Value → Outcome (List ℕ)
text_of R (Nodes nodes) = text_of_first R (first_of nodes)
text_of R (Atom atom) = Known (atoms.text_of atom)
text_of R (Fragment events) = Known (fragments.text_of events)

-- the number: of an atom its own, of any other value that of its string
abbrev pub number_of : Reading → Value → Outcome Num
number_of R (Nodes nodes) = text_of_first R (first_of nodes) >>= λ bytes. calculated (numbers.number_of bytes)
number_of R (Atom atom) = calculated (atoms.number_of atom)
number_of R (Fragment events) = calculated (numbers.number_of (fragments.text_of events))

-- the node-set; no other value is one
abbrev pub nodes_of : Value → Outcome (List ℕ)
nodes_of (Nodes nodes) = Known nodes
nodes_of (Atom atom) = Fault NotNodeSet
nodes_of (Fragment events) = Fault NotNodeSet

abbrev pub is_position : Num → ℕ → Bool
is_position NaN position = false
is_position (Whole n) position = int_eq n (pos position)

abbrev pub atom_holds : AnyAtom → ℕ → Bool
atom_holds (Text bytes) position = atoms.truth_of (Text bytes)
atom_holds (Number n) position = is_position n position
atom_holds (Truth b) position = b

-- what a predicate says where it has this value: a number is compared with the position, and any other value is converted to a boolean (XPath 1.0, section 2.4)
abbrev pub holds : Value → ℕ → Bool
holds (Nodes nodes) position = truth_of_value (Nodes nodes)
holds (Atom atom) position = atom_holds atom position
holds (Fragment events) position = true
