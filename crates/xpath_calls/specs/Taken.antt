-- Arguments by their places, counted from 0.
use Rattle.std.specs.Prelude.{ℕ, List, [], Bool, false, Option, Some, None, slice_get}
use Rattle.whole_num.specs.declared.number.Num.{Num}
use Rattle.whole_num.specs.declared.number.Num.TheVariants.{NaN}
use Rattle.xpath_operations.specs.Operands.{number_in}
use Rattle.xpath_operations.specs.declared.operand.Operand.{Operand}
use Rattle.xpath_operations.specs.declared.operand.Operand.TheVariants.{Truth, Number, Nodes, Whole, Text, Name}
use Rattle.xpath_values.specs.declared.value.Value.{Value}

-- An argument of another kind than its function takes, which there never is, is empty, not a number, or false.

abbrev pub text_in : Operand → List ℕ
text_in (Text bytes) = bytes
text_in (Truth b) = []
text_in (Number n) = []
text_in (Nodes nodes) = []
text_in (Whole v) = []
text_in Name = []

abbrev pub truth_in : Operand → Bool
truth_in (Text bytes) = false
truth_in (Truth b) = b
truth_in (Number n) = false
truth_in (Nodes nodes) = false
truth_in (Whole v) = false
truth_in Name = false

abbrev pub nodes_in : Operand → List ℕ
nodes_in (Text bytes) = []
nodes_in (Truth b) = []
nodes_in (Number n) = []
nodes_in (Nodes nodes) = nodes
nodes_in (Whole v) = []
nodes_in Name = []

abbrev pub value_in : Operand → Option Value
value_in (Text bytes) = None
value_in (Truth b) = None
value_in (Number n) = None
value_in (Nodes nodes) = None
value_in (Whole v) = Some v
value_in Name = None

abbrev pub text_if : Option Operand → List ℕ
text_if None = []
text_if (Some x) = text_in x

abbrev pub truth_if : Option Operand → Bool
truth_if None = false
truth_if (Some x) = truth_in x

abbrev pub nodes_if : Option Operand → List ℕ
nodes_if None = []
nodes_if (Some x) = nodes_in x

abbrev pub value_if : Option Operand → Option Value
value_if None = None
value_if (Some x) = value_in x

abbrev pub number_if : Option Operand → Option Num
number_if None = None
number_if (Some x) = Some (number_in x)

abbrev pub or_nan : Option Num → Num
or_nan None = NaN
or_nan (Some n) = n

abbrev pub text_at : List Operand → ℕ → List ℕ
text_at xs at = text_if (slice_get xs at)

abbrev pub truth_at : List Operand → ℕ → Bool
truth_at xs at = truth_if (slice_get xs at)

abbrev pub nodes_at : List Operand → ℕ → List ℕ
nodes_at xs at = nodes_if (slice_get xs at)

abbrev pub value_at : List Operand → ℕ → Option Value
value_at xs at = value_if (slice_get xs at)

-- the number there, if there is an argument
abbrev pub number_there : List Operand → ℕ → Option Num
number_there xs at = number_if (slice_get xs at)

abbrev pub number_at : List Operand → ℕ → Num
number_at xs at = or_nan (number_there xs at)
