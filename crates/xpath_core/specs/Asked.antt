-- What an operand of a known kind holds.
use Rattle.std.specs.Prelude.{ℕ, Bool, false, List, []}
use Rattle.xpath_operations.specs.declared.operand.Operand.{Operand}
use Rattle.xpath_operations.specs.declared.operand.Operand.TheVariants.{Truth, Number, Nodes, Whole, Text, Name}

-- the boolean; that of no other kind is asked for
abbrev pub truth_in : Operand → Bool
truth_in (Truth b) = b
truth_in (Number n) = false
truth_in (Nodes nodes) = false
truth_in (Whole v) = false
truth_in (Text bytes) = false
truth_in Name = false

-- the string; that of no other kind is asked for
abbrev pub text_in : Operand → List ℕ
text_in (Truth b) = []
text_in (Number n) = []
text_in (Nodes nodes) = []
text_in (Whole v) = []
text_in (Text bytes) = bytes
text_in Name = []
