-- The nodes of operands stay there.
use Rattle.std.proofs.Common.{ℕ, List, Option, Some, None}
use Rattle.doc_model.specs.declared.step.Step.{Step}
use Rattle.doc_model.specs.Lawful.{Grows}
use Rattle.doc_laws.proofs.Growth.{joined_grows}
use Rattle.xpath_nodes.proofs.Holding.{all_on, value_on}
use Rattle.xpath_nodes.specs.Held.{IsJoinedIf}
use Rattle.xpath_operations.specs.Operands.{IsHeld}
use Rattle.xpath_operations.specs.declared.operand.Operand.{Operand}
use Rattle.xpath_operations.specs.declared.operand.Operand.TheVariants.{Truth, Number, Nodes, Whole, Text, Name}

pub held_on : (p q : List Step) (x : Operand) → Grows p q → IsHeld p x → IsHeld q x
held_on p q (Truth b) g h = tt
held_on p q (Number n) g h = tt
held_on p q (Nodes nodes) g h = all_on p q nodes g h
held_on p q (Whole v) g h = value_on p q v g h
held_on p q (Text bytes) g h = tt
held_on p q Name g h = tt

pub joined_on : (p q : List Step) (first : Option ℕ) → Grows p q → IsJoinedIf p first → IsJoinedIf q first
joined_on p q None g h = tt
joined_on p q (Some n) g h = joined_grows p q n g h
