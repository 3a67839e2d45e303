-- A boolean and a string are what their operands hold.
use Rattle.std.proofs.Common.{◌≡◌, refl, ℕ, Bool, List}
use Rattle.doc_model.specs.Answers.{Known, Fault, Open}
use Rattle.xpath_core.specs.Asked.{truth_in, text_in}
use Rattle.xpath_meaning.specs.declared.context.Context.{Context}
use Rattle.xpath_meaning.specs.Meanings.{Meant, truth_at, text_at}
use Rattle.xpath_meaning.specs.Outcome.{Outcome, ◌>>=◌}
use Rattle.xpath_meaning.specs.Reading.{Reading}
use Rattle.xpath_operations.specs.Operands.{operand_as}
use Rattle.xpath_operations.specs.declared.operand.Operand.TheVariants.{Truth, Text}
use Rattle.xpath_operations.specs.declared.operand.OperandKind.TheVariants as kind
use Rattle.xpath_values.specs.declared.value.Value.{Value}

held_truth : (o : Outcome Bool) → o ≡ ((o >>= λ b. Known (Truth b)) >>= λ x. Known (truth_in x))
held_truth (Known b) = refl
held_truth (Fault e) = refl
held_truth (Open m) = refl

pub truth_asked : (m : Meant) (R : Reading) (values : List Value) (c : Context) → truth_at m R values c ≡ (operand_as kind.Truth m R values c >>= λ x. Known (truth_in x))
truth_asked m R values c = held_truth (truth_at m R values c)

held_text : (o : Outcome (List ℕ)) → o ≡ ((o >>= λ bytes. Known (Text bytes)) >>= λ x. Known (text_in x))
held_text (Known bytes) = refl
held_text (Fault e) = refl
held_text (Open m) = refl

pub text_asked : (m : Meant) (R : Reading) (values : List Value) (c : Context) → text_at m R values c ≡ (operand_as kind.Text m R values c >>= λ x. Known (text_in x))
text_asked m R values c = held_text (text_at m R values c)
