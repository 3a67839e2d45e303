-- What operands tell stays, and is there.
use Rattle.std.proofs.Common.{◌≡◌, refl, subst, ℕ, List, [], ◌∷◌}
use Rattle.std.specs.Prelude.{⊤}
use Rattle.doc_model.specs.Answers.{Stays}
use Rattle.doc_model.specs.declared.step.Step.{Step}
use Rattle.doc_model.specs.declared.strip_rule.StripRule.{StripRule}
use Rattle.doc_model.specs.View.{Seen}
use Rattle.key_sources.specs.Going.{Lookups, Says}
use Rattle.key_sources.proofs.Saying as saying
use Rattle.xpath_laws.specs.Sound.{Rows, Tells, Anything, Each, IsNodeSet, IsValue, IsReading, IsThere, IsOpen}
use Rattle.xpath_laws.proofs.Keeping.{Keeps, MeantKeeps, text_keeps, truth_keeps, number_keeps, nodes_keep, number_stays, text_stays}
use Rattle.xpath_laws.proofs.Sounding.{Sound, MeantSound, text_sound, truth_sound, number_sound, nodes_sound, text_told, number_told, nodes_told}
use Rattle.xpath_laws.proofs.Staying.{bind_stays, stays}
use Rattle.xpath_laws.proofs.Tells.{bind_tells}
use Rattle.xpath_laws.proofs.There.{reading_told}
use Rattle.xpath_meaning.specs.Meanings.{Meant}
use Rattle.xpath_meaning.specs.Reading.{Reading, Extends}
use Rattle.xpath_nodes.proofs.Holding.{there_joined}
use Rattle.xpath_operations.specs.Operands.{IsHeld, operand_as, operand_by}
use Rattle.xpath_operations.specs.declared.operand.Operand.{Operand}
use Rattle.xpath_operations.specs.declared.operand.Operand.TheVariants.{Truth, Number, Nodes, Whole, Text, Name}
use Rattle.xpath_operations.specs.declared.operand.OperandKind.{OperandKind}
use Rattle.xpath_operations.specs.declared.operand.OperandKind.TheVariants as kind
use Rattle.xpath_values.specs.declared.value.Value.{Value}
use Rattle.xpath_values.specs.declared.value.Value.TheVariants as value
use Rattle.std.proofs.Common.{Result, Ok, Err}
use Rattle.std.specs.Prelude.{IfOk}
use Rattle.xpath_meaning.specs.declared.stop.EvalStop.{EvalStop}

-- ---- what is known stays

pub operand_keeps : (k : OperandKind) (m : Meant) → MeantKeeps m → Keeps (operand_as k m)
operand_keeps kind.Truth m h R Q x values c = bind_stays _ _ _ _ (truth_keeps m h R Q x values c) (λ b. refl)
operand_keeps kind.Number m h R Q x values c = bind_stays _ _ _ _ (number_keeps m h R Q x values c) (λ n. refl)
operand_keeps kind.Nodes m h R Q x values c = bind_stays _ _ _ _ (nodes_keep m h R Q x values c) (λ nodes. refl)
operand_keeps kind.Whole m h R Q x values c = bind_stays _ _ _ _ (h.value R Q x values c) (λ v. refl)
operand_keeps kind.Text m h R Q x values c = bind_stays _ _ _ _ (text_keeps m h R Q x values c) (λ bytes. refl)

pub operand_stays : (k : OperandKind) (v : Value) (R Q : Reading) → Extends R Q → Stays (operand_by k R v) (operand_by k Q v)
operand_stays kind.Truth v R Q x = refl
operand_stays kind.Number v R Q x = bind_stays _ _ _ _ (number_stays R Q x v) (λ n. refl)
operand_stays kind.Nodes v R Q x = stays (operand_by kind.Nodes R v)
operand_stays kind.Whole v R Q x = refl
operand_stays kind.Text v R Q x = bind_stays _ _ _ _ (text_stays R Q x v) (λ bytes. refl)

pub operand_by_kept : (k : OperandKind) (v : Value) → saying.Keeps (λ R. operand_by k R v)
operand_by_kept k v = record { stays = λ R Q x. operand_stays k v R Q x }

-- ---- what is told is there

abbrev pub Held : Rows → Operand → Type 0
Held T (Truth b) = ⊤
Held T (Number n) = ⊤
Held T (Nodes nodes) = IsNodeSet T nodes
Held T (Whole v) = IsValue T v
Held T (Text bytes) = ⊤
Held T Name = ⊤

module _ (T O : Rows) where
  pub operand_sound : (k : OperandKind) (m : Meant) → MeantSound T O m → Sound T O (Held T) (operand_as k m)
  operand_sound kind.Truth m h R values c g = bind_tells O Anything (Held T) _ _ (truth_sound T O m h R values c g) (λ b a. tt)
  operand_sound kind.Number m h R values c g = bind_tells O Anything (Held T) _ _ (number_sound T O m h R values c g) (λ n a. tt)
  operand_sound kind.Nodes m h R values c g = bind_tells O (IsNodeSet T) (Held T) _ _ (nodes_sound T O m h R values c g) (λ nodes i. i)
  operand_sound kind.Whole m h R values c g = bind_tells O (IsValue T) (Held T) _ _ (h.value R values c g) (λ v i. i)
  operand_sound kind.Text m h R values c g = bind_tells O Anything (Held T) _ _ (text_sound T O m h R values c g) (λ bytes a. tt)

  pub operand_told : (R : Reading) → IsReading T O R → (k : OperandKind) (v : Value) → IsValue T v → Tells O (Held T) (operand_by k R v)
  operand_told R x kind.Truth v i = tt
  operand_told R x kind.Number v i = bind_tells O Anything (Held T) _ _ (number_told T O R x v i) (λ n a. tt)
  operand_told R x kind.Nodes v i = bind_tells O (IsNodeSet T) (Held T) _ _ (nodes_told T O v i) (λ nodes j. j)
  operand_told R x kind.Whole v i = i
  operand_told R x kind.Text v i = bind_tells O Anything (Held T) _ _ (text_told T O R x v i) (λ bytes a. tt)

pub held_joined : (rules : List StripRule) (steps : List Step) (x : Operand) → Held (IsThere rules steps) x → IsHeld steps x
held_joined rules steps (Truth b) i = tt
held_joined rules steps (Number n) i = tt
held_joined rules steps (Nodes nodes) i = there_joined rules steps nodes i.1
held_joined rules steps (Whole (value.Nodes nodes)) i = there_joined rules steps nodes i.1
held_joined rules steps (Whole (value.Atom atom)) i = tt
held_joined rules steps (Whole (value.Fragment events)) i = tt
held_joined rules steps (Text bytes) i = tt
held_joined rules steps Name i = tt

-- an operand that was made of a value that is there
pub operand_by_held : {M : Type 0} {lookups : Lookups} {s t : Seen M} {x : Operand} (k : OperandKind) (v : Value) → IsValue (IsThere t.rules t.steps) v
    → Says lookups (λ R. operand_by k R v) s t (Ok x) → IsHeld t.steps x
operand_by_held {lookups = lookups} {t = t} {x = x} k v i a =
    let T : ℕ → Type 0 = IsThere t.rules t.steps in
    held_joined t.rules t.steps x (subst (Tells (IsOpen t.steps) (Held T)) a.answers (operand_told T (IsOpen t.steps) _ (reading_told t.rules lookups.keys lookups.id t.steps) k v i))

pub operand_by_held_if : {M : Type 0} {lookups : Lookups} {s t : Seen M} (result : Result Operand EvalStop) (k : OperandKind) (v : Value) → IsValue (IsThere t.rules t.steps) v
    → Says lookups (λ R. operand_by k R v) s t result
    → IfOk result (λ x. IsHeld t.steps x)
operand_by_held_if (Ok x) k v i a = operand_by_held k v i a
operand_by_held_if (Err e) k v i a = tt
