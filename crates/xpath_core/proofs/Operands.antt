-- What arguments tell stays, and is there.
use Rattle.std.proofs.Common.{refl, ℕ, suc, List, [], ◌∷◌, Option, Some, None}
use Rattle.doc_model.specs.Answers.{Known}
use Rattle.doc_model.specs.declared.step.Step.{Step}
use Rattle.doc_model.specs.declared.strip_rule.StripRule.{StripRule}
use Rattle.xpath_binding.specs.declared.functions.Function.{Function}
use Rattle.xpath_calls.specs.Taking.{argument, arguments, kind_at}
use Rattle.xpath_laws.specs.Sound.{Rows, Each, IsValue, IsThere}
use Rattle.xpath_laws.proofs.Keeping.{Keeps, MeantKeeps, AllKeep}
use Rattle.xpath_laws.proofs.Sounding.{Sound, MeantSound}
use Rattle.xpath_laws.proofs.Staying.{bind_stays}
use Rattle.xpath_laws.proofs.Tells.{bind_tells}
use Rattle.xpath_meaning.specs.Meanings.{Meant, plain}
use Rattle.xpath_nodes.proofs.Holding.{each_weaker}
use Rattle.xpath_operations.proofs.Standing.{Held, operand_keeps, operand_sound, held_joined}
use Rattle.xpath_operations.specs.Operands.{IsHeld}
use Rattle.xpath_operations.specs.declared.operand.Operand.{Operand}
use Rattle.xpath_operations.specs.declared.operand.OperandKind.{OperandKind}
use Rattle.xpath_values.specs.declared.value.Value.{Value}

pub argument_keeps : (k : Option OperandKind) (m : Meant) → MeantKeeps m → Keeps (argument k m)
argument_keeps None m h R Q x values c = refl
argument_keeps (Some k) m h R Q x values c = operand_keeps k m h R Q x values c

pub arguments_keep : (f : Function) (at : ℕ) (ms : List Meant) → AllKeep ms → Keeps (arguments f at ms)
arguments_keep f at [] h R Q x values c = refl
arguments_keep f at (m ∷ ms) h R Q x values c =
    bind_stays _ _ _ _ (argument_keeps (kind_at f at) m h.0 R Q x values c) (λ y. bind_stays _ _ _ _ (arguments_keep f (suc at) ms h.1 R Q x values c) (λ ys. refl))

module _ (T O : Rows) where
  -- a value that is there, as an expression
  pub constant_sound : (v : Value) → IsValue T v → MeantSound T O (plain (λ R values c. Known v))
  constant_sound v i = record { value = λ R values c g. i; items = tt }

  argument_sound : (k : Option OperandKind) (m : Meant) → MeantSound T O m → Sound T O (Held T) (argument k m)
  argument_sound None m h R values c g = tt
  argument_sound (Some k) m h R values c g = operand_sound T O k m h R values c g

  pub arguments_sound : (f : Function) (at : ℕ) (ms : List Meant) → Each (MeantSound T O) ms → Sound T O (Each (Held T)) (arguments f at ms)
  arguments_sound f at [] h R values c g = tt
  arguments_sound f at (m ∷ ms) h R values c g =
      bind_tells O (Held T) (Each (Held T)) _ _ (argument_sound (kind_at f at) m h.0 R values c g)
      (λ y i. bind_tells O (Each (Held T)) (Each (Held T)) _ _ (arguments_sound f (suc at) ms h.1 R values c g) (λ ys is. (i, is)))

pub all_held : (rules : List StripRule) (steps : List Step) (xs : List Operand) → Each (Held (IsThere rules steps)) xs → Each (IsHeld steps) xs
all_held rules steps xs a = each_weaker (Held (IsThere rules steps)) (IsHeld steps) xs (λ x i. held_joined rules steps x i) a
