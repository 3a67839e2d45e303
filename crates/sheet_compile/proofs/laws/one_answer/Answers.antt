use Rattle.sheet_compile.specs.Compiling.{items_in, sheet_or_fault}
use Rattle.sheet_compile.specs.Modules.{module_of}
use Rattle.sheet_compile.proofs.Uniqueness.{same_answer}
use Rattle.sheet_compile.proofs.laws.one_answer.Goals as goal

pub returns : goal.returns
returns c = λ bytes r s p q m n. same_answer c.order_or_circle.ensures (sheet_or_fault bytes) (items_in (module_of bytes)) r s p q m n
