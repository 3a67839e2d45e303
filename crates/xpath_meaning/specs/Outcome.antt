-- What is meant: a value, a fault, or the row that must be shut first. A whole is made of its parts from the left, and the first of them that is not known is the answer.
use Rattle.std.specs.Prelude.{ℕ, suc, Bool, true, false, if◌then◌else◌, List, [], ◌∷◌, Result, Ok, Err}
use Rattle.doc_model.specs.Answers.{Answer, Known, Fault, and_then}
use Rattle.fault_kinds.specs.declared.fault.FaultKind.{FaultKind}
use Rattle.fault_kinds.specs.declared.fault.FaultKind.TheVariants as kind
use Rattle.whole_num.specs.declared.number.NumFault.{NumFault}
use Rattle.whole_num.specs.declared.number.NumFault.TheVariants as number

abbrev pub Outcome : Type 0 → Type 0
Outcome A = Answer FaultKind A

-- goes on with a value that is known
infixl 10 ◌>>=◌
abbrev pub ◌>>=◌ : {A B : Type 0} → Outcome A → (A → Outcome B) → Outcome B
outcome >>= rest = and_then outcome rest

abbrev pub fault_of : NumFault → FaultKind
fault_of number.NumberRange = kind.NumberRange
fault_of number.Fraction = kind.Fraction

-- what a calculation gives
abbrev pub calculated : {A : Type 0} → Result A NumFault → Outcome A
calculated (Ok x) = Known x
calculated (Err fault) = Fault (fault_of fault)

-- whether it holds of some item: the items in order, up to the first of which it holds
abbrev pub some_holds : {A : Type 0} → (A → Outcome Bool) → List A → Outcome Bool
some_holds holds [] = Known false
some_holds holds (x ∷ xs) = holds x >>= λ here. if here then Known true else some_holds holds xs

-- what the items give, in order
abbrev pub each_of : {A B : Type 0} → (A → Outcome B) → List A → Outcome (List B)
each_of gives [] = Known []
each_of gives (x ∷ xs) = gives x >>= λ y. each_of gives xs >>= λ ys. Known (y ∷ ys)

abbrev pub with_if : {A : Type 0} → Bool → A → List A → List A
with_if true x xs = x ∷ xs
with_if false x xs = xs

-- the items of which it holds, where it may depend on their positions, and the first has this one
abbrev pub kept_from : {A : Type 0} → ℕ → (ℕ → A → Outcome Bool) → List A → Outcome (List A)
kept_from position holds [] = Known []
kept_from position holds (x ∷ xs) = holds position x >>= λ here. kept_from (suc position) holds xs >>= λ rest. Known (with_if here x rest)
