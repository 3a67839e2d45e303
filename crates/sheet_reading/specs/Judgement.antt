-- What is answered: a value, or the first fault.
use Rattle.std.specs.Prelude.{◌≡◌, ℕ, Bool, true, false, List, [], ◌∷◌, Result, Ok, Err}
use Rattle.sheet_elements.specs.declared.fault.SheetFault.{SheetFault}
use Rattle.sheet_elements.specs.declared.fault.SheetKind.{SheetKind}
use Rattle.sheet_values.specs.declared.stop.ValueStop.{ValueStop}
use Rattle.sheet_values.specs.declared.stop.ValueStop.TheVariants as of_value
use Rattle.sheet_reading.specs.declared.stop.ReadStop.{ReadStop}
use Rattle.sheet_reading.specs.declared.stop.ReadStop.TheVariants.{Refused, Memory}

abbrev pub Judgement : Type 0 → Type 0
Judgement A = Result A SheetFault

infixl 10 ◌>>=◌
abbrev pub ◌>>=◌ : {A B : Type 0} → Result A SheetFault → (A → Result B SheetFault) → Result B SheetFault
Ok x >>= f = f x
Err e >>= f = Err e

abbrev pub gives : {A : Type 0} → A → Result A SheetFault
gives x = Ok x

abbrev pub fault : ℕ → SheetKind → SheetFault
fault line kind = record { line = line; kind = kind }

abbrev pub refuses : {A : Type 0} → ℕ → SheetKind → Result A SheetFault
refuses line kind = Err (fault line kind)

-- refused so unless the test holds
abbrev pub needs : Bool → ℕ → SheetKind → Result (Unit {0}) SheetFault
needs true line kind = gives tt
needs false line kind = refuses line kind

abbrev pub choice : {A : Type 0} → Bool → Result A SheetFault → Result A SheetFault → Result A SheetFault
choice true m n = m
choice false m n = n

-- a refusal at this line
abbrev pub at_line : {A : Type 0} → ℕ → Result A SheetKind → Result A SheetFault
at_line line (Ok x) = Ok x
at_line line (Err kind) = refuses line kind

-- each from the left
abbrev pub each : {A B : Type 0} → (A → Result B SheetFault) → List A → Result (List B) SheetFault
each f [] = Ok []
each f (x ∷ xs) = do
  y ← f x
  ys ← each f xs
  Ok (y ∷ ys)

-- what a call answers: exactly this, unless memory runs out
abbrev pub Answers : {A : Type 0} → Result A SheetFault → Result A ReadStop → Type 0
Answers meant (Ok x) = meant ≡ Ok x
Answers meant (Err (Refused fault)) = meant ≡ Err fault
Answers meant (Err Memory) = Unit {0}

abbrev pub stop_at : ℕ → ValueStop → ReadStop
stop_at line (of_value.Refused kind) = Refused (fault line kind)
stop_at line of_value.Memory = Memory
