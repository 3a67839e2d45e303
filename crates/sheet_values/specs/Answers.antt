-- What a call answers.
use Rattle.std.specs.Prelude.{◌≡◌, Result, Ok, Err}
use Rattle.sheet_elements.specs.declared.fault.SheetKind.{SheetKind}
use Rattle.sheet_values.specs.declared.stop.ValueStop.{ValueStop}
use Rattle.sheet_values.specs.declared.stop.ValueStop.TheVariants.{Refused, Memory}

-- exactly this, unless memory runs out
abbrev pub Answers : {A : Type 0} → Result A SheetKind → Result A ValueStop → Type 0
Answers meant (Ok x) = meant ≡ Ok x
Answers meant (Err (Refused kind)) = meant ≡ Err kind
Answers meant (Err Memory) = Unit {0}
