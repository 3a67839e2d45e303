-- What a call answers.
use Rattle.std.specs.Prelude.{◌≡◌, Result, Ok, Err}
use Rattle.sheet_elements.specs.declared.fault.SheetFault.{SheetFault}
use Rattle.sheet_compile.specs.declared.stop.CompileStop.{CompileStop}
use Rattle.sheet_compile.specs.declared.stop.CompileStop.TheVariants.{Refused, Memory}

-- exactly this, unless memory runs out
abbrev pub Answers : {A : Type 0} → Result A SheetFault → Result A CompileStop → Type 0
Answers meant (Ok x) = meant ≡ Ok x
Answers meant (Err (Refused fault)) = meant ≡ Err fault
Answers meant (Err Memory) = Unit {0}
