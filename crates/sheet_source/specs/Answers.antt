-- What a call answers.
use Rattle.std.specs.Prelude.{◌≡◌, Result, Ok, Err}
use Rattle.doc_model.specs.declared.flaw.Flaw.{Flaw}
use Rattle.sheet_source.specs.declared.error.SourceStop.{SourceStop}
use Rattle.sheet_source.specs.declared.error.SourceStop.TheVariants.{Flawed, Memory}

-- exactly this, unless memory runs out
abbrev pub Answers : {A : Type 0} → Result A Flaw → Result A SourceStop → Type 0
Answers meant (Ok x) = meant ≡ Ok x
Answers meant (Err (Flawed flaw)) = meant ≡ Err flaw
Answers meant (Err Memory) = Unit {0}
