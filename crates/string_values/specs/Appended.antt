-- What a call that appends a string-value says.
use Rattle.std.specs.Prelude.{ℕ, List, ◌++◌, Result, Ok, Err}
use Rattle.doc_model.specs.declared.ask.Ask.{Ask}
use Rattle.doc_model.specs.Answers.{Answer, Known, and_then}

-- these bytes, and after them a value once it is known
abbrev pub appended_to : List ℕ → Answer ⊥ (List ℕ) → Answer ⊥ (List ℕ)
appended_to bytes answer = and_then answer (λ value. Known (bytes ++ value))

-- a call that wrote these bytes, as one that gives them
abbrev pub given : List ℕ → Result (Unit {0}) Ask → Result (List ℕ) Ask
given bytes (Ok done) = Ok bytes
given bytes (Err ask) = Err ask
