-- What is asked, by the borrows that a document stands on.
use Rattle.std.specs.Prelude.{ℕ, List}
use Rattle.doc_model.specs.View.{Seen}
use Rattle.engine_questions.specs.Asking.{Asked}
use Rattle.key_sources.specs.Going.{Made}
use Rattle.sheet_ast.specs.declared.sheet.Rule.{Rule}

-- what a view has seen, which is borrowed under this name
abbrev pub seen_by : {M : Type 0} → ℕ → Seen M → Seen (ℕ × M)
seen_by name seen = record { steps = seen.steps; whole = seen.whole; types = seen.types; rules = seen.rules; mark = (name, seen.mark) }

-- what a source of keys is made for, which is borrowed under this name, beside template rules
abbrev pub asked_by : {M : Type 0} → ℕ → List Rule → Made M → Asked (ℕ × M)
asked_by name rules made = record { lookups = made.lookups; rules = rules; mark = (name, made.mark) }
