-- Whether a rule of a sheet, given by its place, is a node's in a mode.
use Rattle.std.specs.Prelude.{ℕ, List, Bool, false, ◌==◌, if◌then◌else◌, Option, Some, None, slice_get}
use Rattle.doc_model.specs.Answers.{Known}
use Rattle.pattern_names.specs.Wanted.{wanted_of}
use Rattle.sheet_ast.specs.declared.sheet.Rule.{Rule}
use Rattle.xpath_meaning.specs.Match.{match_step, match_path}
use Rattle.xpath_meaning.specs.Outcome.{Outcome}
use Rattle.xpath_meaning.specs.Reading.{Reading}
use Rattle.xpath_syntax.specs.declared.pattern.PatternStep.{PatternStep}

-- it is of the mode, and matches
abbrev pub rule_applies : Reading → ℕ → ℕ → Rule → Outcome Bool
rule_applies R mode n rule = if rule.mode == mode then match_path R rule.pattern n else Known false

abbrev pub some_applies : Reading → ℕ → ℕ → Option Rule → Outcome Bool
some_applies R mode n None = Known false
some_applies R mode n (Some rule) = rule_applies R mode n rule

abbrev pub applies : Reading → List Rule → ℕ → ℕ → ℕ → Outcome Bool
applies R rules mode n place = some_applies R mode n (slice_get rules place)

-- the rule at a place is of the mode
abbrev pub some_of_mode : ℕ → Option Rule → Bool
some_of_mode mode None = false
some_of_mode mode (Some rule) = rule.mode == mode

abbrev pub in_mode : List Rule → ℕ → ℕ → Bool
in_mode rules mode place = some_of_mode mode (slice_get rules place)

-- the local name that a step asks for, where there is one
abbrev pub wanted_if : Option PatternStep → Option (List ℕ)
wanted_if None = None
wanted_if (Some step) = wanted_of (match_step step).test
