-- What a stylesheet means (XSLT 1.0, sections 5.1 and 11.4).
use Rattle.std.specs.Prelude.{ℕ, List, [], ◌∷◌, map, Option, Some, None, slice_get, slice_set}
use Rattle.copy_meaning.specs.Copies.{copy_of}
use Rattle.doc_model.specs.Answers.{with_faults}
use Rattle.doc_model.specs.declared.step.Step.{Step}
use Rattle.doc_model.specs.declared.strip_rule.StripRule.{StripRule}
use Rattle.sheet_ast.specs.declared.sheet.Global.{Global}
use Rattle.sheet_ast.specs.declared.sheet.Sheet.{Sheet}
use Rattle.sheet_ast.specs.declared.sheet.StripRuleDecl.{StripRuleDecl}
use Rattle.xpath_values.specs.declared.value.Value.{Value}
use Rattle.xpath_meaning.specs.Conversions.{text}
use Rattle.xpath_meaning.specs.Keys.{alone}
use Rattle.xpath_meaning.specs.Readings.{reading_of}
use Rattle.engine_meaning.specs.Execution.{InMode, giving_of, templates, most_nested}
use Rattle.engine_meaning.specs.Places.{World, Setting, setting, place}
use Rattle.engine_meaning.specs.Runs.{State, Ran, Run, ◌>>=◌, ◌>>◌, pure, spend}

-- the value of a global: a unit, and then its select or its content, with the root as the context
abbrev pub global_value : Global → Setting → Run Value
global_value global W = spend >> giving_of global.value W (templates most_nested W) (place (alone 0) [])

abbrev pub global_in : Sheet → World → Option Global → ℕ → List Value → Run (List Value)
global_in sheet world None at values = pure values
global_in sheet world (Some global) at values = global_value global (setting sheet world values) >>= λ value. pure (slice_set values at value)

-- the globals at these places, one after the other
abbrev pub globals_in : Sheet → World → List ℕ → List Value → Run (List Value)
globals_in sheet world [] values = pure values
globals_in sheet world (at ∷ order) values = global_in sheet world (slice_get sheet.globals at) at values >>= λ later. globals_in sheet world order later

-- a global that is not done has the empty text
abbrev pub undone : Sheet → List Value
undone sheet = map (λ (global : Global). text []) sheet.globals

abbrev pub at_first : ℕ → State
at_first budget = record { budget = budget; events = []; messages = [] }

-- the globals in an order, and then the template that the root has in no mode
abbrev pub transforms : Sheet → List ℕ → World → Run (Unit {0})
transforms sheet order world = globals_in sheet world order (undone sheet) >>= λ globals. templates most_nested (setting sheet world globals) (InMode 0) [] (alone 0)

abbrev pub strip_rule_of : StripRuleDecl → StripRule
strip_rule_of rule = record { strip = rule.strip; uri = rule.uri; local = rule.local; precedence = rule.precedence }

abbrev pub strip_rules_of : Sheet → List StripRule
strip_rules_of sheet = map strip_rule_of sheet.strips

-- what a stylesheet sees of steps: under its strip rules and its keys, and the name of ID attributes or none
abbrev pub sheet_world : Sheet → Option (List ℕ) → List Step → World
sheet_world sheet id steps = record {
  reading = reading_of (strip_rules_of sheet) sheet.keys id steps;
  copy = λ n. with_faults (copy_of (strip_rules_of sheet) steps n);
}

-- What a stylesheet means on steps, with its globals in an order and a budget: done, a fault, or a row that must be shut first; with the budget left, the result events and the messages.
unfoldable pub meaning_of : Sheet → List ℕ → Option (List ℕ) → List Step → ℕ → Ran (Unit {0})
meaning_of sheet order id steps budget = transforms sheet order (sheet_world sheet id steps) (at_first budget)
