-- Which rule is the template rule of a node (XSLT 1.0, sections 2.6.2 and 5.5).
use Rattle.std.specs.Prelude.{◌≡◌, ◌⊎◌, ℕ, ◌<◌, ◌<ℤ◌, true, false, List, Some, slice_get}
use Rattle.doc_model.specs.Answers.{Known}
use Rattle.sheet_ast.specs.declared.sheet.Rule.{Rule}
use Rattle.xpath_meaning.specs.Match.{match_path}
use Rattle.xpath_meaning.specs.Reading.{Reading}

-- rule a at place j stands over rule b at place k: its import precedence is higher; or they are equal and its priority is higher; or both are equal and it comes later in the sheet
abbrev pub StandsOver : ℕ → Rule → ℕ → Rule → Type 0
StandsOver j a k b = (b.precedence < a.precedence) ⊎ ((b.precedence ≡ a.precedence) × ((b.priority <ℤ a.priority) ⊎ ((b.priority ≡ a.priority) × (k < j))))

-- the rule at this place is of the mode and matches, and none that is of the mode and stands over it does
pub record IsChoice (R : Reading) (rules : List Rule) (mode n place : ℕ) : Type 0 where
  pub rule : Rule
  pub there : slice_get rules place ≡ Some rule
  pub of_mode : rule.mode ≡ mode
  pub matches : match_path R rule.pattern n ≡ Known true
  pub over : (k : ℕ) (other : Rule) → slice_get rules k ≡ Some other → other.mode ≡ mode → StandsOver k other place rule → match_path R other.pattern n ≡ Known false

-- no rule of the mode matches
pub record IsBuiltIn (R : Reading) (rules : List Rule) (mode n : ℕ) : Type 0 where
  pub none : (k : ℕ) (rule : Rule) → slice_get rules k ≡ Some rule → rule.mode ≡ mode → match_path R rule.pattern n ≡ Known false
