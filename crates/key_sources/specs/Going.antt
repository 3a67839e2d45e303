-- What calls on a view and on a source of keys leave behind, and what they answer.
use Rattle.std.specs.Prelude.{◌≡◌, ℕ, List, Option, Result, Ok, Err, ⊤}
use Rattle.doc_model.specs.declared.step.Step.{Step}
use Rattle.doc_model.specs.declared.strip_rule.StripRule.{StripRule}
use Rattle.doc_model.specs.Answers as answer
use Rattle.doc_model.specs.View.{Seen, IsSeen, Moves}
use Rattle.sheet_ast.specs.declared.sheet.KeyDecl.{KeyDecl}
use Rattle.xpath_meaning.specs.declared.stop.EvalStop.{EvalStop}
use Rattle.xpath_meaning.specs.declared.stop.EvalStop.TheVariants.{NotYet, Fault, Memory}
use Rattle.xpath_meaning.specs.Outcome.{Outcome}
use Rattle.xpath_meaning.specs.Reading.{Reading}
use Rattle.xpath_meaning.specs.Readings.{reading_of}
use Rattle.xpath_meaning.specs.Stops.{stop_of}

-- by what nodes can be found: the declarations of keys in the order of the sheet, and the name of ID attributes or none
pub record Lookups : Type 0 where
  pub keys : List KeyDecl
  pub id : Option (List ℕ)

-- what a source of keys is made for, and what tells the borrow that it stands on
pub record Made (M : Type 0) : Type 0 where
  pub lookups : Lookups
  pub mark : M

-- what is read of steps under strip rules, where nodes can be found so
abbrev pub reading_by : Lookups → List StripRule → List Step → Reading
reading_by lookups rules steps = reading_of rules lookups.keys lookups.id steps

-- what a source keeps, by the strip rules and the steps that it stands for
abbrev pub Fits : Type 1
Fits = List StripRule → List Step → Type 0

-- a source may be asked: what it keeps stands for what the view has seen
pub record Stands {M : Type 0} (view : Seen M) (fits : Fits) : Type 0 where
  pub seen : IsSeen view
  pub kept : fits view.rules view.steps

-- a call left the view as it was or let it grow, left the source made for what it was made for, and the source may be asked again
pub record Went {M N : Type 0} (before later : Seen M) (made now : Made N) (fits : Fits) : Type 0 where
  pub moves : Moves before later
  pub stays : now ≡ made
  pub stands : Stands later fits

-- what a call on a view answers of what is read of its steps
pub record Says {M A : Type 0} (lookups : Lookups) (means : Reading → Outcome A) (before later : Seen M) (result : Result A EvalStop) : Type 0 where
  pub answers : answer.Answers stop_of (λ rules steps. means (reading_by lookups rules steps)) before later result

-- the same, by whatever nodes can be found
abbrev pub SaysAlways : {M A : Type 0} → (Reading → Outcome A) → Seen M → Seen M → Result A EvalStop → Type 0
SaysAlways means before later result = (lookups : Lookups) → Says lookups means before later result

-- what a call that sees no document answers
abbrev pub Gives : {A : Type 0} → Outcome A → Result A EvalStop → Type 0
Gives outcome (Ok x) = outcome ≡ answer.Known x
Gives outcome (Err (NotYet m)) = outcome ≡ answer.Open m
Gives outcome (Err (Fault fault)) = outcome ≡ answer.Fault fault
Gives outcome (Err Memory) = ⊤
