-- When a document may be asked, what questions leave behind, and what they answer.
use Rattle.std.specs.Prelude.{◌≡◌, ℕ, List, Result, Ok, Err, ⊤}
use Rattle.copy_meaning.specs.Copies.{copy_of}
use Rattle.doc_model.specs.Answers.{Answers, with_faults}
use Rattle.doc_model.specs.Lawful.{Grows, IsLawful}
use Rattle.doc_model.specs.View.{Seen, Moves}
use Rattle.doc_model.specs.declared.step.Step.{Step}
use Rattle.doc_model.specs.declared.strip_rule.StripRule.{StripRule}
use Rattle.engine_laws.specs.Growing.{Continues}
use Rattle.engine_meaning.specs.Places.{World}
use Rattle.key_sources.specs.Going.{Fits, Lookups, Stands, reading_by}
use Rattle.sheet_ast.specs.declared.sheet.Rule.{Rule}
use Rattle.xpath_laws.specs.Sound.{AllValues, IsContext, IsThere}
use Rattle.xpath_meaning.specs.Outcome.{Outcome}
use Rattle.xpath_meaning.specs.Stops.{stop_of}
use Rattle.xpath_meaning.specs.declared.context.Context.{Context}
use Rattle.xpath_meaning.specs.declared.stop.EvalStop.{EvalStop}
use Rattle.xpath_meaning.specs.declared.stop.EvalStop.TheVariants.{NotYet, Fault, Memory}
use Rattle.xpath_values.specs.declared.value.Value.{Value}

-- by what questions are answered, beside the document: by what nodes can be found, the template rules, and what tells the borrows that this stands on
pub record Asked (M : Type 0) : Type 0 where
  pub lookups : Lookups
  pub rules : List Rule
  pub mark : M

-- what is seen of steps under strip rules, where nodes can be found so
abbrev pub world_by : Lookups → List StripRule → List Step → World
world_by lookups rules steps = record { reading = reading_by lookups rules steps; copy = λ n. with_faults (copy_of rules steps n) }

-- an expression may be evaluated: the nodes of the variables and of the context are there and visible, those of the variables in document order
pub record IsReady {M : Type 0} (seen : Seen M) (fits : Fits) (variables : List Value) (c : Context) : Type 0 where
  pub stands : Stands seen fits
  pub values : AllValues (IsThere seen.rules seen.steps) variables
  pub context : IsContext (IsThere seen.rules seen.steps) c

-- a node may be asked about: it is there and visible
pub record IsNode {M : Type 0} (seen : Seen M) (fits : Fits) (n : ℕ) : Type 0 where
  pub stands : Stands seen fits
  pub there : IsThere seen.rules seen.steps n

-- a question left the document as it was or let it grow, and all else as it was; and what is seen at its end is seen of every lawful growth
pub record Kept {M N : Type 0} (before later : Seen M) (asked now : Asked N) (fits : Fits) : Type 0 where
  pub moves : Moves before later
  pub stays : now ≡ asked
  pub stands : Stands later fits
  pub goes_on : (steps : List Step) → Grows later.steps steps → IsLawful steps → Continues (world_by asked.lookups later.rules later.steps) (world_by asked.lookups later.rules steps)

-- what a question answers of what is seen: the value at the end of the call; or a fault, at the end of the call too; or a row that must be shut first and at a step of the call was open
pub record Shows {M A : Type 0} (lookups : Lookups) (means : World → Outcome A) (before later : Seen M) (result : Result A EvalStop) : Type 0 where
  pub answers : Answers stop_of (λ rules steps. means (world_by lookups rules steps)) before later result

-- it holds, but for want of memory
abbrev pub UnlessMemory : {A : Type 0} → Type 0 → Result A EvalStop → Type 0
UnlessMemory holds (Ok x) = holds
UnlessMemory holds (Err (NotYet m)) = holds
UnlessMemory holds (Err (Fault fault)) = holds
UnlessMemory holds (Err Memory) = ⊤
