-- What is meant at the steps that were seen, and what a call on a view that may grow answers of it.
use Rattle.std.specs.Prelude.{◌≡◌, ℕ, nat_lt, if◌then◌else◌, List, length, Option, Some, None, Result, Ok, Err, ⊤}
use Rattle.doc_model.specs.declared.step.Step.{Step}
use Rattle.doc_model.specs.declared.strip_rule.StripRule.{StripRule}
use Rattle.doc_model.specs.Document.{is_open}
use Rattle.doc_model.specs.Lawful.{IsLawful, Grows, AtStep}
use Rattle.doc_model.specs.Rows.{rows_of}
use Rattle.doc_model.specs.View.{Seen}

-- what is meant: a value, a fault, or that this row must be shut first
pub data Answer (F A : Type 0) : Type 0 where
  Known : A → Answer F A
  Fault : F → Answer F A
  Open : ℕ → Answer F A

-- goes on with a value that is known
abbrev pub and_then : {F A B : Type 0} → Answer F A → (A → Answer F B) → Answer F B
and_then (Known x) rest = rest x
and_then (Fault f) rest = Fault f
and_then (Open m) rest = Open m

-- an answer without faults among answers that may have some
abbrev pub with_faults : {F A : Type 0} → Answer ⊥ A → Answer F A
with_faults (Known x) = Known x
with_faults (Fault f) = absurd f
with_faults (Open m) = Open m

-- known, unless a row must be shut first that is open
abbrev pub once_shut : {A : Type 0} → List Step → Option ℕ → A → Answer ⊥ A
once_shut steps None x = Known x
once_shut steps (Some m) x = if is_open steps m then Open m else Known x

-- nothing is known yet of a row that is not there
abbrev pub once_joined : {F A : Type 0} → List Step → ℕ → Answer F A → Answer F A
once_joined steps n answer = if nat_lt n (length (rows_of steps)) then answer else Open n

-- what is known stays, and what is open may become anything
abbrev pub Stays : {F A : Type 0} → Answer F A → Answer F A → Type 0
Stays (Known x) later = later ≡ Known x
Stays (Fault f) later = later ≡ Fault f
Stays (Open m) later = ⊤

-- what is meant stays on every growth that is lawful
pub record Lasts {F A : Type 0} (means : List Step → Answer F A) : Type 0 where
  pub stays : (before later : List Step) → Grows before later → IsLawful later → Stays (means before) (means later)

-- why a call gave no value: a fault, a row that must be shut first, or want of memory
pub data Stop (F : Type 0) : Type 0 where
  ByFault : F → Stop F
  ByOpen : ℕ → Stop F
  ByMemory : Stop F

-- what a call that stopped says: a fault is what is meant at the end of the call; an open row is what was meant at a step of the call; want of memory says nothing
abbrev pub StopsAs : {F A : Type 0} → (List Step → Answer F A) → List Step → List Step → Stop F → Type 0
StopsAs means before later (ByFault f) = means later ≡ Fault f
StopsAs means before later (ByOpen m) = AtStep before later (λ steps. means steps ≡ Open m)
StopsAs means before later ByMemory = ⊤

-- what a call answers: the value is what is meant at the end of the call, under the strip rules of the view; an error says why it stopped
abbrev pub Answers : {M E F A : Type 0} → (E → Stop F) → (List StripRule → List Step → Answer F A) → Seen M → Seen M → Result A E → Type 0
Answers stop means before later (Ok x) = means later.rules later.steps ≡ Known x
Answers stop means before later (Err e) = StopsAs (means later.rules) before.steps later.steps (stop e)
