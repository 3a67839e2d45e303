-- What a call answers: a status, what is put and heard, and the console's text.
use Rattle.std.specs.Prelude.{ℕ, ◌+◌, List, [], ◌∷◌, ◌++◌, Bool, if◌then◌else◌, map, Option, Some, None, is_some, codes}
use Rattle.std.specs.List.{list_any, flat_map, zip}
use Rattle.std.specs.Fmt.{decimal}
use Rattle.doc_model.specs.FlawName.{flaw_name}
use Rattle.doc_model.specs.declared.flaw.Flaw.{Flaw}
use Rattle.cmd_words.specs.declared.pair.Pair.{Pair}
use Rattle.text_walk.specs.declared.fault.FaultKind.{FaultKind}
use Rattle.text_walk.specs.FaultName.{fault_name}
use Rattle.sessions.specs.declared.outcome.Outcome.{Outcome}

-- a status, the puts of the call in order, the messages that each listener hears, each with the number of its transformation, and what is written to the console
pub record Answer : Type 0 where
  pub status : ℕ
  pub puts : List (List ℕ × List ℕ)
  pub messages : List (ℕ × List ℕ)
  pub console : List ℕ

-- nothing is put or heard
abbrev pub text_answer : ℕ → List ℕ → Answer
text_answer status text = record { status = status; puts = []; messages = []; console = text }

abbrev pub line_of_kind : ℕ → List ℕ → List ℕ
line_of_kind line kind = codes "source: line " ++ decimal line ++ codes ": " ++ kind ++ 10 ∷ []

-- the console line of a flaw: `source: line L: KIND`
abbrev pub flaw_line : Flaw → List ℕ
flaw_line flaw = line_of_kind flaw.line (flaw_name flaw.kind)

abbrev pub has_fault : Outcome → Bool
has_fault outcome = is_some outcome.fault

-- the put of a transformation that has no fault
abbrev pub put_of : Pair → Outcome → List (List ℕ × List ℕ)
put_of pair outcome = if has_fault outcome then [] else (pair.out, outcome.bytes) ∷ []

-- the puts of transformations, in the order of the pairs
abbrev pub puts_of : List Pair → List Outcome → List (List ℕ × List ℕ)
puts_of pairs outcomes = flat_map (λ (p : Pair × Outcome). put_of p.0 p.1) (zip pairs outcomes)

abbrev pub line_of_fault : List ℕ → List ℕ → List ℕ
line_of_fault out kind = out ++ codes ": fault " ++ kind ++ 10 ∷ []

-- the console line of a fault, if there is one: `OUT: fault KIND`
abbrev pub fault_line : List ℕ → Option FaultKind → List ℕ
fault_line out None = []
fault_line out (Some kind) = line_of_fault out (fault_name kind)

-- the console lines of transformations that have a fault, in the order of the pairs
abbrev pub fault_text : List Pair → List Outcome → List ℕ
fault_text pairs outcomes = flat_map (λ (p : Pair × Outcome). fault_line p.0.out p.1.fault) (zip pairs outcomes)

-- the messages of transformations that are numbered from here on
abbrev pub messages_from : ℕ → List Outcome → List (ℕ × List ℕ)
messages_from i [] = []
messages_from i (outcome ∷ outcomes) = map (λ (line : List ℕ). (i, line)) outcome.messages ++ messages_from (i + 1) outcomes

-- the messages of transformations, in their order
abbrev pub messages_of : List Outcome → List (ℕ × List ℕ)
messages_of outcomes = messages_from 0 outcomes

-- 1 where a transformation has a fault, else 0
abbrev pub code_of : List Outcome → ℕ
code_of outcomes = if list_any has_fault outcomes then 1 else 0

-- what these transformations came to, after these lines of progress
abbrev pub made_answer : List Pair → List Outcome → List ℕ → Answer
made_answer pairs outcomes progress = record {
  status = code_of outcomes;
  puts = puts_of pairs outcomes;
  messages = messages_of outcomes;
  console = progress ++ fault_text pairs outcomes;
}

-- the source has this first flaw, after these lines of progress
abbrev pub flawed_answer : List ℕ → Flaw → Answer
flawed_answer progress flaw = text_answer 4 (progress ++ flaw_line flaw)
