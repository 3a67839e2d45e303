-- What a listener may tell of itself beside the messages heard: which of its calls fail.
use Rattle.std.specs.Prelude.{◌≡◌, ◌↔◌, ◌⊎◌, ℕ, ◌+◌, ◌-◌, ◌^◌, ◌<◌, min, List, Contains, length, ⊤, Option, Some, None, Result, MatchResult, IsErr}

-- how many calls a listener had, the numbers of the calls that fail, and how many more bytes it has room for
pub record Hearing : Type 0 where
  pub had : ℕ
  pub failing : List ℕ
  pub room : ℕ

-- a call's number is one more than the calls had before it, at most the greatest u64
abbrev pub call_number : Hearing → ℕ
call_number hearing = min (hearing.had + 1) (2 ^ 64 - 1)

-- what a line counts against the room: 16 beside its bytes
abbrev pub heard_size : List ℕ → ℕ
heard_size line = 16 + length line

-- the next call fails by its number, or its line passes the room
abbrev pub FailsToHear : Hearing → List ℕ → Type 0
FailsToHear hearing line = Contains hearing.failing (call_number hearing) ⊎ (hearing.room < heard_size line)

-- after a call that heard this line
abbrev pub after_hearing : Hearing → List ℕ → Hearing
after_hearing hearing line = record { had = call_number hearing; failing = hearing.failing; room = hearing.room - heard_size line }

-- after a call that failed
abbrev pub after_failing : Hearing → Hearing
after_failing hearing = record { had = call_number hearing; failing = hearing.failing; room = hearing.room }

-- where a listener tells its calls, this one failed exactly as told, and the listener tells them on
abbrev pub HearsAsTold : {U E : Type 0} → Option Hearing → Option Hearing → Result U E → List ℕ → Type 0
HearsAsTold None new result line = ⊤
HearsAsTold (Some old) new result line = (IsErr result ↔ FailsToHear old line) × MatchResult result (λ _. new ≡ Some (after_hearing old line)) (λ _. new ≡ Some (after_failing old))
