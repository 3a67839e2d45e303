-- What a call leaves in the drawer, on the console and with the listeners.
use Rattle.std.specs.Prelude.{◌≡◌, ◌⊎◌, ℕ, List, [], ◌∷◌, ◌++◌, Option, codes, ⊤}
use Rattle.edge.specs.Causes.{Rose}
use Rattle.edge.specs.Outside.{Grows}
use Rattle.delivery.specs.Answer.{Answer}

-- what was put, written and heard by each listener, where it is told, and how often the drawer and the console have failed
pub record Outputs : Type 0 where
  pub puts : Option (List (List ℕ × List ℕ))
  pub written : Option (List ℕ)
  pub heard : List (Option (List (ℕ × List ℕ)))
  pub drawer : ℕ
  pub console : ℕ

-- each listener heard these messages
abbrev pub EachHears : List (Option (List (ℕ × List ℕ))) → List (Option (List (ℕ × List ℕ))) → List (ℕ × List ℕ) → Type 0
EachHears [] [] messages = ⊤
EachHears [] (now ∷ after) messages = ⊥
EachHears (heard ∷ before) [] messages = ⊥
EachHears (heard ∷ before) (now ∷ after) messages = Grows heard now messages × EachHears before after messages

-- the call ended with this answer: its status, its puts, its messages, and its text on the console
pub record Delivers (answer : Answer) (code : ℕ) (before after : Outputs) : Type 0 where
  pub status : code ≡ answer.status
  pub put : Grows before.puts after.puts answer.puts
  pub heard : EachHears before.heard after.heard answer.messages
  pub said : Grows before.written after.written answer.console

-- a told text grew by a front of this one
abbrev pub GrowsByFront : Option (List ℕ) → Option (List ℕ) → List ℕ → Type 0
GrowsByFront written written' text = (front : List ℕ) × (rest : List ℕ) × (text ≡ front ++ rest) × Grows written written' front

abbrev pub write_failed_line : List ℕ
write_failed_line = codes "write failed" ++ 10 ∷ []

-- one of these puts failed: those before it were put
pub record PutsFront (all : List (List ℕ × List ℕ)) (puts puts' : Option (List (List ℕ × List ℕ))) : Type 0 where
  pub made : List (List ℕ × List ℕ)
  pub failed : List ℕ × List ℕ
  pub left : List (List ℕ × List ℕ)
  pub whole : all ≡ made ++ failed ∷ left
  pub put : Grows puts puts' made

-- one of the puts of this answer failed: its messages were heard, the puts before it were made, and the console got the line that tells it, unless that write failed too
pub record PutFailed (answer : Answer) (code : ℕ) (before after : Outputs) : Type 0 where
  pub status : code ≡ 6
  pub front : PutsFront answer.puts before.puts after.puts
  pub heard : EachHears before.heard after.heard answer.messages
  pub rose : Rose before.drawer after.drawer
  pub said : Grows before.written after.written write_failed_line ⊎ (Rose before.console after.console × GrowsByFront before.written after.written write_failed_line)

-- the write of this answer's text failed: its messages were heard, what it puts was put, and a front of the text may have gone out
pub record ConsoleFailed (answer : Answer) (code : ℕ) (before after : Outputs) : Type 0 where
  pub status : code ≡ 6
  pub rose : Rose before.console after.console
  pub put : Grows before.puts after.puts answer.puts
  pub heard : EachHears before.heard after.heard answer.messages
  pub said : GrowsByFront before.written after.written answer.console

-- the call delivered this answer, or failed to in one of the two ways
abbrev pub IsDelivered : Answer → ℕ → Outputs → Outputs → Type 0
IsDelivered answer code before after = Delivers answer code before after ⊎ PutFailed answer code before after ⊎ ConsoleFailed answer code before after
