-- What is asked of a row on the way through a document: downwards its first child, else its next sibling.
use Rattle.std.specs.Prelude.{ℕ, Bool, true, false, List, unwrap_or}
use Rattle.doc_model.specs.declared.look.Look.{Look}
use Rattle.doc_model.specs.declared.row.Row.{Row}
use Rattle.doc_model.specs.Relations.{parent_of}
use Rattle.doc_model.specs.View.{Seen, FirstIs, NextIs}

abbrev pub AskedIs : {M : Type 0} → Seen M → Seen M → ℕ → Bool → Look → Type 0
AskedIs before later n true look = FirstIs before later n look
AskedIs before later n false look = NextIs before later n look

-- the row that decides of the answer while it is open: downwards the row itself, else its parent
abbrev pub decider_of : List Row → ℕ → Bool → ℕ
decider_of rows n true = n
decider_of rows n false = unwrap_or (parent_of rows n) n
