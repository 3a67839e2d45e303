-- The words after a join or an end.
use Rattle.std.specs.Prelude.{ℕ, ◌<◌, List, slice_set}
use Rattle.doc_model.specs.declared.places.Join.{Join}
use Rattle.doc_model.specs.declared.places.Join.TheVariants.{FirstOf, NextOf}
use Rattle.doc_model.specs.declared.step.Verdict.{Verdict}
use Rattle.doc_model.specs.declared.step.Verdict.TheVariants.{Good, Bad, Failed, Starved, Upstream}

-- the word that is to be set is there, of so many first-child and next-sibling words
abbrev pub HowWithin : Join → ℕ → ℕ → Type 0
HowWithin (FirstOf parent) first next = parent < first
HowWithin (NextOf last) first next = last < next

abbrev pub first_after : Join → ℕ → List ℕ → List ℕ
first_after (FirstOf parent) n first = slice_set first parent n
first_after (NextOf last) n first = first

abbrev pub next_after : Join → ℕ → List ℕ → List ℕ
next_after (FirstOf parent) n next = next
next_after (NextOf last) n next = slice_set next last n

-- a good end sets the root's extent, and no other sets one
abbrev pub extent_after : Verdict → ℕ → List ℕ → List ℕ
extent_after Good joined extent = slice_set extent 0 joined
extent_after (Bad flaw) joined extent = extent
extent_after Failed joined extent = extent
extent_after Starved joined extent = extent
extent_after Upstream joined extent = extent
