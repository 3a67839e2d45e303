use Rattle.std.proofs.Common.{ℕ, List, ◌∷◌, take}
use Rattle.node_writer.specs.Known.{AreFound, names_in}
use Rattle.pyx_events.specs.Numbered.{AreNumbered}
use Rattle.dtm_builder.specs.Recalled.{Recalls}
use Rattle.dtm_builder.proofs.recall.recall_rows.Given as goal

-- what the table has of the names of the rows before this one is found, and what is kept is right
abbrev pub invariant-loop-at : goal.invariant-loop-at
invariant-loop-at l = (uris : List (List ℕ)) → Recalls l.initial.index uris (names_in l.writer) → AreNumbered uris (l.row ∷ l.attributes) l.numbers
    → Recalls l.index uris (names_in l.writer) × AreFound (names_in l.writer) (take l.at (l.row ∷ l.attributes)) l.found
