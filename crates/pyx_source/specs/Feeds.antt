-- Bytes that hold no line feed.
use Rattle.std.specs.Prelude.{ℕ, List, ◌==◌, not, IsTrue}
use Rattle.std.specs.List.{list_all}

abbrev pub HoldsNoFeed : List ℕ → Type 0
HoldsNoFeed bytes = IsTrue (list_all (λ b. not (b == 10)) bytes)
