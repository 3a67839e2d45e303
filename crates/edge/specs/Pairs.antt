-- The pairs of a shelf over memory, as lists of bytes.
use Rattle.std.specs.Prelude.{ℕ, List, string_bytes}
use Rattle.edge.specs.declared.pair.Pair.{Pair}

-- the name and the bytes of a pair
abbrev pub pair_of : Pair → List ℕ × List ℕ
pair_of pair = (string_bytes pair.name, pair.bytes.items)
