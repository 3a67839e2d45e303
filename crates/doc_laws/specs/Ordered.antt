-- Lists of row numbers in document order.
use Rattle.std.specs.Prelude.{ℕ, suc, ◌≤◌, List, [], ◌∷◌, ⊤}

-- the numbers ascend, and the first is not below a
abbrev pub AscendsFrom : ℕ → List ℕ → Type 0
AscendsFrom a [] = ⊤
AscendsFrom a (n ∷ ns) = (a ≤ n) × AscendsFrom (suc n) ns
