-- Numbers that ascend, gone through from the first.
use Rattle.std.proofs.Common.{ℕ, suc, ◌<◌, ◌≤◌, List, [], ◌∷◌, arith}
use Rattle.doc_laws.specs.Ordered.{AscendsFrom}

-- what is left decides
pub record Decides (all : List ℕ) (least : ℕ) (left : List ℕ) : Type 0 where
  pub down : AscendsFrom 0 all → AscendsFrom least left
  pub up : AscendsFrom least left → AscendsFrom 0 all

pub decides_first : (all : List ℕ) → Decides all 0 all
decides_first all = record { down = λ a. a; up = λ a. a }

pub decides_next : (all : List ℕ) (least n : ℕ) (ns : List ℕ) → least ≤ n → Decides all least (n ∷ ns) → Decides all (suc n) ns
decides_next all least n ns l d = record { down = λ a. (d.down a).1; up = λ a. d.up (l, a) }

pub behind_last : (all : List ℕ) (least n : ℕ) (ns : List ℕ) → n < least → Decides all least (n ∷ ns) → AscendsFrom 0 all → ⊥
behind_last all least n ns l d a = let b = (d.down a).0 in omega (arith, l, b)

pub decides_end : (all : List ℕ) (least : ℕ) → Decides all least [] → AscendsFrom 0 all
decides_end all least d = d.up tt
