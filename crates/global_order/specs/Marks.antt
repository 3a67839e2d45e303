-- Marks of nodes that show what becomes ready and what is stuck.
use Rattle.std.specs.Prelude.{◌≡◌, ℕ, ◌<◌, Bool, true, false, ◌&&◌, nat_lt, nat_le, List, slice_get, Option, Some, None}
use Rattle.std.specs.List.{list_all, list_any}
use Rattle.global_order.specs.declared.graph.Node.{Node}
use Rattle.global_order.specs.declared.marks.Mark.{Mark}
use Rattle.global_order.specs.declared.marks.Mark.TheVariants.{Ready, Stuck}

abbrev pub global_node : Option Node → Bool
global_node None = false
global_node (Some n) = n.is_global

unfoldable pub is_global : List Node → ℕ → Bool
is_global nodes v = global_node (slice_get nodes v)

-- a mark below a rank, of a global or of another node
abbrev pub mark_below : Bool → ℕ → Option Mark → Bool
mark_below true r (Some (Ready s)) = nat_lt s r
mark_below false r (Some (Ready s)) = nat_le s r
mark_below _ r _ = false

-- what is no node needs nothing
abbrev pub named_below : Option Node → ℕ → Option Mark → Bool
named_below None r mark = true
named_below (Some n) r mark = mark_below n.is_global r mark

-- a mark that leads on to a global that is stuck
abbrev pub mark_nearer : Bool → ℕ → Option Mark → Bool
mark_nearer true d (Some (Stuck e)) = true
mark_nearer false d (Some (Stuck e)) = nat_lt e d
mark_nearer _ d _ = false

unfoldable pub is_below : List Node → List Mark → ℕ → ℕ → Bool
is_below nodes marks r v = named_below (slice_get nodes v) r (slice_get marks v)

unfoldable pub is_nearer : List Node → List Mark → ℕ → ℕ → Bool
is_nearer nodes marks d v = mark_nearer (is_global nodes v) d (slice_get marks v)

unfoldable pub node_shown : List Node → List Mark → Node → Mark → Bool
node_shown nodes marks n (Ready r) = list_all (is_below nodes marks r) n.names
node_shown nodes marks n (Stuck d) = list_any (is_nearer nodes marks d) n.names

-- every mark is that of a node, and is shown by those that its node names
pub record AreProof (nodes : List Node) (marks : List Mark) : Type 0 where
  pub stands : (u : ℕ) (m : Mark) → slice_get marks u ≡ Some m → (n : Node) × (slice_get nodes u ≡ Some n)
  pub shown : (u : ℕ) (n : Node) (m : Mark) → slice_get nodes u ≡ Some n → slice_get marks u ≡ Some m → node_shown nodes marks n m ≡ true

-- the same of the first so many marks
pub record AreProofTo (nodes : List Node) (marks : List Mark) (k : ℕ) : Type 0 where
  pub stands_to : (u : ℕ) (m : Mark) → u < k → slice_get marks u ≡ Some m → (n : Node) × (slice_get nodes u ≡ Some n)
  pub shown_to : (u : ℕ) (n : Node) (m : Mark) → u < k → slice_get nodes u ≡ Some n → slice_get marks u ≡ Some m → node_shown nodes marks n m ≡ true

abbrev pub is_stuck : Option Mark → Bool
is_stuck (Some (Stuck d)) = true
is_stuck _ = false

unfoldable pub is_stuck_global : List Node → List Mark → ℕ → Bool
is_stuck_global nodes marks u = is_global nodes u && is_stuck (slice_get marks u)
