-- What a global needs before it.
use Rattle.std.specs.Prelude.{◌≡◌, ℕ, ◌<◌, true, List, slice_get, Some}
use Rattle.global_order.specs.declared.graph.Node.{Node}

-- node u names node v
pub data Names (nodes : List Node) : ℕ → ℕ → Type 0 where
  names : {u v : ℕ} (n : Node) → slice_get nodes u ≡ Some n → (k : ℕ) → slice_get n.names k ≡ Some v → Names nodes u v

-- node u is a global
pub data IsGlobal (nodes : List Node) : ℕ → Type 0 where
  one : {u : ℕ} (n : Node) → slice_get nodes u ≡ Some n → n.is_global ≡ true → IsGlobal nodes u

-- a node needs the globals that it names, and those that a template or mode needs that it names
pub data Needs (nodes : List Node) : ℕ → ℕ → Type 0 where
  itself : {u h : ℕ} → Names nodes u h → IsGlobal nodes h → Needs nodes u h
  through : {u v h : ℕ} → Names nodes u v → (IsGlobal nodes v → ⊥) → Needs nodes v h → Needs nodes u h

-- a global becomes ready once all that it needs are
pub data Ready (nodes : List Node) : ℕ → Type 0 where
  ready : {g : ℕ} → ((h : ℕ) → Needs nodes g h → Ready nodes h) → Ready nodes g

-- the first global that never becomes ready
pub record IsCircle (nodes : List Node) (g : ℕ) : Type 0 where
  pub is : IsGlobal nodes g
  pub never : Ready nodes g → ⊥
  pub before : (h : ℕ) → h < g → IsGlobal nodes h → Ready nodes h
