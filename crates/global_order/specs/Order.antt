-- The order of globals (XSLT 1.0, section 11.4): again and again the first that is not done and whose needs are.
use Rattle.std.specs.Prelude.{◌≡◌, ℕ, ◌<◌, List, length, slice_get, Some, Result, Ok, Err, ⊤}
use Rattle.global_order.specs.declared.graph.Node.{Node}
use Rattle.global_order.specs.declared.order.OrderStop.{OrderStop}
use Rattle.global_order.specs.declared.order.OrderStop.TheVariants.{Circle, Memory}
use Rattle.global_order.specs.Needs.{IsGlobal, Needs, IsCircle}

-- a global is among the first k of a list
abbrev pub IsAmong : List ℕ → ℕ → ℕ → Type 0
IsAmong order k g = (j : ℕ) × (j < k) × (slice_get order j ≡ Some g)

-- a global may come next where the first k of an order are done: it is not done, and all that it needs are
pub record MayFollow (nodes : List Node) (order : List ℕ) (k g : ℕ) : Type 0 where
  pub is : IsGlobal nodes g
  pub new : IsAmong order k g → ⊥
  pub needs : (h : ℕ) → Needs nodes g h → IsAmong order k h

-- it is the first in the order of the sheet that may
pub record IsNext (nodes : List Node) (order : List ℕ) (k g : ℕ) : Type 0 where
  pub may : MayFollow nodes order k g
  pub first : (f : ℕ) → f < g → MayFollow nodes order k f → ⊥

-- each global of the list comes next behind those before it, and none is left out
pub record IsOrder (nodes : List Node) (order : List ℕ) : Type 0 where
  pub next : (k g : ℕ) → slice_get order k ≡ Some g → IsNext nodes order k g
  pub all : (g : ℕ) → IsGlobal nodes g → IsAmong order (length order) g

-- the first global that never becomes ready, or want of memory
abbrev pub Refuses : List Node → OrderStop → Type 0
Refuses nodes (Circle g) = IsCircle nodes g
Refuses nodes Memory = ⊤

-- what a call answers: the order, or why there is none
abbrev pub Answers : List Node → Result (List ℕ) OrderStop → Type 0
Answers nodes (Ok order) = IsOrder nodes order
Answers nodes (Err stop) = Refuses nodes stop
