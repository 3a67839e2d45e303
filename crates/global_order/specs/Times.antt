-- Moments of nodes that show an order of globals.
use Rattle.std.specs.Prelude.{◌≡◌, ℕ, ◌+◌, ◌<◌, ◌≤◌, Bool, true, false, not, ◌||◌, ◌&&◌, ◌==◌, nat_lt, nat_le, List, length, slice_get, Option, Some, None}
use Rattle.std.specs.List.{list_all, list_any}
use Rattle.global_order.specs.declared.graph.Node.{Node}
use Rattle.global_order.specs.declared.moments.Moment.{Moment}

-- how many globals of the order are done once this node is: a global itself, or all that another node needs
abbrev pub done_by : Bool → Moment → ℕ
done_by true m = m.place + 1
done_by false m = m.time

-- the node's moment and whether it is a global, where there is such a node
abbrev pub with_moment : {A : Type 0} → Option Node → Option Moment → A → (Node → Moment → A) → A
with_moment (Some n) (Some m) other f = f n m
with_moment None m other f = other
with_moment (Some n) None other f = other

-- a node that is named is done in time; what is no node is done at once
unfoldable pub is_in_time : List Node → List Moment → ℕ → ℕ → Bool
is_in_time nodes moments time v = with_moment (slice_get nodes v) (slice_get moments v) true (λ n m. nat_le (done_by n.is_global m) time)

-- a node that is named is done last: it is a global, or nearer to one
unfoldable pub is_last : List Node → List Moment → ℕ → ℕ → ℕ → Bool
is_last nodes moments time names v = with_moment (slice_get nodes v) (slice_get moments v) false (λ n m. done_by n.is_global m == time && (n.is_global || nat_lt m.names names))

-- the time of a node: all that it names are done in time, and one of them last, unless nothing has to be done
unfoldable pub is_timed : List Node → List Moment → Node → Moment → Bool
is_timed nodes moments n m = list_all (is_in_time nodes moments m.time) n.names && (m.time == 0 || list_any (is_last nodes moments m.time m.names) n.names)

abbrev pub is_at : Option ℕ → ℕ → Bool
is_at None u = false
is_at (Some g) u = g == u

-- a global stands at its place in the order
unfoldable pub is_placed : List ℕ → ℕ → Node → Moment → Bool
is_placed order u n m = not n.is_global || is_at (slice_get order m.place) u

-- each node has a moment, which is shown by those that it names, and a global stands at its place
pub record AreTimes (nodes : List Node) (moments : List Moment) (order : List ℕ) : Type 0 where
  pub all : length moments ≡ length nodes
  pub timed : (u : ℕ) (n : Node) (m : Moment) → slice_get nodes u ≡ Some n → slice_get moments u ≡ Some m → is_timed nodes moments n m ≡ true
  pub placed : (u : ℕ) (n : Node) (m : Moment) → slice_get nodes u ≡ Some n → slice_get moments u ≡ Some m → is_placed order u n m ≡ true

-- the same of the first so many moments
pub record AreTimesTo (nodes : List Node) (moments : List Moment) (order : List ℕ) (k : ℕ) : Type 0 where
  pub timed_to : (u : ℕ) (n : Node) (m : Moment) → u < k → slice_get nodes u ≡ Some n → slice_get moments u ≡ Some m → is_timed nodes moments n m ≡ true
  pub placed_to : (u : ℕ) (n : Node) (m : Moment) → u < k → slice_get nodes u ≡ Some n → slice_get moments u ≡ Some m → is_placed order u n m ≡ true

-- from one place up to another all globals are less than the one there
pub record AreLess (order : List ℕ) (from at : ℕ) : Type 0 where
  pub within : from ≤ at
  pub less : (k x g : ℕ) → from ≤ k → k < at → slice_get order k ≡ Some x → slice_get order at ≡ Some g → x < g

-- a global stands at this place and is ready there, and not before another place
pub record Stands (nodes : List Node) (moments : List Moment) (global at from : ℕ) : Type 0 where
  pub node : Node
  pub moment : Moment
  pub is_node : slice_get nodes global ≡ Some node
  pub is_moment : slice_get moments global ≡ Some moment
  pub is_global : node.is_global ≡ true
  pub is_place : moment.place ≡ at
  pub is_ready : moment.time ≤ at
  pub since : from ≤ moment.time

-- this place of the order has a global that stands there and is ready there, and since it is only lesser ones came
pub record StandsAt (nodes : List Node) (moments : List Moment) (order : List ℕ) (k : ℕ) : Type 0 where
  pub from : ℕ
  pub less : AreLess order from k
  pub stands : (g : ℕ) → slice_get order k ≡ Some g → Stands nodes moments g k from

-- the same of the first so many places, with the starts of their stretches
pub record StandTo (nodes : List Node) (moments : List Moment) (order starts : List ℕ) (k : ℕ) : Type 0 where
  pub known : k ≡ length starts
  pub less : (j s : ℕ) → slice_get starts j ≡ Some s → AreLess order s j
  pub stand : (j : ℕ) → j < k → StandsAt nodes moments order j
