use Rattle.std.proofs.Common.{◌≡◌, ◌≤◌, ◌++◌, ℕ, List, length, drop}
use Rattle.edge.specs.Outside.{Grows}
use Rattle.delivery.specs.Answer.{puts_of}
use Rattle.delivery.proofs.putting.put_all.Given as goal

abbrev pub invariant-loop-pair : goal.invariant-loop-pair
invariant-loop-pair g l = record {
  puts : (made : List (List ℕ × List ℕ))
      × ((puts_of l.pairs l.outcomes ≡ made ++ puts_of (drop (length l.yielded) l.pairs) (drop (length l.yielded) l.outcomes))
      × Grows (g.O.Drawer.puts l.initial.drawer) (g.O.Drawer.puts l.drawer) made);
  later : g.O.Drawer.faults l.initial.drawer ≤ g.O.Drawer.faults l.drawer;
}
