use Rattle.std.proofs.Common.{◌≡◌, take}
use Rattle.node_writer.specs.Filler.{RowsFilled}
use Rattle.node_writer.proofs.filler.Filler.attributes.Given as goal

-- the attributes before this one are filled, and nothing else has changed
abbrev pub invariant-loop-at : goal.invariant-loop-at
invariant-loop-at g l = record {
  filled : RowsFilled l.initial.self l.self (g.C.GrowCells.limits l.initial.c) (g.C.GrowCells.cells l.initial.c).columns (g.C.GrowCells.cells l.c).columns (take l.at l.attributes) l.links;
  steps : (g.C.GrowCells.cells l.c).steps ≡ (g.C.GrowCells.cells l.initial.c).steps;
  limits : g.C.GrowCells.limits l.c ≡ g.C.GrowCells.limits l.initial.c;
  mark : g.C.GrowCells.mark l.c ≡ g.C.GrowCells.mark l.initial.c;
}
