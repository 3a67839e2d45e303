use Rattle.std.proofs.Common.{◌≡◌, ◌++◌, take, drop}
use Rattle.pyx_events.specs.Steps.{steps_of_events}
use Rattle.node_writer.specs.Known.{AreKnown, names_in}
use Rattle.node_writer.specs.Stands as writing
use Rattle.dtm_builder.specs.Recalled.{first_rows}
use Rattle.dtm_builder.specs.Standing.{CanFollow}
use Rattle.dtm_builder.proofs.steps.write_events.Given as goal

-- the events before this one are written, and those that are left may follow
abbrev pub invariant-loop-at : goal.invariant-loop-at
invariant-loop-at g l = record {
  stands : writing.Stands l.writer (g.C.GrowCells.limits l.c) (g.C.GrowCells.cells l.c);
  steps : (g.C.GrowCells.cells l.c).steps ≡ (g.C.GrowCells.cells l.initial.c).steps ++ steps_of_events (take l.at l.events);
  left : CanFollow (g.C.GrowCells.limits l.c) (g.C.GrowCells.cells l.c).steps (steps_of_events (drop l.at l.events));
  known : l.at ≡ 0 → AreKnown 0 (names_in l.writer) (first_rows l.events) l.known;
  limits : g.C.GrowCells.limits l.c ≡ g.C.GrowCells.limits l.initial.c;
  mark : g.C.GrowCells.mark l.c ≡ g.C.GrowCells.mark l.initial.c;
}
