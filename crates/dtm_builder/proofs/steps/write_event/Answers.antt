use Rattle.std.proofs.Common.{List, [], ◌∷◌, ◌++◌, sym, subst}
use Rattle.doc_model.specs.declared.row.Row.{Row}
use Rattle.doc_model.specs.Rows.{rows_of}
use Rattle.pyx_events.specs.declared.event.Event.{Event}
use Rattle.pyx_events.specs.Nodes.{event_rows}
use Rattle.pyx_events.specs.Steps.{step_of}
use Rattle.node_writer.specs.Known.{AreKnown, names_in}
use Rattle.node_writer.specs.Taken.{HasRoom}
use Rattle.dtm_builder.specs.Standing.{CanFollow}
use Rattle.dtm_builder.proofs.Writing.{node_room}
use Rattle.dtm_builder.proofs.steps.write_event.Goals as goal

pub node-requires-clause-room : goal.node-requires-clause-room
node-requires-clause-room g c =
    let limits = g.C.GrowCells.limits c.args.c.now in
    let steps = (g.C.GrowCells.cells c.args.c.now).steps in
    subst (λ (all : List Row). HasRoom limits (rows_of steps ++ c.in-Node.row ∷ all)) (sym c.as_slice.ensures)
    (node_room limits steps [] c.in-Node.row c.in-Node.attributes (subst (λ (it : Event). CanFollow limits steps (step_of it ∷ [])) c.in-Node.is c.requires.follows))

pub node-requires-clause-known : goal.node-requires-clause-known
node-requires-clause-known g c =
    let names = names_in c.args.writer.now in
    subst (λ (all : List Row). AreKnown 0 names (c.in-Node.row ∷ all) c.args.known.now) (sym c.as_slice.ensures)
    (subst (λ (it : Event). AreKnown 0 names (event_rows it) c.args.known.now) c.in-Node.is c.requires.known)
