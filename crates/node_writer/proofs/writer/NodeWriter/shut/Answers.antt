use Rattle.std.proofs.Common.{sym, subst}
use Rattle.doc_model.specs.declared.limits.Limits.{Limits}
use Rattle.doc_model.specs.Cells.{Cells}
use Rattle.node_writer.specs.declared.writer.NodeWriter.{NodeWriter}
use Rattle.node_writer.specs.Stands.{Stands}
use Rattle.node_writer.proofs.Shutting.{shut_fits, shut_still}
use Rattle.node_writer.proofs.writer.NodeWriter.shut.Goals as goal

pub shut-requires : goal.shut-requires
shut-requires g c = shut_fits c.args.self.now (g.C.GrowCells.limits c.args.c.now)
    (g.C.GrowCells.cells c.args.c.now) c.requires.stands c.requires.going c.requires.may c.pop.new.self c.in-Some.open c.in-Some.ensures

pub returns-clause-stands : goal.returns-clause-stands
returns-clause-stands g c =
    let limits = g.C.GrowCells.limits c.args.c.now in
    let later : NodeWriter = record { filler = c.args.self.now.filler; stack = c.pop.new.self } in
    let still = shut_still c.args.self.now limits (g.C.GrowCells.cells c.args.c.now) c.requires.stands c.requires.going c.requires.may c.pop.new.self c.in-Some.open c.in-Some.ensures in
    subst (λ (l : Limits). Stands later l (g.C.GrowCells.cells c.shut.new.self)) (sym c.shut.ensures.limits) (subst (λ (x : Cells). Stands later limits x) (sym c.shut.ensures.cells) still)
