use Rattle.dtm_builder.proofs.Standing.{going}
use Rattle.dtm_builder.proofs.builder.Builder.stop.Goals as goal

pub finish-requires-clause-going : goal.finish-requires-clause-going
finish-requires-clause-going g c = going c.args.self.now (g.C.GrowCells.limits c.args.c.now) (g.C.GrowCells.cells c.args.c.now) c.requires.stands.0 c.requires.stands.1
