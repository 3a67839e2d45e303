use Rattle.std.proofs.Common.{ℕ, Option, subst}
use Rattle.node_writer.specs.Known.{IsKnown}
use Rattle.node_writer.proofs.Knowing.{known_type}
use Rattle.node_writer.proofs.filler.Filler.type_of.Goals as goal

pub returns-in-Some-clause-ok : goal.returns-in-Some-clause-ok
returns-in-Some-clause-ok g c =
    (known_type c.args.self.now (g.C.GrowCells.limits c.args.c.now) (g.C.GrowCells.cells c.args.c.now).columns c.requires.stands c.args.row.now c.in-Some.id
    (subst (λ (known : Option ℕ). IsKnown c.args.self.now.pool.names c.args.row.now known) c.in-Some.is c.requires.known)).0

pub returns-in-Some-clause-number : goal.returns-in-Some-clause-number
returns-in-Some-clause-number g c =
    (known_type c.args.self.now (g.C.GrowCells.limits c.args.c.now) (g.C.GrowCells.cells c.args.c.now).columns c.requires.stands c.args.row.now c.in-Some.id
    (subst (λ (known : Option ℕ). IsKnown c.args.self.now.pool.names c.args.row.now known) c.in-Some.is c.requires.known)).1
