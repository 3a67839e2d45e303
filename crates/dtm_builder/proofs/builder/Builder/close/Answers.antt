use Rattle.std.proofs.Common.{◌≡◌, Option, None, Some, false, refl}
use Rattle.dtm_builder.proofs.Standing.{going, end_ends, root_open}
use Rattle.dtm_builder.proofs.Flaws.{end_is_quiet}
use Rattle.dtm_builder.proofs.builder.Builder.close.Goals as goal

none_is : {X : Type 0} (o : Option X) → ((x : X) → o ≡ Some x → ⊥) → o ≡ None
none_is None h = refl
none_is (Some x) h = absurd (h x refl)

pub finish-requires-clause-going : goal.finish-requires-clause-going
finish-requires-clause-going g c =
    let limits = g.C.GrowCells.limits c.args.c.now in
    let cells = g.C.GrowCells.cells c.args.c.now in
    let it = c.requires (none_is c.args.self.now.refusal c.in_default.not-Some) in
    going c.args.self.now limits cells it.0 it.1

pub finish-requires-clause-may : goal.finish-requires-clause-may
finish-requires-clause-may g c =
    let limits = g.C.GrowCells.limits c.args.c.now in
    let cells = g.C.GrowCells.cells c.args.c.now in
    let it = c.requires (none_is c.args.self.now.refusal c.in_default.not-Some) in
    let s = it.1 in
    let quiet = end_is_quiet limits false it.0 s.flawless (c.in-Ok.ensures.good limits cells it.0 s) in
    root_open c.args.self.now limits cells it.0 s quiet.0 quiet.1

pub refuse-requires : goal.refuse-requires
refuse-requires g c =
    let limits = g.C.GrowCells.limits c.args.c.now in
    let cells = g.C.GrowCells.cells c.args.c.now in
    let it = c.requires (none_is c.args.self.now.refusal c.in_default.not-Some) in
    let s = it.1 in
    end_ends limits it.0 cells.steps c.in-Err.error it.2 (going c.args.self.now limits cells it.0 s) (c.in-Err.ensures.flaw limits cells it.0 s)
