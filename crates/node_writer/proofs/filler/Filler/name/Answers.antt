use Rattle.std.proofs.Common.{ap, ◌∙◌, refl, arith, Err}
use Rattle.name_pool.specs.Names.{Name}
use Rattle.node_writer.proofs.Numbering.{new_name_fits, kept_name, is_new_name, new_is_fresh, new_name_filled}
use Rattle.node_writer.proofs.Places.{words_few}
use Rattle.node_writer.proofs.filler.Filler.name.Goals as goal

pub unreachable-requires : goal.unreachable-requires
unreachable-requires g c =
    let name : Name = record { kind = c.args.kind; uri = c.args.uri.now; local = c.args.local.now } in
    let full = c.intern.ensures.full.0 (c.in-Err-Full.is ∙ ap (λ e. Err e) c.in-Err-Full.field-0-is) in
    let fits = new_name_fits _ _ _ c.requires.stands name c.requires.fits (full.0) in
    omega (arith, full.1, fits.names, c.requires.stands.limit)

pub returns-then-id-self-clause-ok : goal.returns-then-id-self-clause-ok
returns-then-id-self-clause-ok g c =
    let name : Name = record { kind = c.args.kind; uri = c.args.uri.now; local = c.args.local.now } in
    (kept_name _ _ _ c.requires.stands name c.intern.new.self c.in-Ok.id c.in-Ok.ensures.ok c.if-id-self.true).0

pub returns-then-id-self-clause-number : goal.returns-then-id-self-clause-number
returns-then-id-self-clause-number g c =
    let name : Name = record { kind = c.args.kind; uri = c.args.uri.now; local = c.args.local.now } in
    (kept_name _ _ _ c.requires.stands name c.intern.new.self c.in-Ok.id c.in-Ok.ensures.ok c.if-id-self.true).1

pub new_name-requires-clause-room : goal.new_name-requires-clause-room
new_name-requires-clause-room g c =
    let name : Name = record { kind = c.args.kind; uri = c.args.uri.now; local = c.args.local.now } in
    let new = is_new_name _ _ _ c.requires.stands name c.intern.new.self c.in-Ok.id c.in-Ok.ensures.ok c.if-id-self.false in
    (new_name_fits _ _ _ c.requires.stands name c.requires.fits (new.0)).room

pub new_name-requires-clause-counted : goal.new_name-requires-clause-counted
new_name-requires-clause-counted g c =
    let name : Name = record { kind = c.args.kind; uri = c.args.uri.now; local = c.args.local.now } in
    let new = is_new_name _ _ _ c.requires.stands name c.intern.new.self c.in-Ok.id c.in-Ok.ensures.ok c.if-id-self.false in
    (new_name_fits _ _ _ c.requires.stands name c.requires.fits (new.0)).counted

pub new_name-requires-clause-words : goal.new_name-requires-clause-words
new_name-requires-clause-words g c = words_few _ c.requires.stands.small c.requires.stands.rows_small c.requires.stands.few

pub new_name-requires-clause-fresh : goal.new_name-requires-clause-fresh
new_name-requires-clause-fresh g c =
    let name : Name = record { kind = c.args.kind; uri = c.args.uri.now; local = c.args.local.now } in
    let new = is_new_name _ _ _ c.requires.stands name c.intern.new.self c.in-Ok.id c.in-Ok.ensures.ok c.if-id-self.false in
    new_is_fresh _ _ _ c.requires.stands name (new.0) c.requires.named

pub returns-clause-ok : goal.returns-clause-ok
returns-clause-ok g c =
    let name : Name = record { kind = c.args.kind; uri = c.args.uri.now; local = c.args.local.now } in
    let new = is_new_name _ _ _ c.requires.stands name c.intern.new.self c.in-Ok.id c.in-Ok.ensures.ok c.if-id-self.false in
    new_name_filled _ _ _ c.requires.stands name c.intern.new.self c.new_name.new.self (g.C.GrowCells.cells c.args.c.now) (g.C.GrowCells.cells c.new_name.new.c) refl (new.0)
    (new.1) c.new_name.ensures.filler c.new_name.ensures.cells
