use Rattle.std.proofs.Common.{ap, ◌∙◌, refl, arith, Err}
use Rattle.node_writer.proofs.Numbering.{new_prefix_fits, kept_prefix, is_new_prefix, new_prefix_filled}
use Rattle.node_writer.proofs.Places.{words_few}
use Rattle.node_writer.proofs.filler.Filler.prefix.Goals as goal

pub unreachable-requires : goal.unreachable-requires
unreachable-requires g c =
    let full = c.prefix.ensures.full.0 (c.in-Err-Full.is ∙ ap (λ e. Err e) c.in-Err-Full.field-0-is) in
    let fits = new_prefix_fits _ _ _ c.requires.stands c.args.prefix.now c.requires.fits (full.0) in
    omega (arith, full.1, fits.names, c.requires.stands.limit)

pub returns-then-id-self-clause-ok : goal.returns-then-id-self-clause-ok
returns-then-id-self-clause-ok g c = (kept_prefix _ _ _ c.requires.stands c.args.prefix.now c.prefix.new.self c.in-Ok.id c.in-Ok.ensures.ok c.if-id-self.true).0

pub returns-then-id-self-clause-number : goal.returns-then-id-self-clause-number
returns-then-id-self-clause-number g c = (kept_prefix _ _ _ c.requires.stands c.args.prefix.now c.prefix.new.self c.in-Ok.id c.in-Ok.ensures.ok c.if-id-self.true).1

pub new_prefix-requires-clause-room : goal.new_prefix-requires-clause-room
new_prefix-requires-clause-room g c =
    let new = is_new_prefix _ _ _ c.requires.stands c.args.prefix.now c.prefix.new.self c.in-Ok.id c.in-Ok.ensures.ok c.if-id-self.false in
    (new_prefix_fits _ _ _ c.requires.stands c.args.prefix.now c.requires.fits (new.0)).room

pub new_prefix-requires-clause-counted : goal.new_prefix-requires-clause-counted
new_prefix-requires-clause-counted g c =
    let new = is_new_prefix _ _ _ c.requires.stands c.args.prefix.now c.prefix.new.self c.in-Ok.id c.in-Ok.ensures.ok c.if-id-self.false in
    (new_prefix_fits _ _ _ c.requires.stands c.args.prefix.now c.requires.fits (new.0)).counted

pub new_prefix-requires-clause-words : goal.new_prefix-requires-clause-words
new_prefix-requires-clause-words g c = words_few _ c.requires.stands.small c.requires.stands.rows_small c.requires.stands.few

pub returns-clause-ok : goal.returns-clause-ok
returns-clause-ok g c =
    let new = is_new_prefix _ _ _ c.requires.stands c.args.prefix.now c.prefix.new.self c.in-Ok.id c.in-Ok.ensures.ok c.if-id-self.false in
    (new_prefix_filled _ _ _ c.requires.stands c.args.prefix.now c.prefix.new.self c.new_prefix.new.self (g.C.GrowCells.cells c.args.c.now)
    (g.C.GrowCells.cells c.new_prefix.new.c) refl (new.0) (new.1) c.new_prefix.ensures.filler c.new_prefix.ensures.cells).0
