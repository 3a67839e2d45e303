use Rattle.std.proofs.Common.{◌∙◌, ℕ, List, ap, length, subst, arith}
use Rattle.doc_model.specs.declared.limits.Limits.{Limits}
use Rattle.node_writer.specs.declared.filler.Filler.{Filler}
use Rattle.node_writer.specs.Filler.{PrefixFilled, IsPrefixOf}
use Rattle.node_writer.proofs.Filling.{row_filled}
use Rattle.node_writer.proofs.filler.Filler.row.Goals as goal

pub overflow_add-self : goal.overflow_add-self
overflow_add-self g c =
    let places = ap length (c.in_ok-prefix_id.ensures.fills.places ∙ c.in_ok-type_id.ensures.fills.places) in
    let same = ap (λ (f : Filler). f.rows) c.text-text_at.ensures.filler in
    omega (arith, places, same, c.in_ok-prefix_id.ensures.ok.stands.rows, c.requires.stands.rows, c.requires.fits.rows, c.requires.stands.rows_small)

pub returns-clause-ok : goal.returns-clause-ok
returns-clause-ok g c =
    let limits = g.C.GrowCells.limits c.args.c.now in
    let columns = (g.C.GrowCells.cells c.prefix.new.c).columns in
    let filled : PrefixFilled c.type_of.new.self c.prefix.new.self limits columns c.args.row.now.prefix =
    subst (λ (p : List ℕ). PrefixFilled c.type_of.new.self c.prefix.new.self limits columns p) c.as_slice.ensures
    (subst (λ (l : Limits). PrefixFilled c.type_of.new.self c.prefix.new.self l columns c.as_slice.result.now) c.in_ok-type_id.ensures.limits c.in_ok-prefix_id.ensures.ok) in
    let numbered : IsPrefixOf columns c.in_ok-prefix_id.prefix_id c.args.row.now.prefix =
    subst (λ (p : List ℕ). IsPrefixOf columns c.in_ok-prefix_id.prefix_id p) c.as_slice.ensures c.in_ok-prefix_id.ensures.number in
    row_filled limits c.args.row.now c.args.links c.args.self.now c.type_of.new.self c.prefix.new.self c.text-text_at.new.self
    (g.C.GrowCells.cells c.args.c.now) (g.C.GrowCells.cells c.type_of.new.c) (g.C.GrowCells.cells c.prefix.new.c) (g.C.GrowCells.cells c.text-text_at.new.c) (g.C.GrowCells.cells c.fill_row.new.self)
    c.in_ok-type_id.type_id c.in_ok-prefix_id.prefix_id c.text-text_at.result
    c.in_ok-type_id.ensures.ok c.in_ok-type_id.ensures.number c.in_ok-type_id.ensures.fills filled numbered c.in_ok-prefix_id.ensures.fills
    c.text-text_at.ensures.at (cc c.text-text_at.ensures.filler) (cc c.text-text_at.ensures.cells) (cc c.fill_row.ensures.cells)
