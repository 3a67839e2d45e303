use Rattle.std.proofs.Common.{◌∙◌, List, [], ◌∷◌, refl, ap, sym, subst}
use Rattle.std.proofs.lemmas.List.{take_all}
use Rattle.doc_model.specs.declared.limits.Limits.{Limits}
use Rattle.doc_model.specs.declared.row.Row.{Row}
use Rattle.doc_model.specs.Cells.{Columns}
use Rattle.doc_model.specs.Document.{document_of}
use Rattle.node_writer.specs.Filler.{FillerStands, RowsFit, RowsFilled}
use Rattle.node_writer.proofs.Filling.{none_filled}
use Rattle.node_writer.proofs.Attributes.{attribute_links, item_given, item_fits, item_links, item_filled}
use Rattle.node_writer.proofs.Knowing.{known_item}
use Rattle.node_writer.proofs.filler.Filler.attributes.Goals as goal

pub loop-at-init : goal.loop-at-init
loop-at-init g c = record {
  filled = none_filled c.args.self.now (g.C.GrowCells.limits c.args.c.now) (g.C.GrowCells.cells c.args.c.now).columns (attribute_links c.args.n) c.requires.stands;
  steps = refl;
  limits = refl;
  mark = refl;
}

pub row-requires : goal.row-requires
row-requires g c =
    let limits = g.C.GrowCells.limits c.args.c.now in
    let before : Columns = (g.C.GrowCells.cells c.args.c.now).columns in
    let now : Columns = (g.C.GrowCells.cells c.loop-at.c).columns in
    let filled = c.loop-at.invariant.filled in
    let within = c.loop-at-test.true in
    let same = sym c.loop-at.invariant.limits in
    record {
      going = ap (λ steps. (document_of steps).ended) c.loop-at.invariant.steps ∙ c.requires.going;
      stands = subst (λ (l : Limits). FillerStands c.loop-at.self l now) same filled.stands;
      given = item_given c.args.self.now c.loop-at.self limits before now c.args.attributes.now c.loop-at.at c.args.n c.index-attributes-at.result within c.index-attributes-at.is _ c.requires.carried;
      fits = subst (λ (l : Limits). RowsFit c.loop-at.self l (c.index-attributes-at.result ∷ [])) same
          (item_fits c.args.self.now c.loop-at.self limits before now c.args.attributes.now c.loop-at.at c.args.n c.index-attributes-at.result within c.index-attributes-at.is c.requires.stands c.requires.fits filled);
      known = known_item c.args.self.now.pool.names c.loop-at.self.pool.names c.args.attributes.now c.args.known.now c.loop-at.at c.index-attributes-at.result within c.index-attributes-at.is
          filled.names c.requires.known _ c.known_at.ensures;
      links = item_links c.args.self.now c.loop-at.self limits before now c.args.attributes.now c.loop-at.at c.args.n c.index-attributes-at.result within c.index-attributes-at.is c.requires.parent c.requires.carried filled;
    }

pub loop-at-preserved : goal.loop-at-preserved
loop-at-preserved g c =
    let limits = g.C.GrowCells.limits c.args.c.now in
    let before : Columns = (g.C.GrowCells.cells c.args.c.now).columns in
    let now : Columns = (g.C.GrowCells.cells c.loop-at.c).columns in
    let later : Columns = (g.C.GrowCells.cells c.row.new.c).columns in
    record {
      filled = item_filled c.args.self.now c.loop-at.self limits before now c.args.attributes.now c.loop-at.at c.args.n c.index-attributes-at.result c.loop-at-test.true c.index-attributes-at.is
          c.row.new.self later c.loop-at.invariant.filled
          (subst (λ (l : Limits). RowsFilled c.loop-at.self c.row.new.self l now later (c.index-attributes-at.result ∷ [])
          (attribute_links c.args.n)) c.loop-at.invariant.limits c.in_ok-row.ensures.ok);
      steps = c.row.ensures.steps ∙ c.loop-at.invariant.steps;
      limits = c.row.ensures.limits ∙ c.loop-at.invariant.limits;
      mark = c.row.ensures.mark ∙ c.loop-at.invariant.mark;
    }

pub returns-clause-ok : goal.returns-clause-ok
returns-clause-ok g c =
    subst (λ (ys : List Row). RowsFilled c.args.self.now c.loop-at.self (g.C.GrowCells.limits c.args.c.now) (g.C.GrowCells.cells c.args.c.now).columns
    (g.C.GrowCells.cells c.loop-at.c).columns ys (attribute_links c.args.n))
    (take_all _ _ c.loop-at-test.false) c.loop-at.invariant.filled
