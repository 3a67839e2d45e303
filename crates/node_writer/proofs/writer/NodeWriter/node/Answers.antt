use Rattle.std.proofs.Common.{ℕ, Option, ◌≡◌, ◌∙◌, ◌++◌, ◌∷◌, ap, ap₂, sym, length, subst, [], refl}
use Rattle.doc_model.specs.declared.limits.Limits.{Limits}
use Rattle.doc_model.specs.declared.step.Step.{Step}
use Rattle.doc_model.specs.declared.step.Step.TheVariants.{Node}
use Rattle.doc_model.specs.Cells.{Cells, Columns}
use Rattle.doc_model.specs.Document.{document_of}
use Rattle.doc_model.specs.Legal.{how_of}
use Rattle.node_writer.specs.declared.filler.Links.{Links}
use Rattle.node_writer.specs.declared.open_row.OpenRow.{OpenRow}
use Rattle.node_writer.specs.Filler.{FillerStands, LinksFit, RowsFit, RowsFilled}
use Rattle.node_writer.specs.Known.{IsKnown}
use Rattle.node_writer.specs.Stands.{Stands}
use Rattle.node_writer.proofs.Attributes.{attribute_links}
use Rattle.node_writer.proofs.Knowing.{known_first, known_rest_still}
use Rattle.node_writer.proofs.Shutting.{stack_some}
use Rattle.node_writer.proofs.Joining.{row_is_given, row_fits, links_fit, row_is_there, attributes_carried, attributes_fit, node_here, join_fits, joined_still}
use Rattle.node_writer.proofs.writer.NodeWriter.node.Goals as goal

pub innermost-around-requires : goal.innermost-around-requires
innermost-around-requires g c = stack_some c.args.self.now (g.C.GrowCells.limits c.args.c.now) (g.C.GrowCells.cells c.args.c.now) c.requires.stands c.requires.going

pub row-requires : goal.row-requires
row-requires g c =
    let w = c.args.self.now in
    let limits = g.C.GrowCells.limits c.args.c.now in
    let cells = g.C.GrowCells.cells c.args.c.now in
    let links : OpenRow → Links = λ o. record { parent = o.row; prev = o.last; attributes = length c.args.attributes.now } in
    record {
      going = c.requires.going;
      stands = c.requires.stands.filler;
      given = row_is_given w limits cells c.args.row.now c.args.attributes.now c.requires.stands c.requires.going c.requires.may c.requires.room;
      fits = row_fits w limits cells c.args.row.now c.args.attributes.now c.requires.stands c.requires.going c.requires.may c.requires.room;
      known = subst (λ (k : Option ℕ). IsKnown w.filler.pool.names c.args.row.now k) (sym c.known_at.ensures)
          (known_first w.filler.pool.names c.args.row.now c.args.attributes.now c.args.known.now c.requires.known);
      links = subst (λ (o : OpenRow). LinksFit cells.columns c.args.row.now (links o)) (sym c.innermost-around.ensures)
          (links_fit w limits cells c.args.row.now c.args.attributes.now c.requires.stands c.requires.going c.requires.may c.requires.room (length c.args.attributes.now) refl);
    }

pub attributes-requires : goal.attributes-requires
attributes-requires g c =
    let w = c.args.self.now in
    let limits = g.C.GrowCells.limits c.args.c.now in
    let cells = g.C.GrowCells.cells c.args.c.now in
    let columns : Columns = (g.C.GrowCells.cells c.row.new.c).columns in
    let same = sym c.row.ensures.limits in
    record {
      going = ap (λ steps. (document_of steps).ended) c.row.ensures.steps ∙ c.requires.going;
      stands = subst (λ (l : Limits). FillerStands c.row.new.self l columns) same c.in_ok-row.ensures.ok.stands;
      parent = row_is_there w limits cells c.args.row.now c.args.attributes.now c.requires.stands c.requires.going c.requires.may c.requires.room c.row.new.self columns _ c.in_ok-row.ensures.ok;
      known = known_rest_still w.filler.pool.names c.row.new.self.pool.names c.args.row.now c.args.attributes.now c.args.known.now c.in_ok-row.ensures.ok.names
          c.requires.known;
      carried = attributes_carried w limits cells c.args.row.now c.args.attributes.now c.requires.stands c.requires.going c.requires.may c.requires.room c.row.new.self columns _ c.in_ok-row.ensures.ok;
      fits = subst (λ (l : Limits). RowsFit c.row.new.self l c.args.attributes.now) same
          (attributes_fit w limits cells c.args.row.now c.args.attributes.now c.requires.stands c.requires.going c.requires.may c.requires.room c.row.new.self columns _ c.in_ok-row.ensures.ok);
    }

pub count_joined-requires : goal.count_joined-requires
count_joined-requires g c = stack_some c.args.self.now (g.C.GrowCells.limits c.args.c.now) (g.C.GrowCells.cells c.args.c.now) c.requires.stands c.requires.going

pub join-requires-2 : goal.join-requires-2
join-requires-2 g c =
    let w = c.args.self.now in
    let limits = g.C.GrowCells.limits c.args.c.now in
    let cells = g.C.GrowCells.cells c.args.c.now in
    let columns : Columns = (g.C.GrowCells.cells c.row.new.c).columns in
    let filled = g.C.GrowCells.cells c.attributes.new.c in
    let links : OpenRow → Links = λ o. record { parent = o.row; prev = o.last; attributes = length c.args.attributes.now } in
    let r2 : RowsFilled c.row.new.self c.attributes.new.self limits columns filled.columns c.args.attributes.now (attribute_links w.filler.rows) =
    subst (λ (l : Limits). RowsFilled c.row.new.self c.attributes.new.self l columns filled.columns c.args.attributes.now
    (attribute_links w.filler.rows)) c.row.ensures.limits c.in_ok-attributes.ensures.ok in
    join_fits w limits cells c.args.row.now c.args.attributes.now c.requires.stands c.requires.going c.requires.may c.requires.room c.row.new.self columns
    (links c.innermost-around.result) c.in_ok-row.ensures.ok
    (ap links c.innermost-around.ensures) c.attributes.new.self filled.columns r2 filled c.join.result refl (c.attributes.ensures.steps ∙ c.row.ensures.steps)
    (c.join.ensures ∙ ap (λ (o : OpenRow). how_of o.row o.last) c.innermost-around.ensures)

pub returns-clause-stands : goal.returns-clause-stands
returns-clause-stands g c =
    let w = c.args.self.now in
    let limits = g.C.GrowCells.limits c.args.c.now in
    let cells = g.C.GrowCells.cells c.args.c.now in
    let columns : Columns = (g.C.GrowCells.cells c.row.new.c).columns in
    let filled = g.C.GrowCells.cells c.attributes.new.c in
    let links : OpenRow → Links = λ o. record { parent = o.row; prev = o.last; attributes = length c.args.attributes.now } in
    let r2 : RowsFilled c.row.new.self c.attributes.new.self limits columns filled.columns c.args.attributes.now (attribute_links w.filler.rows) =
    subst (λ (l : Limits). RowsFilled c.row.new.self c.attributes.new.self l columns filled.columns c.args.attributes.now
    (attribute_links w.filler.rows)) c.row.ensures.limits c.in_ok-attributes.ensures.ok in
    let node = node_here w limits cells c.args.row.now c.args.attributes.now c.requires.stands c.requires.going c.requires.may c.requires.room c.row.new.self columns
    (links c.innermost-around.result) c.in_ok-row.ensures.ok
    (ap links c.innermost-around.ensures) c.attributes.new.self filled.columns r2 in
    let still = joined_still w limits cells c.args.row.now c.args.attributes.now c.requires.stands c.requires.going c.requires.may c.requires.room c.row.new.self columns
    (links c.innermost-around.result) c.in_ok-row.ensures.ok
    (ap links c.innermost-around.ensures) c.attributes.new.self filled.columns r2 in
    let made : Cells = record { columns = filled.columns; steps = cells.steps ++ Node c.args.row.now c.args.attributes.now ∷ [] } in
    let steps = c.attributes.ensures.steps ∙ c.row.ensures.steps in
    let same : made ≡ g.C.GrowCells.cells c.join-2.new.self =
    ap₂ (λ xs (x : Step). let r : Cells = record { columns = filled.columns; steps = xs ++ x ∷ [] } in r) (sym steps) (sym node) ∙ sym c.join-2.ensures.cells in
    let all = c.join-2.ensures.limits ∙ c.attributes.ensures.limits ∙ c.row.ensures.limits in
    subst (λ (x : Cells). Stands (record { filler = c.attributes.new.self; stack = c.count_joined.new.stack }) (g.C.GrowCells.limits c.join-2.new.self) x) same
    (subst (λ (l : Limits). Stands (record { filler = c.attributes.new.self; stack = c.count_joined.new.stack }) l made) (sym all)
    (subst (λ xs. Stands (record { filler = c.attributes.new.self; stack = xs }) limits made) (sym c.in_ok-count_joined.ensures) still))

pub returns-clause-steps : goal.returns-clause-steps
returns-clause-steps g c =
    let w = c.args.self.now in
    let limits = g.C.GrowCells.limits c.args.c.now in
    let cells = g.C.GrowCells.cells c.args.c.now in
    let columns : Columns = (g.C.GrowCells.cells c.row.new.c).columns in
    let filled = g.C.GrowCells.cells c.attributes.new.c in
    let links : OpenRow → Links = λ o. record { parent = o.row; prev = o.last; attributes = length c.args.attributes.now } in
    let r2 : RowsFilled c.row.new.self c.attributes.new.self limits columns filled.columns c.args.attributes.now (attribute_links w.filler.rows) =
    subst (λ (l : Limits). RowsFilled c.row.new.self c.attributes.new.self l columns filled.columns c.args.attributes.now
    (attribute_links w.filler.rows)) c.row.ensures.limits c.in_ok-attributes.ensures.ok in
    let node = node_here w limits cells c.args.row.now c.args.attributes.now c.requires.stands c.requires.going c.requires.may c.requires.room c.row.new.self columns
    (links c.innermost-around.result) c.in_ok-row.ensures.ok
    (ap links c.innermost-around.ensures) c.attributes.new.self filled.columns r2 in
    ap (λ (x : Cells). x.steps) c.join-2.ensures.cells ∙ ap₂ (λ xs (x : Step). xs ++ x ∷ []) (c.attributes.ensures.steps ∙ c.row.ensures.steps) node
