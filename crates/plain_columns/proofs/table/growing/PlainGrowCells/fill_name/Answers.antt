use Rattle.std.proofs.Common.{◌≡◌, ◌∙◌, ◌+◌, [], ◌∷◌, length, get_or, sym, ap, ap₂, subst, arith, length-append}
use Rattle.std.proofs.lemmas.List.{get_or_push}
use Rattle.doc_model.specs.Cells.{no_name, with_name}
use Rattle.doc_model.specs.Document.{document_of}
use Rattle.doc_model.specs.Legal.{NameFits, IsFresh}
use Rattle.plain_columns.specs.Value.{Table}
use Rattle.plain_columns.specs.Table.{columns_of}
use Rattle.plain_columns.specs.Spelled.{WordsHold, Placed, FewSteps}
use Rattle.plain_columns.proofs.Grown.{steps_same, more_name}
use Rattle.plain_columns.proofs.Fill.{spelled_fuller, placed_fuller, distinct_name}
use Rattle.plain_columns.proofs.table.growing.PlainGrowCells.fill_name.Goals as goal

pub invariant_of-self : goal.invariant_of-self
invariant_of-self c =
    let p = c.self.inside in
    let h = c.self.invariant in
    let e = c.in-Ok.ensures.items in
    let f = more_name (columns_of p) c.args.name.now c.push.new.self.items e in
    let s = steps_same _ _ f p.log.items p.verdict h.spelled in
    let limits = ap (λ (t : Table). t.limits.names) c.self.view_is in
    let names = ap (λ (t : Table). length t.cells.columns.names) c.self.view_is in
    let prefixes = ap (λ (t : Table). length t.cells.columns.prefixes) c.self.view_is in
    let len : length c.push.new.self.items ≡ length p.names.items + 1 = ap length e ∙ length-append p.names.items (c.args.name.now ∷ []) in
    let fits : NameFits (columns_of p) c.args.name.now = subst (λ (t : Table). NameFits t.cells.columns c.args.name.now) (sym c.self.view_is) c.requires.fits in
    let fresh : IsFresh (columns_of p) c.args.name.now = subst (λ (t : Table). IsFresh t.cells.columns c.args.name.now) (sym c.self.view_is) c.requires.fresh in
    record {
      spelled = spelled_fuller _ _ f p.log.items h.spelled
          (λ k l m. subst (λ q. NameFits (record (columns_of p) { names = c.push.new.self.items }) q)
          (sym (ap (λ xs. get_or xs k no_name) e ∙ get_or_push p.names.items c.args.name.now no_name k (omega (arith, len)))) (record { uri = fits.uri; local = fits.local }))
          (λ k l m. absurd (omega arith)) (λ k l m. absurd (omega arith)) (distinct_name _ _ f p.log.items c.args.name.now h.spelled fits fresh e);
      words = subst (λ xs. WordsHold xs p.first.items p.next.items p.extent.items p.verdict) (sym s) h.words;
      placed = subst (λ xs. Placed (record (columns_of p) { names = c.push.new.self.items }) xs p.joined) (sym s) (placed_fuller _ _ f p.log.items _ p.joined h.spelled h.placed);
      few = subst (λ xs. FewSteps (document_of xs) (length p.log.items)) (sym s) h.few;
      texts = h.texts;
      places = h.places;
      names = record {
        within = omega (arith, len, limits, names, prefixes, c.requires.room, h.names.types_stand, h.names.prefix_stands, h.names.within);
        types_stand = omega (arith, len, h.names.types_stand);
        prefix_stands = h.names.prefix_stands;
        names_taken = omega (arith, h.names.names_taken, c.in-Ok.ensures.capacity);
        prefixes_taken = h.names.prefixes_taken;
      };
      has_words = h.has_words;
      log = h.log;
      small = h.small;
    }

pub returns-clause-cells : goal.returns-clause-cells
returns-clause-cells c =
    let p = c.self.inside in
    let h = c.self.invariant in
    let f = more_name (columns_of p) c.args.name.now c.push.new.self.items c.in-Ok.ensures.items in
    let s = steps_same _ _ f p.log.items p.verdict h.spelled in
    ap₂ (λ t xs. record { columns = record (columns_of p) { names = t }; steps = xs }) c.in-Ok.ensures.items s
    ∙ ap (λ (t : Table). with_name t.cells c.args.name.now) c.self.view_is
