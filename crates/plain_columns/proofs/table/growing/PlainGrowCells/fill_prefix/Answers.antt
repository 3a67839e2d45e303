use Rattle.std.proofs.Common.{◌≡◌, ◌∙◌, ◌+◌, [], ◌∷◌, length, get_or, sym, ap, ap₂, subst, refl, arith, length-append}
use Rattle.std.proofs.lemmas.List.{get_or_push}
use Rattle.doc_model.specs.Cells.{no_prefix, with_prefix}
use Rattle.doc_model.specs.Document.{document_of}
use Rattle.doc_model.specs.Legal.{PrefixFits}
use Rattle.plain_columns.specs.Value.{Table}
use Rattle.plain_columns.specs.Table.{columns_of}
use Rattle.plain_columns.specs.Spelled.{WordsHold, Placed, FewSteps}
use Rattle.plain_columns.proofs.Grown.{steps_same, more_prefix}
use Rattle.plain_columns.proofs.Fill.{spelled_fuller, placed_fuller, distinct_fuller}
use Rattle.plain_columns.proofs.table.growing.PlainGrowCells.fill_prefix.Goals as goal

pub invariant_of-self : goal.invariant_of-self
invariant_of-self c =
    let p = c.self.inside in
    let h = c.self.invariant in
    let e = c.in-Ok.ensures.items in
    let f = more_prefix (columns_of p) (record { at = c.args.at; len = c.args.len }) c.push.new.self.items e in
    let s = steps_same _ _ f p.log.items p.verdict h.spelled in
    let limits = ap (λ (t : Table). t.limits.names) c.self.view_is in
    let names = ap (λ (t : Table). length t.cells.columns.names) c.self.view_is in
    let prefixes = ap (λ (t : Table). length t.cells.columns.prefixes) c.self.view_is in
    let len : length c.push.new.self.items ≡ length p.prefixes.items + 1 = ap length e ∙ length-append p.prefixes.items ((record { at = c.args.at; len = c.args.len }) ∷ []) in
    let fits : PrefixFits (columns_of p) (record { at = c.args.at; len = c.args.len }) =
    subst (λ (t : Table). PrefixFits t.cells.columns (record { at = c.args.at; len = c.args.len })) (sym c.self.view_is) c.requires.fits in
    record {
      spelled = spelled_fuller _ _ f p.log.items h.spelled
          (λ k l m. absurd (omega arith))
          (λ k l m. subst (λ q. PrefixFits (columns_of p) q)
          (sym (ap (λ xs. get_or xs k no_prefix) e ∙ get_or_push p.prefixes.items (record { at = c.args.at; len = c.args.len }) no_prefix k (omega (arith, len)))) fits)
          (λ k l m. absurd (omega arith)) (distinct_fuller _ _ f p.log.items h.spelled refl);
      words = subst (λ xs. WordsHold xs p.first.items p.next.items p.extent.items p.verdict) (sym s) h.words;
      placed = subst (λ xs. Placed (record (columns_of p) { prefixes = c.push.new.self.items }) xs p.joined) (sym s) (placed_fuller _ _ f p.log.items _ p.joined h.spelled h.placed);
      few = subst (λ xs. FewSteps (document_of xs) (length p.log.items)) (sym s) h.few;
      texts = h.texts;
      places = h.places;
      names = record {
        within = omega (arith, len, limits, names, prefixes, c.requires.room, h.names.types_stand, h.names.prefix_stands, h.names.within);
        types_stand = h.names.types_stand;
        prefix_stands = omega (arith, len, h.names.prefix_stands);
        names_taken = h.names.names_taken;
        prefixes_taken = omega (arith, h.names.prefixes_taken, c.in-Ok.ensures.capacity);
      };
      has_words = h.has_words;
      log = h.log;
      small = h.small;
    }

pub returns-clause-cells : goal.returns-clause-cells
returns-clause-cells c =
    let p = c.self.inside in
    let h = c.self.invariant in
    let f = more_prefix (columns_of p) (record { at = c.args.at; len = c.args.len }) c.push.new.self.items c.in-Ok.ensures.items in
    let s = steps_same _ _ f p.log.items p.verdict h.spelled in
    ap₂ (λ t xs. record { columns = record (columns_of p) { prefixes = t }; steps = xs }) c.in-Ok.ensures.items s
    ∙ ap (λ (t : Table). with_prefix t.cells (record { at = c.args.at; len = c.args.len })) c.self.view_is
