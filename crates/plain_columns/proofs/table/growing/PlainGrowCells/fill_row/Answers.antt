use Rattle.std.proofs.Common.{◌≡◌, ◌∙◌, ◌+◌, [], ◌∷◌, length, get_or, sym, ap, ap₂, subst, refl, arith, length-append}
use Rattle.std.proofs.lemmas.List.{get_or_push}
use Rattle.doc_model.specs.Cells.{root_place, with_row}
use Rattle.doc_model.specs.Document.{document_of}
use Rattle.doc_model.specs.Legal.{RowFits}
use Rattle.plain_columns.specs.Value.{Table}
use Rattle.plain_columns.specs.Table.{columns_of}
use Rattle.plain_columns.specs.Spelled.{WordsHold, Placed, FewSteps}
use Rattle.plain_columns.proofs.Grown.{steps_same, more_row}
use Rattle.plain_columns.proofs.Fill.{spelled_fuller, distinct_fuller, placed_fuller, words_more}
use Rattle.plain_columns.proofs.table.growing.PlainGrowCells.fill_row.Goals as goal

pub invariant_of-self : goal.invariant_of-self
invariant_of-self c =
    let p = c.self.inside in
    let h = c.self.invariant in
    let e = c.push_row.ensures.items in
    let f = more_row (columns_of p) c.args.row.now c.push_row.new.places.items e in
    let s = steps_same _ _ f p.log.items p.verdict h.spelled in
    let fits : RowFits (columns_of p) c.args.row.now = subst (λ (t : Table). RowFits t.cells.columns c.args.row.now) (sym c.self.view_is) c.requires.fits in
    let limits = ap (λ (t : Table). t.limits.rows) c.self.view_is in
    let places = ap (λ (t : Table). length t.cells.columns.places) c.self.view_is in
    let len : length c.push_row.new.places.items ≡ length p.places.items + 1 = ap length e ∙ length-append p.places.items (c.args.row.now ∷ []) in
    let a = c.push_unset.ensures.items in
    let b = c.push_unset-2.ensures.items in
    let d = c.push_unset-3.ensures.items in
    let ws = words_more _ _ _ _ _ h.words in
    record {
      spelled = spelled_fuller _ _ f p.log.items h.spelled (λ k l m. absurd (omega arith)) (λ k l m. absurd (omega arith))
          (λ k l m. subst (λ q. RowFits (columns_of p) q) (sym (ap (λ xs. get_or xs k root_place) e ∙ get_or_push p.places.items c.args.row.now root_place k (omega arith))) fits)
          (distinct_fuller _ _ f p.log.items h.spelled refl);
      words = subst (λ xs. WordsHold xs c.push_unset.new.words.items c.push_unset-2.new.words.items c.push_unset-3.new.words.items p.verdict) (sym s) (rw (a, b, d) ws);
      placed = subst (λ xs. Placed (record (columns_of p) { places = c.push_row.new.places.items }) xs p.joined) (sym s) (placed_fuller _ _ f p.log.items _ p.joined h.spelled h.placed);
      few = subst (λ xs. FewSteps (document_of xs) (length p.log.items)) (sym s) h.few;
      texts = h.texts;
      places = record { within = omega (arith, len, c.requires.room, limits, places); taken = omega (arith, h.places.taken, c.push_row.ensures.capacity) };
      names = h.names;
      has_words = record {
        firsts = omega (arith, ap length a, length-append p.first.items (0 ∷ []), h.has_words.firsts, len);
        nexts = omega (arith, ap length b, length-append p.next.items (0 ∷ []), h.has_words.nexts, len);
        extents = omega (arith, ap length d, length-append p.extent.items (0 ∷ []), h.has_words.extents, len);
        firsts_taken = omega (arith, h.has_words.firsts_taken, c.push_unset.ensures.capacity);
        nexts_taken = omega (arith, h.has_words.nexts_taken, c.push_unset-2.ensures.capacity);
        extents_taken = omega (arith, h.has_words.extents_taken, c.push_unset-3.ensures.capacity);
      };
      log = h.log;
      small = h.small;
    }

pub returns-clause-cells : goal.returns-clause-cells
returns-clause-cells c =
    let p = c.self.inside in
    let h = c.self.invariant in
    let f = more_row (columns_of p) c.args.row.now c.push_row.new.places.items c.push_row.ensures.items in
    let s = steps_same _ _ f p.log.items p.verdict h.spelled in
    ap₂ (λ t xs. record { columns = record (columns_of p) { places = t }; steps = xs }) c.push_row.ensures.items s
    ∙ ap (λ (t : Table). with_row t.cells c.args.row.now) c.self.view_is
