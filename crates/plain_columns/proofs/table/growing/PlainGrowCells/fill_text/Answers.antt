use Rattle.std.proofs.Common.{◌≡◌, ◌∙◌, ◌-◌, ◌≤◌, ◌*◌, ◌++◌, length, replicate, sym, ap, ap₂, subst, refl, arith}
use Rattle.doc_model.specs.Cells.{padded, text_place, text_words, with_text}
use Rattle.doc_model.specs.Document.{document_of}
use Rattle.plain_columns.specs.Value.{Table}
use Rattle.plain_columns.specs.Table.{columns_of}
use Rattle.plain_columns.specs.Spelled.{WordsHold, Placed, FewSteps}
use Rattle.plain_columns.proofs.Grown.{steps_same, more_placed}
use Rattle.plain_columns.proofs.Fill.{spelled_fuller, distinct_fuller, placed_fuller}
use Rattle.plain_columns.proofs.Gaps.{place_behind, place_near, place_within, padded-length, placed-length, room_left}
use Rattle.plain_columns.proofs.table.growing.PlainGrowCells.fill_text.Goals as goal
use Rattle.plain_columns.proofs.table.growing.PlainGrowCells.fill_text.Goals.{After-push_bytes}

pub fill_gap-requires : goal.fill_gap-requires
fill_gap-requires c =
    let texts = c.self.inside.texts in
    let h = c.self.invariant in
    let at : c.args.at ≡ text_place (length texts.items) = c.requires.place ∙ ap (λ (t : Table). text_place (length t.cells.columns.texts)) (sym c.self.view_is) in
    record {
      behind = omega (arith, at, texts.ok.0, place_behind (length texts.items));
      near = omega (arith, at, texts.ok.0, place_near (length texts.items));
      taken = omega (arith, at, place_within (length texts.items) (text_words c.self.inside.limits) h.texts.within, h.texts.taken);
    }

pub push_bytes-requires : goal.push_bytes-requires
push_bytes-requires c =
    let p = c.self.inside in
    let h = c.self.invariant in
    let at : c.args.at ≡ text_place (length p.texts.items) = c.requires.place ∙ ap (λ (t : Table). text_place (length t.cells.columns.texts)) (sym c.self.view_is) in
    let gap : c.fill_gap.new.texts.items ≡ padded p.texts.items = c.fill_gap.ensures.items ∙ ap (λ n. p.texts.items ++ replicate (n - length p.texts.items) 0) at in
    let room : length c.args.bytes.now ≤ 7 * text_words p.limits - text_place (length p.texts.items) =
    subst (λ (t : Table). length c.args.bytes.now ≤ 7 * text_words t.limits - text_place (length t.cells.columns.texts)) (sym c.self.view_is) c.requires.room in
    omega (arith, ap length gap, padded-length p.texts.items, c.fill_gap.new.texts.ok.0, room_left _ _ _ h.texts.within room, h.texts.taken, c.fill_gap.ensures.capacity)

-- the texts with the new one behind the gap
filled : (c : After-push_bytes) → c.push_bytes.new.texts.items ≡ padded c.self.inside.texts.items ++ c.args.bytes.now
filled c =
    let texts = c.self.inside.texts in
    let at : c.args.at ≡ text_place (length texts.items) = c.requires.place ∙ ap (λ (t : Table). text_place (length t.cells.columns.texts)) (sym c.self.view_is) in
    c.push_bytes.ensures.items ∙ ap (λ xs. xs ++ c.args.bytes.now) (c.fill_gap.ensures.items ∙ ap (λ n. texts.items ++ replicate (n - length texts.items) 0) at)

pub invariant_of-self : goal.invariant_of-self
invariant_of-self c =
    let p = c.self.inside in
    let h = c.self.invariant in
    let e = filled c in
    let f = more_placed (columns_of p) c.args.bytes.now c.push_bytes.new.texts.items e in
    let s = steps_same _ _ f p.log.items p.verdict h.spelled in
    let room : length c.args.bytes.now ≤ 7 * text_words p.limits - text_place (length p.texts.items) =
    subst (λ (t : Table). length c.args.bytes.now ≤ 7 * text_words t.limits - text_place (length t.cells.columns.texts)) (sym c.self.view_is) c.requires.room in
    record {
      spelled = spelled_fuller _ _ f p.log.items h.spelled (λ k l m. absurd (omega arith)) (λ k l m. absurd (omega arith)) (λ k l m. absurd (omega arith))
          (distinct_fuller _ _ f p.log.items h.spelled refl);
      words = subst (λ xs. WordsHold xs p.first.items p.next.items p.extent.items p.verdict) (sym s) h.words;
      placed = subst (λ xs. Placed (record (columns_of p) { texts = c.push_bytes.new.texts.items }) xs p.joined) (sym s) (placed_fuller _ _ f p.log.items _ p.joined h.spelled h.placed);
      few = subst (λ xs. FewSteps (document_of xs) (length p.log.items)) (sym s) h.few;
      texts = record {
        within = omega (arith, ap length e, placed-length p.texts.items c.args.bytes.now, room_left _ _ _ h.texts.within room);
        taken = omega (arith, h.texts.taken, c.fill_gap.ensures.capacity, c.push_bytes.ensures.capacity);
      };
      places = h.places;
      names = h.names;
      has_words = h.has_words;
      log = h.log;
      small = h.small;
    }

pub returns-clause-cells : goal.returns-clause-cells
returns-clause-cells c =
    let p = c.self.inside in
    let h = c.self.invariant in
    let e = filled c in
    let f = more_placed (columns_of p) c.args.bytes.now c.push_bytes.new.texts.items e in
    let s = steps_same _ _ f p.log.items p.verdict h.spelled in
    ap₂ (λ t xs. record { columns = record (columns_of p) { texts = t }; steps = xs }) e s
    ∙ ap (λ (t : Table). with_text t.cells c.args.bytes.now) c.self.view_is
