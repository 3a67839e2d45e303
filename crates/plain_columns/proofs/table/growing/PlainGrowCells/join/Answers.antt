use Rattle.std.proofs.Common.{◌≡◌, ◌∙◌, ◌+◌, suc, [], ◌∷◌, length, sym, ap, subst, arith, length-append}
use Rattle.doc_model.specs.declared.places.RowPlace.{RowPlace}
use Rattle.doc_model.specs.Cells.{node_at, place_at}
use Rattle.doc_model.specs.Document.{document_of}
use Rattle.doc_model.specs.Legal.{JoinFits}
use Rattle.doc_laws.proofs.Growth.{document_of-push}
use Rattle.doc_laws.proofs.Stack.{stack_of}
use Rattle.plain_columns.specs.declared.entry.Entry.TheVariants.{Join}
use Rattle.plain_columns.specs.Spelled.{WordsHold, Placed, FewSteps, LogFits, steps_of}
use Rattle.plain_columns.specs.Table.{columns_of, table_of}
use Rattle.plain_columns.specs.Value.{Table}
use Rattle.plain_columns.proofs.Few.{few_join}
use Rattle.plain_columns.proofs.Joins.{how_within, words_join, steps_of-push, LogFits-push, length-first_after, length-next_after}
use Rattle.plain_columns.proofs.Placed.{placed_join}
use Rattle.plain_columns.proofs.table.growing.PlainGrowCells.join.Goals as goal

pub set_link-requires : goal.set_link-requires
set_link-requires c =
    let p = c.self.inside in
    let h = c.self.invariant in
    let fits : JoinFits (table_of p).cells c.args.n c.args.how = subst (λ (t : Table). JoinFits t.cells c.args.n c.args.how) (sym c.self.view_is) c.requires in
    how_within _ _ _ c.args.how (stack_of _ h.words.lawful) fits.innermost fits.link _ _ (omega (arith, h.placed.joined, h.placed.within, h.has_words.firsts, p.first.ok.0))
    (omega (arith, h.placed.joined, h.placed.within, h.has_words.nexts, p.next.ok.0))

pub invariant_of-self : goal.invariant_of-self
invariant_of-self c =
    let p = c.self.inside in
    let h = c.self.invariant in
    let n = c.args.n in
    let how = c.args.how in
    let fits : JoinFits (table_of p).cells n how = subst (λ (t : Table). JoinFits t.cells n how) (sym c.self.view_is) c.requires in
    let steps = steps_of (columns_of p) p.log.items p.verdict in
    let step = node_at (columns_of p) n in
    let e = c.push_entry.ensures.items in
    let s = ap (λ xs. steps_of (columns_of p) xs p.verdict) e ∙ steps_of-push (columns_of p) p.log.items (Join n) p.verdict (h.words.ended ∙ fits.going) in
    let r = document_of-push steps step in
    let few = few_join (document_of steps) (length p.log.items) _ _ h.few in
    let len : length c.push_entry.new.log.items ≡ length p.log.items + 1 = ap length e ∙ length-append p.log.items (Join n ∷ []) in
    let a = c.set_link.ensures.first in
    let b = c.set_link.ensures.next in
    let same : n ≡ p.joined = fits.next ∙ sym h.placed.joined in
    let placed = placed_join (columns_of p) steps n how h.words.lawful (subst (λ k. Placed (columns_of p) steps k) (sym same) h.placed) fits in
    let count : n + suc (place_at (columns_of p) n).attr_count ≡ n + 1 + c.place_in.result.attr_count =
    let q = c.place_in.ensures in
    omega (arith, ap (λ (q : RowPlace). q.attr_count) q) in
    record {
      spelled = record {
        names = h.spelled.names;
        prefixes = h.spelled.prefixes;
        rows = h.spelled.rows;
        distinct = h.spelled.distinct;
        entries =
            subst (λ xs. LogFits (columns_of p) xs) (sym e) (LogFits-push (columns_of p) p.log.items (Join n) h.spelled.entries fits.filled);
      };
      words = subst (λ xs. WordsHold xs c.set_link.new.first.items c.set_link.new.next.items p.extent.items p.verdict) (sym s)
          (rw (a, b) (words_join (columns_of p) steps n how _ _ _ _ h.words fits (omega (arith, h.has_words.firsts)) (omega (arith, h.has_words.nexts))));
      placed = subst (λ xs. Placed (columns_of p) xs (n + 1 + c.place_in.result.attr_count)) (sym s) (rw (← count) placed);
      few = subst (λ xs. FewSteps (document_of xs) (length c.push_entry.new.log.items)) (sym s) (subst (λ q. FewSteps q (length c.push_entry.new.log.items)) (sym r) (rw len few));
      texts = h.texts;
      places = h.places;
      names = h.names;
      has_words = record {
        firsts = ap length a ∙ length-first_after how n p.first.items ∙ h.has_words.firsts;
        nexts = ap length b ∙ length-next_after how n p.next.items ∙ h.has_words.nexts;
        extents = h.has_words.extents;
        firsts_taken = omega (arith, h.has_words.firsts_taken, c.set_link.ensures.first_capacity);
        nexts_taken = omega (arith, h.has_words.nexts_taken, c.set_link.ensures.next_capacity);
        extents_taken = h.has_words.extents_taken;
      };
      log = omega (arith, h.log, c.push_entry.ensures.capacity);
      small = h.small;
    }
