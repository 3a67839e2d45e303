use Rattle.std.proofs.Common.{◌∙◌, Some, length, sym, ap, subst, arith}
use Rattle.doc_model.specs.declared.step.Step.TheVariants.{End as end_step}
use Rattle.doc_model.specs.Document.{Document, document_of}
use Rattle.doc_model.specs.Legal.{EndFits}
use Rattle.doc_model.specs.Rows.{rows_of}
use Rattle.doc_laws.proofs.Growth.{document_of-push}
use Rattle.doc_laws.proofs.Root.{root_at}
use Rattle.plain_columns.specs.Spelled.{WordsHold, FewSteps, steps_of}
use Rattle.plain_columns.specs.Table.{columns_of, table_of}
use Rattle.plain_columns.specs.Value.{Table}
use Rattle.plain_columns.proofs.Ending.{words_end, few_end, length-extent_after}
use Rattle.plain_columns.proofs.Few.{placed_same}
use Rattle.plain_columns.proofs.Joins.{steps_of-end}
use Rattle.plain_columns.proofs.table.growing.PlainGrowCells.finish.Goals as goal

pub invariant_of-self : goal.invariant_of-self
invariant_of-self c =
    let p = c.self.inside in
    let h = c.self.invariant in
    let v = c.args.verdict in
    let fits : EndFits (table_of p).cells v = subst (λ (t : Table). EndFits t.cells v) (sym c.self.view_is) c.requires in
    let steps = steps_of (columns_of p) p.log.items p.verdict in
    let s = steps_of-end (columns_of p) p.log.items p.verdict v (h.words.ended ∙ fits.going) in
    let r = document_of-push steps (end_step v) in
    let few = few_end (document_of steps) v (length p.log.items) h.few in
    let x = c.set_end.ensures.items in
    record {
      spelled = h.spelled;
      words = subst (λ xs. WordsHold xs p.first.items p.next.items c.set_end.new.extent.items (Some v)) (sym s)
          (rw x (words_end (columns_of p) steps v p.joined _ _ _ _ h.words fits h.placed.joined
          (omega (arith, (root_at steps h.words.lawful).within, h.placed.joined, h.placed.within, h.has_words.extents))));
      placed = placed_same (columns_of p) steps _ p.joined (ap rows_of s ∙ ap (λ (q : Document). q.rows) r) h.placed;
      few = subst (λ xs. FewSteps (document_of xs) (length p.log.items)) (sym s) (subst (λ q. FewSteps q (length p.log.items)) (sym r) few);
      texts = h.texts;
      places = h.places;
      names = h.names;
      has_words = record {
        firsts = h.has_words.firsts;
        nexts = h.has_words.nexts;
        extents = ap length x ∙ length-extent_after v p.joined p.extent.items ∙ h.has_words.extents;
        firsts_taken = h.has_words.firsts_taken;
        nexts_taken = h.has_words.nexts_taken;
        extents_taken = omega (arith, h.has_words.extents_taken, c.set_end.ensures.capacity);
      };
      log = h.log;
      small = h.small;
    }
