use Rattle.std.proofs.Common.{◌≡◌, ◌∙◌, ◌+◌, [], ◌∷◌, length, set, sym, ap, subst, arith, length-append, length-set}
use Rattle.doc_model.specs.declared.step.Step.TheVariants.{Shut as shut_step}
use Rattle.doc_model.specs.Document.{Document, document_of}
use Rattle.doc_model.specs.Legal.{ShutFits}
use Rattle.doc_model.specs.Rows.{rows_of}
use Rattle.doc_laws.proofs.Growth.{document_of-push}
use Rattle.doc_laws.proofs.Stack.{stack_of}
use Rattle.plain_columns.specs.declared.entry.Entry.TheVariants.{Shut}
use Rattle.plain_columns.specs.Spelled.{WordsHold, FewSteps, LogFits, steps_of}
use Rattle.plain_columns.specs.Table.{columns_of, table_of}
use Rattle.plain_columns.specs.Value.{Table}
use Rattle.plain_columns.proofs.Few.{few_shut, innermost_within, placed_same}
use Rattle.plain_columns.proofs.Joins.{words_shut, steps_of-push, LogFits-push}
use Rattle.plain_columns.proofs.table.growing.PlainGrowCells.shut.Goals as goal

pub index_mut-requires : goal.index_mut-requires
index_mut-requires c =
    let p = c.self.inside in
    let h = c.self.invariant in
    let fits : ShutFits (table_of p).cells c.args.n c.args.extent = subst (λ (t : Table). ShutFits t.cells c.args.n c.args.extent) (sym c.self.view_is) c.requires in
    let within = innermost_within _ _ c.args.n (stack_of _ h.words.lawful) fits.innermost in
    omega (arith, within, h.placed.joined, h.placed.within, h.has_words.extents, p.extent.ok.0)

pub invariant_of-self : goal.invariant_of-self
invariant_of-self c =
    let p = c.self.inside in
    let h = c.self.invariant in
    let fits : ShutFits (table_of p).cells c.args.n c.args.extent = subst (λ (t : Table). ShutFits t.cells c.args.n c.args.extent) (sym c.self.view_is) c.requires in
    let steps = steps_of (columns_of p) p.log.items p.verdict in
    let e = c.push_entry.ensures.items in
    let s = ap (λ xs. steps_of (columns_of p) xs p.verdict) e ∙ steps_of-push (columns_of p) p.log.items Shut p.verdict (h.words.ended ∙ fits.going) in
    let r = document_of-push steps shut_step in
    let few = few_shut (document_of steps) (length p.log.items) fits.may h.few in
    let len : length c.push_entry.new.log.items ≡ length p.log.items + 1 = ap length e ∙ length-append p.log.items (Shut ∷ []) in
    record {
      spelled = record {
        names = h.spelled.names;
        prefixes = h.spelled.prefixes;
        rows = h.spelled.rows;
        distinct = h.spelled.distinct;
        entries =
            subst (λ xs. LogFits (columns_of p) xs) (sym e) (LogFits-push (columns_of p) p.log.items Shut h.spelled.entries tt);
      };
      words = subst (λ xs. WordsHold xs p.first.items p.next.items (set p.extent.items c.args.n c.args.extent) p.verdict) (sym s)
          (words_shut (columns_of p) steps c.args.n c.args.extent _ _ _ _ h.words fits (omega (arith, h.placed.joined, h.placed.within, h.has_words.extents)));
      placed = placed_same (columns_of p) steps _ p.joined (ap rows_of s ∙ ap (λ (q : Document). q.rows) r) h.placed;
      few = subst (λ xs. FewSteps (document_of xs) (length c.push_entry.new.log.items)) (sym s) (subst (λ q. FewSteps q (length c.push_entry.new.log.items)) (sym r) (rw len few));
      texts = h.texts;
      places = h.places;
      names = h.names;
      has_words = record {
        firsts = h.has_words.firsts;
        nexts = h.has_words.nexts;
        extents = length-set p.extent.items c.args.n c.args.extent ∙ h.has_words.extents;
        firsts_taken = h.has_words.firsts_taken;
        nexts_taken = h.has_words.nexts_taken;
        extents_taken = h.has_words.extents_taken;
      };
      log = omega (arith, h.log, c.push_entry.ensures.capacity);
      small = h.small;
    }
