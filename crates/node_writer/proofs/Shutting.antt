-- The writer and the table at a Shut.
use Rattle.std.proofs.Common.{◌≡◌, ℕ, ◌<◌, true, ◌||◌, List, [], ◌∷◌, ◌++◌, length, None, refl, ap, sym, ◌∙◌, subst, arith}
use Rattle.std.proofs.lemmas.Bool.{eq-eqb}
use Rattle.doc_model.specs.declared.limits.Limits.{Limits}
use Rattle.doc_model.specs.declared.step.Step.TheVariants.{Shut}
use Rattle.doc_model.specs.Cells.{Cells, with_step}
use Rattle.doc_model.specs.Document.{Document, document_of, is_member, is_open}
use Rattle.doc_model.specs.Lawful.{CanStep}
use Rattle.doc_model.specs.Legal.{ShutFits, IsInnermost}
use Rattle.doc_model.specs.Rows.{rows_of}
use Rattle.doc_laws.proofs.Ends.{lawful_push, reached, open_contains}
use Rattle.doc_laws.proofs.Growth.{document_of-push}
use Rattle.node_writer.specs.declared.open_row.OpenRow.{OpenRow}
use Rattle.node_writer.specs.declared.writer.NodeWriter.{NodeWriter}
use Rattle.node_writer.specs.Stack.{rows_opened}
use Rattle.node_writer.specs.Stands.{Stands, StackStands}
use Rattle.node_writer.specs.Taken.{names_of, prefixes_of, text_bytes}
use Rattle.node_writer.proofs.Stacks.{rows_opened-length, shut_stands, shut_innermost}

-- while nothing has ended a row is open
pub stack_some : (w : NodeWriter) (limits : Limits) (cells : Cells) → Stands w limits cells → (document_of cells.steps).ended ≡ None → 0 < length w.stack
stack_some w limits cells s e =
    let open_rows = (reached cells.steps s.lawful).going e in
    omega (arith, open_rows, ap length (s.stack e).rows, rows_opened-length w.stack [])

member_first : (n : ℕ) (os : List ℕ) → is_member n (n ∷ os) ≡ true
member_first n os = ap (λ b. b || is_member n os) (eq-eqb n n refl)

module _ (w : NodeWriter) (limits : Limits) (cells : Cells) (s : Stands w limits cells) (e : (document_of cells.steps).ended ≡ None) (may : CanStep (document_of cells.steps) Shut)
    (outer : List OpenRow) (one : OpenRow) (split : w.stack ≡ outer ++ one ∷ []) where
  top_open : (document_of cells.steps).opened ≡ one.row ∷ rows_opened outer []
  top_open = shut_innermost w.stack outer one (document_of cells.steps).opened split (s.stack e).rows

  pub shut_fits : ShutFits cells one.row w.filler.rows
  shut_fits = record {
    going = e;
    may = may;
    innermost = subst (λ os. IsInnermost os one.row) (sym top_open) refl;
    end =
        let open_now : is_open cells.steps one.row ≡ true = ap (is_member one.row) top_open ∙ member_first one.row (rows_opened outer []) in
        s.filler.rows ∙ s.joined ∙ sym (open_contains cells.steps one.row s.lawful open_now);
  }

  pub shut_still : Stands (record { filler = w.filler; stack = outer }) limits (with_step cells Shut)
  shut_still =
      let push = document_of-push cells.steps Shut in
      let rows : rows_of (cells.steps ++ Shut ∷ []) ≡ rows_of cells.steps = ap (λ (d : Document). d.rows) push in
      record {
        lawful = lawful_push cells.steps Shut s.lawful e may;
        filler = s.filler;
        joined = s.joined ∙ ap length (sym rows);
        names = s.names ∙ ap names_of (sym rows);
        prefixes = s.prefixes ∙ ap prefixes_of (sym rows);
        text = s.text ∙ ap text_bytes (sym rows);
        stack = λ h. subst (λ (d : Document). StackStands cells.columns d.rows outer d.opened) (sym push)
            (shut_stands cells.columns (rows_of cells.steps) w.stack outer one (document_of cells.steps).opened split (s.stack e));
      }
