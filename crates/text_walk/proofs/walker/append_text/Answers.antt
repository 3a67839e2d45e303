use Rattle.std.proofs.Common.{◌≡◌, ◌∙◌, ◌++◌, ◌&&◌, true, not, length, nat_lt, [], ap, sym}
use Rattle.doc_model.specs.declared.row.Row.{Row}
use Rattle.doc_model.specs.Legible.{is_empty}
use Rattle.doc_model.specs.Rows.{rows_of, row_at}
use Rattle.doc_model.specs.Strip.{is_text}
use Rattle.doc_laws.proofs.Growth.{joined_grows}
use Rattle.doc_laws.proofs.Staying.{data_stay}
use Rattle.text_walk.proofs.Text.{text_alone, longer}
use Rattle.text_walk.proofs.walker.append_text.Goals as goal

pub returns-clause-text : goal.returns-clause-text
returns-clause-text g c =
    let joined = joined_grows _ _ c.args.row c.kind.ensures.moves.grows c.requires in
    let same = (data_stay [] _ _ c.args.row c.text.ensures.moves.grows c.text.ensures.moves.seen.lawful joined).row in
    let text : is_text (row_at (rows_of (g.V.NodeView.sees c.text.new.self).steps) c.args.row).kind ≡ true = ap (λ (r : Row). is_text r.kind) same ∙ ap is_text (sym c.in-Text.ensures.value) in
    c.in_ok-text.ensures.value ∙ ap (λ xs. c.args.into.now.items ++ xs) (sym (text_alone _ text))

pub returns-clause-event : goal.returns-clause-event
returns-clause-event g c =
    let joined = joined_grows _ _ c.args.row c.kind.ensures.moves.grows c.requires in
    let same = (data_stay [] _ _ c.args.row c.text.ensures.moves.grows c.text.ensures.moves.seen.lawful joined).row in
    let text : is_text (row_at (rows_of (g.V.NodeView.sees c.text.new.self).steps) c.args.row).kind ≡ true = ap (λ (r : Row). is_text r.kind) same ∙ ap is_text (sym c.in-Text.ensures.value) in
    let row = row_at (rows_of (g.V.NodeView.sees c.text.new.self).steps) c.args.row in
    let was = c.len-before.ensures ∙ c.args.into.now.ok.0 in
    let now = c.len.ensures ∙ c.text.new.into.ok.0 ∙ ap length c.in_ok-text.ensures.value in
    ap (λ n. nat_lt n c.len.result) was ∙ ap (λ n. nat_lt (length c.args.into.now.items) n) now ∙ longer c.args.into.now.items row.value ∙ sym (ap (λ b. b && not (is_empty row.value)) text)
