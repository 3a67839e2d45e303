use Rattle.std.proofs.Common.{◌≡◌, ◌∙◌, true, sym, ap}
use Rattle.doc_model.specs.declared.row.Row.{Row}
use Rattle.doc_model.specs.Rows.{rows_of, row_at}
use Rattle.doc_model.specs.Strip.{is_element}
use Rattle.doc_laws.proofs.Growth.{joined_grows}
use Rattle.strip_rules.proofs.Judging.{element_stripped}
use Rattle.strip_rules.proofs.Later.{row_later}
use Rattle.strip_rules.proofs.rules.strips.Goals as goal

pub returns-in-Element-clause-value : goal.returns-in-Element-clause-value
returns-in-Element-clause-value g c =
    let j = joined_grows _ _ c.args.n c.kind.ensures.moves.grows c.requires.joined in
    let row = row_at (rows_of (g.V.NodeView.sees c.best_strips.new.view).steps) c.args.n in
    let element : is_element row.kind ≡ true = ap (λ (r : Row). is_element r.kind) (row_later _ _ c.args.n c.best_strips.ensures.moves.grows j) ∙ ap is_element (sym c.in-Element.ensures.value) in
    c.best_strips.ensures.value ∙ sym (element_stripped c.args.rules.now row element)
