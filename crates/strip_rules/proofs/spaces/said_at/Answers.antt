use Rattle.std.proofs.Common.{◌∙◌, true, false, refl, sym, ap, codes, bytes_eq}
use Rattle.doc_model.specs.declared.row.Row.{Row}
use Rattle.doc_model.specs.Rows.{rows_of, row_at}
use Rattle.doc_laws.proofs.Growth.{joined_grows}
use Rattle.doc_laws.proofs.Moving.{moves_on}
use Rattle.strip_rules.proofs.Later.{row_later}
use Rattle.strip_rules.proofs.Spacing.{says_of, is_space}
use Rattle.strip_rules.proofs.spaces.said_at.Goals as goal

pub returns-then-value_is-clause-value : goal.returns-then-value_is-clause-value
returns-then-value_is-clause-value g c =
    let j = joined_grows _ _ c.args.n c.name_is.ensures.moves.grows c.requires in
    let named = ap is_space (row_later _ _ c.args.n c.value_is.ensures.moves.grows j) ∙ sym c.if-not-name_is.ensures.value in
    sym (says_of (row_at (rows_of (g.V.NodeView.sees c.value_is.new.self).steps) c.args.n) true true _ named (sym c.if-value_is.ensures.value) refl)

pub value_is-requires-2 : goal.value_is-requires-2
value_is-requires-2 g c = joined_grows _ _ c.args.n (moves_on _ _ _ c.name_is.ensures.moves c.value_is.ensures.moves).grows c.requires

pub returns-then-value_is-2-clause-value : goal.returns-then-value_is-2-clause-value
returns-then-value_is-2-clause-value g c =
    let j = joined_grows _ _ c.args.n c.name_is.ensures.moves.grows c.requires in
    let k = joined_grows _ _ c.args.n c.value_is.ensures.moves.grows j in
    let m = moves_on _ _ _ c.value_is.ensures.moves c.value_is-2.ensures.moves in
    let named = ap is_space (row_later _ _ c.args.n m.grows j) ∙ sym c.if-not-name_is.ensures.value in
    let kept = ap (λ (r : Row). bytes_eq r.value (codes "preserve")) (row_later _ _ c.args.n c.value_is-2.ensures.moves.grows k) ∙ sym c.if-value_is.ensures.value in
    sym (says_of (row_at (rows_of (g.V.NodeView.sees c.value_is-2.new.self).steps) c.args.n) true false true named kept (sym c.if-value_is-2.ensures.value))

pub returns-clause-value : goal.returns-clause-value
returns-clause-value g c =
    let j = joined_grows _ _ c.args.n c.name_is.ensures.moves.grows c.requires in
    let k = joined_grows _ _ c.args.n c.value_is.ensures.moves.grows j in
    let m = moves_on _ _ _ c.value_is.ensures.moves c.value_is-2.ensures.moves in
    let named = ap is_space (row_later _ _ c.args.n m.grows j) ∙ sym c.if-not-name_is.ensures.value in
    let kept = ap (λ (r : Row). bytes_eq r.value (codes "preserve")) (row_later _ _ c.args.n c.value_is-2.ensures.moves.grows k) ∙ sym c.if-value_is.ensures.value in
    sym (says_of (row_at (rows_of (g.V.NodeView.sees c.value_is-2.new.self).steps) c.args.n) true false false named kept (sym c.if-value_is-2.ensures.value))
