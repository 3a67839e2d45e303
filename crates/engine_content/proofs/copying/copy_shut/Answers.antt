use Rattle.std.proofs.Common.{ap, sym, ◌∙◌}
use Rattle.doc_model.specs.declared.row.Row.{Row}
use Rattle.doc_model.specs.Rows.{rows_of, row_at}
use Rattle.doc_laws.proofs.Ends.{shut_grows}
use Rattle.doc_laws.proofs.Growth.{joined_grows}
use Rattle.doc_laws.proofs.Moving.{moves_on}
use Rattle.engine_content.proofs.Reaching.{copy_whole}
use Rattle.engine_content.proofs.Rows.{row_later}
use Rattle.engine_content.proofs.copying.copy_shut.Goals as goal

pub begin-requires-clause-joined : goal.begin-requires-clause-joined
begin-requires-clause-joined g c = joined_grows _ _ c.args.n c.kind-kind.ensures.moves.grows c.requires.joined

pub begin-requires-clause-kind : goal.begin-requires-clause-kind
begin-requires-clause-kind g c = c.kind-kind.ensures.value

pub returns-in_err-begin-clause-moves : goal.returns-in_err-begin-clause-moves
returns-in_err-begin-clause-moves g c = moves_on _ _ _ c.kind-kind.ensures.moves c.begin.ensures.moves

pub copy_below-requires-clause-joined : goal.copy_below-requires-clause-joined
copy_below-requires-clause-joined g c = joined_grows _ _ c.args.n (moves_on _ _ _ c.kind-kind.ensures.moves c.begin.ensures.moves).grows c.requires.joined

pub copy_below-requires-clause-shut : goal.copy_below-requires-clause-shut
copy_below-requires-clause-shut g c =
    let m = moves_on _ _ _ c.kind-kind.ensures.moves c.begin.ensures.moves in
    (shut_grows _ _ c.args.n m.grows m.seen.lawful c.requires.joined c.requires.shut).0

pub copy_below-requires-clause-end : goal.copy_below-requires-clause-end
copy_below-requires-clause-end g c =
    let m = moves_on _ _ _ c.kind-kind.ensures.moves c.begin.ensures.moves in
    c.requires.end ∙ sym (shut_grows _ _ c.args.n m.grows m.seen.lawful c.requires.joined c.requires.shut).1

pub returns-in_err-copy_below-clause-moves : goal.returns-in_err-copy_below-clause-moves
returns-in_err-copy_below-clause-moves g c = moves_on _ _ _ (moves_on _ _ _ c.kind-kind.ensures.moves c.begin.ensures.moves) c.copy_below.ensures.moves

pub returns-clause-moves : goal.returns-clause-moves
returns-clause-moves g c = moves_on _ _ _ (moves_on _ _ _ c.kind-kind.ensures.moves c.begin.ensures.moves) c.copy_below.ensures.moves

pub returns-clause-value : goal.returns-clause-value
returns-clause-value g c =
    let old = (g.V.NodeView.sees c.args.view.now).steps in
    let seen = (g.V.NodeView.sees c.kind-kind.new.self).steps in
    let begun = (g.V.NodeView.sees c.begin.new.view).steps in
    let new = g.V.NodeView.sees c.copy_below.new.view in
    let first = c.kind-kind.ensures.moves in
    let two = moves_on _ _ _ first c.begin.ensures.moves in
    let all = moves_on _ _ _ two c.copy_below.ensures.moves in
    let rest = moves_on _ _ _ c.begin.ensures.moves c.copy_below.ensures.moves in
    let row = sym (row_later begun new.steps c.args.n c.copy_below.ensures.moves.grows (joined_grows _ _ c.args.n two.grows c.requires.joined)) in
    let kind = c.kind-kind.ensures.value ∙ sym (ap (λ (r : Row). r.kind) (row_later seen new.steps c.args.n rest.grows (joined_grows _ _ c.args.n first.grows c.requires.joined))) in
    let end = c.requires.end ∙ sym (shut_grows old new.steps c.args.n all.grows all.seen.lawful c.requires.joined c.requires.shut).1 in
    copy_whole new.rules new.steps c.args.n c.args.end
    (row_at (rows_of begun) c.args.n) c.kind-kind.result c.in_ok-copy.copy c.begin.new.made c.copy_below.new.made c.finish.new.made all.seen.lawful
    (joined_grows _ _ c.args.n all.grows c.requires.joined)
    c.in_ok-copy.ensures c.in_ok-begin.ensures.value row end c.in_ok-copy_below.ensures.value kind c.in_ok-finish.ensures
