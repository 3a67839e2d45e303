use Rattle.std.proofs.Common.{ap, sym, ◌∙◌}
use Rattle.doc_model.specs.Answers.{Known}
use Rattle.doc_laws.proofs.Ends.{shut_grows}
use Rattle.doc_laws.proofs.Growth.{joined_grows}
use Rattle.doc_laws.proofs.Moving.{moves_on}
use Rattle.copy_meaning.proofs.Lasting.{shut_copy}
use Rattle.engine_content.proofs.Reaching.{was_open}
use Rattle.engine_content.proofs.copying.copied.Goals as goal

pub returns-in-None-clause-answers : goal.returns-in-None-clause-answers
returns-in-None-clause-answers g c =
    let new = g.V.NodeView.sees c.extent.new.self in
    was_open new.rules (g.V.NodeView.sees c.args.view.now).steps new.steps c.args.n c.extent.ensures.moves.seen.lawful c.requires c.in-None.ensures.value

pub copy_shut-requires-clause-joined : goal.copy_shut-requires-clause-joined
copy_shut-requires-clause-joined g c = joined_grows _ _ c.args.n c.extent.ensures.moves.grows c.requires

pub copy_shut-requires-clause-shut : goal.copy_shut-requires-clause-shut
copy_shut-requires-clause-shut g c = c.in-Some.ensures.value.0

pub copy_shut-requires-clause-end : goal.copy_shut-requires-clause-end
copy_shut-requires-clause-end g c = c.in-Some.ensures.value.1

pub returns-in_err-copy-clause-moves : goal.returns-in_err-copy-clause-moves
returns-in_err-copy-clause-moves g c = moves_on _ _ _ c.extent.ensures.moves c.copy_shut.ensures.moves

pub returns-clause-moves : goal.returns-clause-moves
returns-clause-moves g c = moves_on _ _ _ c.extent.ensures.moves c.copy_shut.ensures.moves

pub returns-clause-answers : goal.returns-clause-answers
returns-clause-answers g c =
    let mid = (g.V.NodeView.sees c.extent.new.self).steps in
    let new = g.V.NodeView.sees c.copy_shut.new.view in
    let m = c.copy_shut.ensures.moves in
    let joined = joined_grows _ _ c.args.n c.extent.ensures.moves.grows c.requires in
    let shut = (shut_grows mid new.steps c.args.n m.grows m.seen.lawful joined c.in-Some.ensures.value.0).0 in
    shut_copy new.rules new.steps c.args.n (joined_grows _ _ c.args.n m.grows joined) shut ∙ ap (λ xs. Known xs) (sym c.in_ok-copy.ensures.value)
