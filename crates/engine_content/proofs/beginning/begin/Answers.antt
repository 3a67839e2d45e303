use Rattle.std.proofs.Common.{◌++◌, [], ◌∷◌, ap, sym, ◌∙◌, append-nil}
use Rattle.std.proofs.lemmas.Result.{on_ok_weaker}
use Rattle.doc_model.specs.declared.row.Kind.TheVariants as kind
use Rattle.doc_model.specs.declared.row.Row.{Row}
use Rattle.doc_model.specs.Rows.{rows_of, row_at}
use Rattle.doc_laws.proofs.Growth.{joined_grows}
use Rattle.doc_laws.proofs.Moving.{moves_on}
use Rattle.result_events.specs.declared.event.Name.{Name}
use Rattle.result_events.specs.declared.event.ResultEvent.TheVariants as event
use Rattle.copy_meaning.specs.Copies.{result_name, text_events}
use Rattle.engine_content.proofs.Rows.{row_later}
use Rattle.engine_content.proofs.Pushing.{text_pushed, beginning_is}
use Rattle.engine_content.proofs.beginning.begin.Goals as goal

pub own_value-requires : goal.own_value-requires
own_value-requires g c = joined_grows _ _ c.args.k c.name_of-in-Attribute.ensures.moves.grows c.requires.joined

pub own_value-requires-in-Instruction : goal.own_value-requires-in-Instruction
own_value-requires-in-Instruction g c = joined_grows _ _ c.args.k c.name_of-in-Instruction.ensures.moves.grows c.requires.joined

pub returns-in-Root-clause-value : goal.returns-in-Root-clause-value
returns-in-Root-clause-value g c =
    let is = beginning_is (g.V.NodeView.sees c.args.view.now).steps
    (g.V.NodeView.sees c.told.new.self).steps c.args.k c.args.kind kind.Root c.told.ensures.grows c.requires.joined c.requires.kind c.in-Root.is in
    sym (ap (λ xs. c.args.made.now ++ xs) is ∙ append-nil c.args.made.now)

pub returns-in_ok-name-in-Element-clause-value : goal.returns-in_ok-name-in-Element-clause-value
returns-in_ok-name-in-Element-clause-value g c =
    let is = beginning_is (g.V.NodeView.sees c.args.view.now).steps
    (g.V.NodeView.sees c.name_of.new.view).steps c.args.k c.args.kind kind.Element c.name_of.ensures.moves.grows c.requires.joined c.requires.kind c.in-Element.is in
    on_ok_weaker c.push.result (λ e. e ∙ ap (λ n. c.args.made.now ++ event.Start n ∷ []) c.in_ok-name-in-Element.ensures.value ∙ ap (λ xs. c.args.made.now ++ xs) (sym is)) c.push.ensures.ok

pub returns-in_ok-value-in-Attribute-clause-value : goal.returns-in_ok-value-in-Attribute-clause-value
returns-in_ok-value-in-Attribute-clause-value g c =
    let old = (g.V.NodeView.sees c.args.view.now).steps in
    let mid = (g.V.NodeView.sees c.name_of-in-Attribute.new.view).steps in
    let new = (g.V.NodeView.sees c.own_value.new.view).steps in
    let m = moves_on _ _ _ c.name_of-in-Attribute.ensures.moves c.own_value.ensures.moves in
    let is = beginning_is old new c.args.k c.args.kind kind.Attribute m.grows c.requires.joined c.requires.kind c.in-Attribute.is in
    let row = row_later mid new c.args.k c.own_value.ensures.moves.grows (joined_grows _ _ c.args.k c.name_of-in-Attribute.ensures.moves.grows c.requires.joined) in
    let name = c.in_ok-name-in-Attribute.ensures.value ∙ sym (ap result_name row) in
    on_ok_weaker c.push-in-Attribute.result
    (λ e. e ∙ ap (λ n. c.args.made.now ++ event.Attr n c.in_ok-value-in-Attribute.value ∷ []) name
    ∙ ap (λ v. c.args.made.now ++ event.Attr (result_name (row_at (rows_of new) c.args.k)) v ∷ []) c.in_ok-value-in-Attribute.ensures.value
    ∙ ap (λ xs. c.args.made.now ++ xs) (sym is)) c.push-in-Attribute.ensures.ok

pub returns-in_ok-text-in-Text-clause-value : goal.returns-in_ok-text-in-Text-clause-value
returns-in_ok-text-in-Text-clause-value g c =
    let is = beginning_is (g.V.NodeView.sees c.args.view.now).steps
    (g.V.NodeView.sees c.own_value-in-Text.new.view).steps c.args.k c.args.kind kind.Text c.own_value-in-Text.ensures.moves.grows c.requires.joined c.requires.kind c.in-Text.is in
    on_ok_weaker c.push-in-Text.result
    (λ e. e ∙ text_pushed c.args.made.now c.in_ok-text-in-Text.text ∙ ap (λ v. c.args.made.now ++ text_events v) c.in_ok-text-in-Text.ensures.value
    ∙ ap (λ xs. c.args.made.now ++ xs) (sym is)) c.push-in-Text.ensures.ok

pub returns-in_ok-value-in-Instruction-clause-value : goal.returns-in_ok-value-in-Instruction-clause-value
returns-in_ok-value-in-Instruction-clause-value g c =
    let old = (g.V.NodeView.sees c.args.view.now).steps in
    let mid = (g.V.NodeView.sees c.name_of-in-Instruction.new.view).steps in
    let new = (g.V.NodeView.sees c.own_value-in-Instruction.new.view).steps in
    let m = moves_on _ _ _ c.name_of-in-Instruction.ensures.moves c.own_value-in-Instruction.ensures.moves in
    let is = beginning_is old new c.args.k c.args.kind kind.Instruction m.grows c.requires.joined c.requires.kind c.in-Instruction.is in
    let row = row_later mid new c.args.k c.own_value-in-Instruction.ensures.moves.grows (joined_grows _ _ c.args.k c.name_of-in-Instruction.ensures.moves.grows c.requires.joined) in
    let target = ap (λ (n : Name). n.local) c.in_ok-target-in-Instruction.ensures.value ∙ sym (ap (λ (r : Row). r.local) row) in
    on_ok_weaker c.push-in-Instruction.result
    (λ e. e ∙ ap (λ t. c.args.made.now ++ event.Instruction t c.in_ok-value-in-Instruction.value ∷ []) target
    ∙ ap (λ v. c.args.made.now ++ event.Instruction (row_at (rows_of new) c.args.k).local v ∷ []) c.in_ok-value-in-Instruction.ensures.value
    ∙ ap (λ xs. c.args.made.now ++ xs) (sym is)) c.push-in-Instruction.ensures.ok

pub returns-in_ok-text-in-Comment-clause-value : goal.returns-in_ok-text-in-Comment-clause-value
returns-in_ok-text-in-Comment-clause-value g c =
    let is = beginning_is (g.V.NodeView.sees c.args.view.now).steps
    (g.V.NodeView.sees c.own_value-in-Comment.new.view).steps c.args.k c.args.kind kind.Comment c.own_value-in-Comment.ensures.moves.grows c.requires.joined c.requires.kind c.in-Comment.is in
    on_ok_weaker c.push-in-Comment.result
    (λ e. e ∙ ap (λ v. c.args.made.now ++ event.Comment v ∷ []) c.in_ok-text-in-Comment.ensures.value ∙ ap (λ xs. c.args.made.now ++ xs) (sym is)) c.push-in-Comment.ensures.ok
