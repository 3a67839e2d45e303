use Rattle.std.proofs.Common.{◌≡◌, refl, sym, ap, ◌∙◌, subst, [], ◌∷◌, ◌++◌, ℕ, List, Option}
use Rattle.doc_model.specs.Answers.{Known}
use Rattle.doc_laws.proofs.Moving.{moves_on, moves_none}
use Rattle.key_sources.proofs.Saying.{says_after, says_exit, says_known, says_memory, says_same}
use Rattle.xpath_nodes.proofs.ByView.{any_lookups}
use Rattle.xpath_nodes.proofs.Holding.{there_on}
use Rattle.xpath_operations.proofs.Standing.{operand_by_held_if}
use Rattle.xpath_operations.specs.Operands.{operand_by}
use Rattle.xpath_values.specs.declared.value.Value.TheVariants.{Nodes}
use Rattle.xpath_calls.specs.Taking.{own_argument}
use Rattle.xpath_calls.proofs.Completing.{alone_there, alone_joined}
use Rattle.xpath_calls.proofs.calling.own_argument.Goals as goal

pub returns-in_err-push-clause-answers : goal.returns-in_err-push-clause-answers
returns-in_err-push-clause-answers g c = λ lookups. says_exit c.from_residual.result c.from_residual.ensures.1 says_memory

pub operand_of-requires : goal.operand_of-requires
operand_of-requires g c =
    let t = g.V.NodeView.sees c.told.new.self in
    let alone : c.push.new.self ≡ c.args.ctx.now.node ∷ [] = c.in_ok-push.ensures.ok ∙ ap (λ ns. ns ++ c.args.ctx.now.node ∷ []) c.new-nodes.ensures in
    alone_joined t.rules t.steps c.args.ctx.now.node c.push.new.self alone (there_on _ _ c.args.ctx.now.node c.told.ensures c.requires)

pub returns-in-Some-clause-moves : goal.returns-in-Some-clause-moves
returns-in-Some-clause-moves g c = moves_on _ _ _ c.told.ensures c.operand_of.ensures.moves

pub returns-in-Some-clause-answers : goal.returns-in-Some-clause-answers
returns-in-Some-clause-answers g c =
    let alone : c.push.new.self ≡ c.args.ctx.now.node ∷ [] = c.in_ok-push.ensures.ok ∙ ap (λ ns. ns ++ c.args.ctx.now.node ∷ []) c.new-nodes.ensures in
    λ lookups. says_same (λ R. ap (λ k. own_argument k R c.args.ctx.now) c.in-Some.is ∙ ap (λ (ns : List ℕ). operand_by c.in-Some.kind R (Nodes ns)) (sym alone))
    (says_after c.told.ensures (c.operand_of.ensures.answers lookups))

pub returns-in-Some-clause-held : goal.returns-in-Some-clause-held
returns-in-Some-clause-held g c =
    let t = g.V.NodeView.sees c.operand_of.new.view in
    let alone : c.push.new.self ≡ c.args.ctx.now.node ∷ [] = c.in_ok-push.ensures.ok ∙ ap (λ ns. ns ++ c.args.ctx.now.node ∷ []) c.new-nodes.ensures in
    operand_by_held_if c.operand_of.result c.in-Some.kind (Nodes c.push.new.self)
    (alone_there t.rules t.steps c.args.ctx.now.node c.push.new.self alone (there_on _ _ c.args.ctx.now.node (moves_on _ _ _ c.told.ensures c.operand_of.ensures.moves) c.requires))
    (c.operand_of.ensures.answers any_lookups)

pub returns-in-None-clause-answers : goal.returns-in-None-clause-answers
returns-in-None-clause-answers g c = λ lookups. says_same (λ R. ap (λ k. own_argument k R c.args.ctx.now) c.in-None.is) (says_known (λ R. refl))
