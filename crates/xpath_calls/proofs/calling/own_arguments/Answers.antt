use Rattle.std.proofs.Common.{◌≡◌, refl, sym, ap, ◌∙◌, subst, [], ◌∷◌, ◌++◌, ℕ, List, Option}
use Rattle.doc_model.specs.Answers.{Known}
use Rattle.doc_laws.proofs.Moving.{moves_on, moves_none}
use Rattle.key_sources.proofs.Saying.{says_after, says_exit, says_same, says_stops}
use Rattle.xpath_meaning.specs.Outcome.{◌>>=◌}
use Rattle.xpath_nodes.proofs.Holding.{there_on}
use Rattle.xpath_calls.specs.Taking.{own_argument, own_arguments}
use Rattle.xpath_calls.proofs.calling.own_arguments.Goals as goal

pub own_argument-requires : goal.own_argument-requires
own_argument-requires g c = there_on _ _ c.args.ctx.now.node c.told.ensures c.requires

pub returns-in_err-own-clause-answers : goal.returns-in_err-own-clause-answers
returns-in_err-own-clause-answers g c = λ lookups. says_exit c.from_residual.result c.from_residual.ensures.1
    (says_same (λ R. ap (λ b. own_arguments b c.args.function R c.args.ctx.now) (sym c.is_of_context.ensures ∙ c.if-is_of_context.true)
    ∙ ap (λ k. own_argument k R c.args.ctx.now >>= λ x. Known (x ∷ [])) (sym c.kind_at.ensures))
    (says_after c.told.ensures (says_stops (λ R x. Known (x ∷ [])) (c.in_err-own.ensures.answers lookups))))
