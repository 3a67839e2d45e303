use Rattle.std.proofs.Common.{rules, ◌≡◌, refl, sym, ap, ◌∙◌, subst, [], ◌∷◌, ◌++◌, ℕ, List, Option}
use Rattle.doc_model.specs.Answers.{Known}
use Rattle.doc_laws.proofs.Moving.{moves_on, moves_none}
use Rattle.key_sources.proofs.Saying.{says_same}
use Rattle.xpath_calls.specs.Taking.{completed}
use Rattle.xpath_calls.proofs.Completing.{all_on}
use Rattle.xpath_calls.proofs.calling.completed.Goals as goal

pub returns-then-is_empty-clause-answers : goal.returns-then-is_empty-clause-answers
returns-then-is_empty-clause-answers g c = let none : c.args.arguments ≡ [] =
    c.if-is_empty.ensures.0 (search rules) in λ lookups. says_same (λ R. ap (λ xs. completed c.args.function xs R c.args.ctx.now) none) (c.own_arguments.ensures.answers lookups)

pub returns-clause-held : goal.returns-clause-held
returns-clause-held g c = all_on _ _ c.args.arguments c.told.ensures.grows c.requires.held
