use Rattle.std.proofs.Common.{◌≡◌, refl, sym, ap, ◌∙◌, subst, [], ◌∷◌, ◌++◌, ℕ, List, Option}
use Rattle.doc_model.specs.Answers.{Known}
use Rattle.doc_laws.proofs.Moving.{moves_on, moves_none}
use Rattle.key_sources.proofs.Saying.{says_same, went_moves}
use Rattle.xpath_calls.specs.Given.{ids_of, keyed_by, given}
use Rattle.xpath_calls.proofs.Completing.{value_held}
use Rattle.xpath_calls.proofs.Others.{given_other}
use Rattle.xpath_calls.proofs.calling.given.Goals as goal

pub ids_of-requires-clause-held : goal.ids_of-requires-clause-held
ids_of-requires-clause-held g c = value_held (g.V.NodeView.sees c.args.view.now).steps c.args.arguments.now 0 _ c.requires.held c.value_at.ensures

pub returns-in-Id-clause-answers : goal.returns-in-Id-clause-answers
returns-in-Id-clause-answers g c =
    says_same (λ R. ap (λ f. given f c.args.slot c.args.arguments.now R c.args.ctx.now) c.in-Id.is ∙ ap (λ v. ids_of v R) (sym c.value_at.ensures)) c.ids_of.ensures.answers

pub keyed_by-requires-clause-held : goal.keyed_by-requires-clause-held
keyed_by-requires-clause-held g c = value_held (g.V.NodeView.sees c.args.view.now).steps c.args.arguments.now 1 _ c.requires.held c.value_at-in-Key.ensures

pub returns-in-Key-clause-answers : goal.returns-in-Key-clause-answers
returns-in-Key-clause-answers g c =
    says_same (λ R. ap (λ f. given f c.args.slot c.args.arguments.now R c.args.ctx.now) c.in-Key.is ∙ ap (λ v. keyed_by c.args.slot v R) (sym c.value_at-in-Key.ensures)) c.keyed_by.ensures.answers

pub returns-in_default-clause-went : goal.returns-in_default-clause-went
returns-in_default-clause-went g c = went_moves (g.met.K.KeySource.goes_on c.args.keys.now) c.by_nodes.ensures.moves c.requires.stands

pub returns-in_default-clause-answers : goal.returns-in_default-clause-answers
returns-in_default-clause-answers g c =
    says_same (λ R. given_other c.args.function c.args.slot c.args.arguments.now R c.args.ctx.now c.in_default.not-Id c.in_default.not-Key) (c.by_nodes.ensures.answers _)
