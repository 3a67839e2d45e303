use Rattle.std.proofs.Common.{◌≡◌, refl, sym, ap, ◌∙◌, subst, [], ◌∷◌, ◌++◌, ℕ, List, Option}
use Rattle.doc_model.specs.Answers.{Known}
use Rattle.doc_laws.proofs.Moving.{moves_on, moves_none}
use Rattle.std.specs.Prelude.{option_copied}
use Rattle.key_sources.proofs.Saying.{says_given, says_same, went_none}
use Rattle.xpath_calls.specs.Given.{keyed_by}
use Rattle.xpath_calls.specs.Holding.{HeldIf}
use Rattle.xpath_calls.proofs.calling.keyed_by.Goals as goal

pub found_by_key-requires-clause-joined : goal.found_by_key-requires-clause-joined
found_by_key-requires-clause-joined g c = subst (HeldIf (g.V.NodeView.sees c.args.view.now).steps) (ap option_copied c.in-Some.is) c.requires.held

pub returns-in-Some-clause-answers : goal.returns-in-Some-clause-answers
returns-in-Some-clause-answers g c = says_same (λ R. ap (λ v. keyed_by c.args.slot v R) (ap option_copied c.in-Some.is)) c.found_by_key.ensures.answers

pub returns-in-None-clause-went : goal.returns-in-None-clause-went
returns-in-None-clause-went g c = went_none c.requires.stands

pub returns-in-None-clause-answers : goal.returns-in-None-clause-answers
returns-in-None-clause-answers g c =
    says_same (λ R. ap (λ v. keyed_by c.args.slot v R) (ap option_copied c.in-None.is)) (says_given _ c.empty.result (moves_none _ c.requires.stands.seen) c.empty.ensures)
