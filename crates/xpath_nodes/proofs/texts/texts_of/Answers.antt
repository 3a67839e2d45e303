use Rattle.std.proofs.Common.{[], ◌∷◌, ◌∙◌, ap, sym, subst}
use Rattle.doc_model.specs.Answers.{Known}
use Rattle.xpath_meaning.specs.Conversions.{text_of}
use Rattle.xpath_meaning.specs.Functions.{texts_of}
use Rattle.xpath_meaning.specs.Outcome.{◌>>=◌, each_of}
use Rattle.key_sources.proofs.Saying.{says_same}
use Rattle.xpath_nodes.specs.Held.{AllJoined, HasJoined}
use Rattle.xpath_nodes.proofs.texts.texts_of.Goals as goal

pub node_texts-requires : goal.node_texts-requires
node_texts-requires g c = subst (AllJoined (g.V.NodeView.sees c.args.view.now).steps) (sym c.as_slice.ensures) (subst (HasJoined (g.V.NodeView.sees c.args.view.now).steps) c.in-Nodes.is c.requires)

pub returns-in-Nodes-clause-answers : goal.returns-in-Nodes-clause-answers
returns-in-Nodes-clause-answers g c = λ lookups. says_same (λ R. ap (texts_of R) c.in-Nodes.is ∙ ap (each_of (λ n. R.value n)) (sym c.as_slice.ensures)) (c.node_texts.ensures.answers lookups)

pub returns-in-Atom-clause-answers : goal.returns-in-Atom-clause-answers
returns-in-Atom-clause-answers g c =
    λ lookups. says_same (λ R. ap (texts_of R) c.in-Atom.is ∙ sym (ap (λ v. text_of R v >>= λ bytes. Known (bytes ∷ [])) c.in-Atom.is)) (c.one_text.ensures.answers lookups)

pub returns-in-Fragment-clause-answers : goal.returns-in-Fragment-clause-answers
returns-in-Fragment-clause-answers g c =
    λ lookups. says_same (λ R. ap (texts_of R) c.in-Fragment.is ∙ sym (ap (λ v. text_of R v >>= λ bytes. Known (bytes ∷ [])) c.in-Fragment.is)) (c.one_text-in-Fragment.ensures.answers lookups)
