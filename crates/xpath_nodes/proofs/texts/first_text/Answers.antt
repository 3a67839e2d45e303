use Rattle.std.proofs.Common.{◌∙◌, ap, sym, subst}
use Rattle.doc_model.specs.Answers.{Known}
use Rattle.xpath_meaning.specs.Conversions.{text_of_first}
use Rattle.key_sources.proofs.Saying.{says_same, says_known}
use Rattle.xpath_nodes.specs.Held.{IsJoinedIf}
use Rattle.xpath_nodes.proofs.texts.first_text.Goals as goal

pub node_text-requires : goal.node_text-requires
node_text-requires g c = subst (IsJoinedIf (g.V.NodeView.sees c.args.view.now).steps) c.in-Some.is c.requires

pub returns-in-Some-clause-answers : goal.returns-in-Some-clause-answers
returns-in-Some-clause-answers g c = λ lookups. says_same (λ R. ap (text_of_first R) c.in-Some.is) (c.node_text.ensures.answers lookups)

pub returns-in-None-clause-answers : goal.returns-in-None-clause-answers
returns-in-None-clause-answers g c = λ lookups. says_known (λ R. ap (text_of_first R) c.in-None.is ∙ ap Known (sym c.new.ensures))
