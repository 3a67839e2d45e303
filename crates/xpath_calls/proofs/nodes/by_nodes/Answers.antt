use Rattle.std.proofs.Common.{◌≡◌, ap, sym, ◌∙◌, subst, pos}
use Rattle.doc_model.specs.Answers.{Known}
use Rattle.doc_laws.proofs.Moving.{moves_on}
use Rattle.key_sources.proofs.Saying.{says_given, says_same, says_after}
use Rattle.whole_num.specs.declared.number.Num.TheVariants.{Whole}
use Rattle.xpath_laws.proofs.Sounding as sounding
use Rattle.xpath_meaning.specs.Calls.{of_first, part_of_name}
use Rattle.xpath_meaning.specs.Conversions.{number, truth}
use Rattle.xpath_meaning.specs.Functions.{sum_onto, local_name, namespace_uri, full_name, language_of, speaks}
use Rattle.xpath_meaning.specs.Outcome.{◌>>=◌}
use Rattle.xpath_calls.specs.Given.{by_nodes}
use Rattle.xpath_calls.proofs.Completing.{nodes_held, first_held_at}
use Rattle.xpath_calls.proofs.Others.{nodes_other}
use Rattle.xpath_calls.proofs.nodes.by_nodes.Goals as goal

pub summed-requires : goal.summed-requires
summed-requires g c = nodes_held (g.V.NodeView.sees c.args.view.now).steps c.args.arguments.now 0 c.nodes_at.result.now c.requires.held c.nodes_at.ensures

pub returns-in-Sum-clause-answers : goal.returns-in-Sum-clause-answers
returns-in-Sum-clause-answers g c =
    λ lookups. says_same (λ R. ap (λ f. by_nodes f c.args.arguments.now R c.args.ctx.now) c.in-Sum.is
    ∙ ap (λ nodes. sum_onto R (Whole (pos 0)) nodes >>= λ n. Known (number n)) (sym c.nodes_at.ensures)) (c.summed.ensures.answers lookups)

pub local_name_of-requires : goal.local_name_of-requires
local_name_of-requires g c = first_held_at (g.V.NodeView.sees c.args.view.now).steps c.args.arguments.now 0 c.first_at.result c.requires.held c.first_at.ensures

pub returns-in-LocalName-clause-answers : goal.returns-in-LocalName-clause-answers
returns-in-LocalName-clause-answers g c =
    λ lookups. says_same (λ R. ap (λ f. by_nodes f c.args.arguments.now R c.args.ctx.now) c.in-LocalName.is ∙ ap (of_first (part_of_name local_name R)) (sym c.first_at.ensures))
    (c.local_name_of.ensures.answers lookups)

pub namespace_uri_of-requires : goal.namespace_uri_of-requires
namespace_uri_of-requires g c = first_held_at (g.V.NodeView.sees c.args.view.now).steps c.args.arguments.now 0 c.first_at-in-NamespaceUri.result c.requires.held c.first_at-in-NamespaceUri.ensures

pub returns-in-NamespaceUri-clause-answers : goal.returns-in-NamespaceUri-clause-answers
returns-in-NamespaceUri-clause-answers g c =
    λ lookups. says_same (λ R. ap (λ f. by_nodes f c.args.arguments.now R c.args.ctx.now) c.in-NamespaceUri.is
    ∙ ap (of_first (part_of_name namespace_uri R)) (sym c.first_at-in-NamespaceUri.ensures)) (c.namespace_uri_of.ensures.answers lookups)

pub full_name_of-requires : goal.full_name_of-requires
full_name_of-requires g c = first_held_at (g.V.NodeView.sees c.args.view.now).steps c.args.arguments.now 0 c.first_at-in-Name.result c.requires.held c.first_at-in-Name.ensures

pub returns-in-Name-clause-answers : goal.returns-in-Name-clause-answers
returns-in-Name-clause-answers g c =
    λ lookups. says_same (λ R. ap (λ f. by_nodes f c.args.arguments.now R c.args.ctx.now) c.in-Name.is ∙ ap (of_first (part_of_name full_name R)) (sym c.first_at-in-Name.ensures))
    (c.full_name_of.ensures.answers lookups)

pub returns-in-Lang-clause-answers : goal.returns-in-Lang-clause-answers
returns-in-Lang-clause-answers g c =
    λ lookups. says_same (λ R. ap (λ f. by_nodes f c.args.arguments.now R c.args.ctx.now) c.in-Lang.is
    ∙ ap (λ asked. language_of R c.args.ctx.now.node >>= λ language. Known (truth (speaks language asked))) (sym c.text_at.ensures)) (c.speaking.ensures.answers lookups)

pub returns-in_default-clause-answers : goal.returns-in_default-clause-answers
returns-in_default-clause-answers g c =
    λ lookups. says_same (λ R. nodes_other c.args.function c.args.arguments.now R c.args.ctx.now c.in_default.not-Sum c.in_default.not-LocalName c.in_default.not-NamespaceUri c.in_default.not-Name c.in_default.not-Lang) (says_given _ c.plainly.result c.told.ensures c.plainly.ensures)
