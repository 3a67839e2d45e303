use Rattle.std.proofs.Common.{ap, subst}
use Rattle.xpath_meaning.specs.Calls.{of_first, part_of_name}
use Rattle.xpath_meaning.specs.Functions.{namespace_uri}
use Rattle.key_sources.proofs.Saying.{says_given, says_same}
use Rattle.xpath_nodes.specs.Held.{IsJoinedIf}
use Rattle.xpath_calls.proofs.nodes.namespace_uri_of.Goals as goal

pub namespace_uri-requires : goal.namespace_uri-requires
namespace_uri-requires g c = subst (IsJoinedIf (g.V.NodeView.sees c.args.view.now).steps) c.in-Some.is c.requires

pub returns-in-Some-clause-answers : goal.returns-in-Some-clause-answers
returns-in-Some-clause-answers g c = λ lookups. says_same (λ R. ap (of_first (part_of_name namespace_uri R)) c.in-Some.is) (c.namespace_uri.ensures.answers lookups)

pub returns-in-None-clause-answers : goal.returns-in-None-clause-answers
returns-in-None-clause-answers g c = λ lookups. says_same (λ R. ap (of_first (part_of_name namespace_uri R)) c.in-None.is) (says_given _ c.empty.result c.told.ensures c.empty.ensures)
