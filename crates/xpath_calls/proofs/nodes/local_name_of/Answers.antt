use Rattle.std.proofs.Common.{ap, subst}
use Rattle.xpath_meaning.specs.Calls.{of_first, part_of_name}
use Rattle.xpath_meaning.specs.Functions.{local_name}
use Rattle.key_sources.proofs.Saying.{says_given, says_same}
use Rattle.xpath_nodes.specs.Held.{IsJoinedIf}
use Rattle.xpath_calls.proofs.nodes.local_name_of.Goals as goal

pub local_name-requires : goal.local_name-requires
local_name-requires g c = subst (IsJoinedIf (g.V.NodeView.sees c.args.view.now).steps) c.in-Some.is c.requires

pub returns-in-Some-clause-answers : goal.returns-in-Some-clause-answers
returns-in-Some-clause-answers g c = λ lookups. says_same (λ R. ap (of_first (part_of_name local_name R)) c.in-Some.is) (c.local_name.ensures.answers lookups)

pub returns-in-None-clause-answers : goal.returns-in-None-clause-answers
returns-in-None-clause-answers g c = λ lookups. says_same (λ R. ap (of_first (part_of_name local_name R)) c.in-None.is) (says_given _ c.empty.result c.told.ensures c.empty.ensures)
