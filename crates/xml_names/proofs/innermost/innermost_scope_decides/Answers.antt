use Rattle.std.proofs.Common.{ap}
use Rattle.xml_names.specs.Bindings.{unless_empty, all_bindings}
use Rattle.xml_names.proofs.Places.{uri_in_front, uri_in_back}
use Rattle.xml_names.proofs.innermost.innermost_scope_decides.Goals as goal

pub returns-clause-binds : goal.returns-clause-binds
returns-clause-binds c = λ inner outer prefix uri is. ap unless_empty (uri_in_front prefix inner (all_bindings outer) uri is)

pub returns-clause-passes : goal.returns-clause-passes
returns-clause-passes c = λ inner outer prefix is. ap unless_empty (uri_in_back prefix inner (all_bindings outer) is)
