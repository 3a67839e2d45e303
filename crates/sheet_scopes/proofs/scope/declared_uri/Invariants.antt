use Rattle.std.proofs.Common.{◌≡◌}
use Rattle.xml_names.specs.Bindings.{uri_in}
use Rattle.sheet_scopes.specs.Scopes.{in_force}
use Rattle.sheet_scopes.proofs.scope.declared_uri.Given as goal

-- no declaration inside has the prefix
abbrev pub invariant-loop-entry : goal.invariant-loop-entry
invariant-loop-entry l = uri_in l.prefix (in_force l.entries l.at) ≡ uri_in l.prefix (in_force l.entries l.scope)

abbrev pub decreases-loop-entry : goal.decreases-loop-entry
decreases-loop-entry l = l.scope
