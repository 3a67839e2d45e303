-- What stands around an expression, as names are judged by it.
use Rattle.std.specs.Prelude.{option_map}
use Rattle.std.specs.Borrow.{Bor}
use Rattle.xpath_binding.specs.declared.around.Around.{Around}
use Rattle.xpath_binding.specs.declared.names.VarNames.{VarNames}
use Rattle.xpath_binding.specs.Names.{resolution}
use Rattle.xpath_binding.specs.Scope.{Scope}

abbrev pub scope : Around → Scope
scope around = record {
  uris = resolution around.scopes.now;
  vars = option_map (λ (vars : Bor VarNames). vars.now) around.vars;
  in_pattern = around.in_pattern;
}
