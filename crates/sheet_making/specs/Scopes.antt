-- What an element is made with.
use Rattle.std.specs.Prelude.{Bool, List}
use Rattle.sheet_making.specs.declared.scope.Making.{Making}
use Rattle.sheet_names.specs.declared.declaring.Names.{Names}
use Rattle.sheet_names.specs.Names.{Name}

-- the names of the stylesheet, the locals in scope, and whether the nodes of its paths may be taken one by one
pub record Scope : Type 0 where
  pub names : Names
  pub locals : List Name
  pub streams : Bool

abbrev pub scope : Making → List Name → Scope
scope making locals = record { names = making.names.now; locals = locals; streams = making.streams }
