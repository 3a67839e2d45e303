use Rattle.std.proofs.Common.{◌≡◌, ◌++◌, length, drop}
use Rattle.sheet_source.specs.Scopes.{entries_of, scope_of}
use Rattle.sheet_source.proofs.building.declare.Given as goal

-- the rest of the declarations goes on from here
abbrev pub invariant-loop-binding : goal.invariant-loop-binding
invariant-loop-binding l =
    (scope_of l.fn.outer (length l.initial.scopes) l.declarations ≡ scope_of l.scope (length l.scopes) (drop l.binding-index l.declarations))
    × (l.initial.scopes ++ entries_of l.fn.outer (length l.initial.scopes) l.declarations ≡ l.scopes ++ entries_of l.scope (length l.scopes) (drop l.binding-index l.declarations))
