use Rattle.std.proofs.Common.{◌≡◌, map, take}
use Rattle.sheet_making.specs.Rules.{marked_predicate}
use Rattle.sheet_making.proofs.rules.marked_predicates.Given as goal

abbrev pub invariant-loop-predicate : goal.invariant-loop-predicate
invariant-loop-predicate l = l.made ≡ map (marked_predicate l.streams) (take l.predicate-index l.predicates)
