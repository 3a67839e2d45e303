use Rattle.std.proofs.Common.{◌≡◌, map, take}
use Rattle.sheet_making.specs.Attributes.{ready_part}
use Rattle.sheet_making.specs.Scopes.{scope}
use Rattle.sheet_making.proofs.expressions.ready_parts.Given as goal

abbrev pub invariant-loop-part : goal.invariant-loop-part
invariant-loop-part l = l.made ≡ map (ready_part (scope l.making l.locals)) (take l.part-index l.part-items)
