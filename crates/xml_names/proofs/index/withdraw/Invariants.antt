use Rattle.std.proofs.Common.{◌≡◌, take}
use Rattle.xml_names.specs.Kept.{IsIndexed}
use Rattle.xml_names.proofs.index.withdraw.Given as goal

abbrev pub invariant-loop-declarations : goal.invariant-loop-declarations
invariant-loop-declarations l = IsIndexed l.declarations.items l.latest × (take l.start l.declarations.items ≡ take l.start l.initial.declarations.items)

abbrev pub decreases-loop-declarations : goal.decreases-loop-declarations
decreases-loop-declarations l = goal.left-loop-declarations l
