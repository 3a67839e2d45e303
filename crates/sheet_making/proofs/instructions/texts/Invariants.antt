use Rattle.std.proofs.Common.{◌≡◌, take}
use Rattle.sheet_making.specs.Instructions.{texts}
use Rattle.sheet_making.proofs.instructions.texts.Given as goal

abbrev pub invariant-loop-item : goal.invariant-loop-item
invariant-loop-item l = l.all ≡ texts (take l.item-index l.items)
