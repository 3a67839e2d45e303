use Rattle.std.proofs.Common.{◌≡◌, take}
use Rattle.sheet_making.specs.Sheets.{strips}
use Rattle.sheet_making.proofs.tops.strips.Given as goal

abbrev pub invariant-loop-item : goal.invariant-loop-item
invariant-loop-item l = l.all ≡ strips (take l.item-index l.items)
