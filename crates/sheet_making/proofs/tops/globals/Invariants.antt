use Rattle.std.proofs.Common.{◌≡◌, take}
use Rattle.sheet_making.specs.Sheets.{globals}
use Rattle.sheet_making.proofs.tops.globals.Given as goal

abbrev pub invariant-loop-item : goal.invariant-loop-item
invariant-loop-item l = l.all ≡ globals l.making.names.now l.making.streams (take l.item-index l.items)
