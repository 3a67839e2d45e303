use Rattle.std.proofs.Common.{◌≡◌, take}
use Rattle.sheet_making.specs.Sheets.{templates}
use Rattle.sheet_making.proofs.tops.templates.Given as goal

abbrev pub invariant-loop-item : goal.invariant-loop-item
invariant-loop-item l = l.all ≡ templates l.making.names.now l.making.streams (take l.item-index l.items)
