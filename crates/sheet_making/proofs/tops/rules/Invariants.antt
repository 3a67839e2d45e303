use Rattle.std.proofs.Common.{◌≡◌, ◌++◌, drop}
use Rattle.sheet_making.specs.Sheets.{rules_from}
use Rattle.sheet_making.proofs.tops.rules.Given as goal

abbrev pub invariant-loop-item : goal.invariant-loop-item
invariant-loop-item l = rules_from l.making.names.now l.making.streams 0 l.items ≡ l.all ++ rules_from l.making.names.now l.making.streams l.place (drop l.item-index l.items)
