use Rattle.std.proofs.Common.{◌≡◌, drop}
use Rattle.std.specs.Option.{option_or}
use Rattle.sheet_making.specs.Sheets.{last_method}
use Rattle.sheet_making.proofs.tops.last_method.Given as goal

abbrev pub invariant-loop-item : goal.invariant-loop-item
invariant-loop-item l = last_method l.items ≡ option_or (last_method (drop l.item-index l.items)) l.last
