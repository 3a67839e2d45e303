use Rattle.std.proofs.Common.{◌≡◌, drop}
use Rattle.sheet_names.specs.Declaring.{names_from, no_names}
use Rattle.sheet_names.proofs.declaring.names_of.Given as goal

abbrev pub invariant-loop-item : goal.invariant-loop-item
invariant-loop-item l = names_from no_names l.items ≡ names_from l.names (drop l.item-index l.items)
