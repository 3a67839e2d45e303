use Rattle.std.proofs.Common.{◌≡◌, drop}
use Rattle.sheet_names.specs.Declaring.{no_names}
use Rattle.sheet_names.specs.Judging.{tops}
use Rattle.sheet_names.proofs.judging.tops.Given as goal

abbrev pub invariant-loop-item : goal.invariant-loop-item
invariant-loop-item l = tops l.names no_names l.items ≡ tops l.names l.earlier (drop l.item-index l.items)
