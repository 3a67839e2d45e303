use Rattle.std.proofs.Common.{◌≡◌, ◌+◌, min, take}
use Rattle.std.specs.Str.Parse.{digits_value}
use Rattle.whole_num.specs.Number.{greatest}
use Rattle.whole_num.proofs.reading.magnitude.Given as goal

abbrev pub invariant-loop-d : goal.invariant-loop-d
invariant-loop-d l = l.magnitude ≡ min (digits_value 10 (take l.d-index l.digits)) (greatest + 1)
