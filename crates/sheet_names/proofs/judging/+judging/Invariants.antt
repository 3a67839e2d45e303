use Rattle.std.proofs.Common.{◌≡◌, ◌≤◌, drop, length, take}
use Rattle.sheet_names.specs.Judging.{all, checked}
use Rattle.sheet_names.proofs.judging.+judging.Given as goal

-- what the rest answers, the whole answers; and the first locals stay
abbrev pub invariant-all-loop-one : goal.invariant-all-loop-one
invariant-all-loop-one l = record {
  equal : all (checked l.levels l.names) l.initial.locals l.items ≡ all (checked l.levels l.names) l.locals (drop l.one-index l.items);
  longer : l.kept ≤ length l.locals;
  same : take l.kept l.locals ≡ l.initial.locals;
}
