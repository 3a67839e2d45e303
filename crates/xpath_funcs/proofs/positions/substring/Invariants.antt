use Rattle.std.proofs.Common.{◌≡◌, ◌≤◌, ◌++◌, drop}
use Rattle.xpath_funcs.specs.Substrings.{is_at, kept_behind, substring}
use Rattle.xpath_funcs.proofs.positions.substring.Given as goal

abbrev pub invariant-loop-byte : goal.invariant-loop-byte
invariant-loop-byte l = record { counted : l.position ≤ l.byte-index; kept : l.kept ++ kept_behind (is_at l.from l.len) l.position (drop l.byte-index l.fn.a) ≡ substring l.fn.a l.from l.len }
