use Rattle.std.proofs.Common.{◌≡◌, ◌++◌, map, take}
use Rattle.sheet_making.specs.Sheets.{strip_rule}
use Rattle.sheet_making.proofs.tops.add_tests.Given as goal

abbrev pub invariant-loop-test : goal.invariant-loop-test
invariant-loop-test l = l.rules ≡ l.initial.rules ++ map (strip_rule l.strip) (take l.test-index l.tests)
