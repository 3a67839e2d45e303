use Rattle.std.proofs.Common.{◌≡◌, map, take}
use Rattle.xpath_core.specs.Left.{test_in}
use Rattle.xpath_core.proofs.levels.tests_of.Given as goal

abbrev pub invariant-loop-part : goal.invariant-loop-part
invariant-loop-part l = l.tests ≡ map test_in (take l.part-index l.parts)
