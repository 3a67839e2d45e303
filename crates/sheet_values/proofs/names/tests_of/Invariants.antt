use Rattle.std.proofs.Common.{◌≡◌, drop}
use Rattle.xpath_binding.specs.Names.{resolution}
use Rattle.sheet_values.specs.Names.{test_of}
use Rattle.sheet_values.specs.Refusals.{each}
use Rattle.sheet_values.proofs.Loops.{prepend}
use Rattle.sheet_values.proofs.names.tests_of.Given as goal

abbrev pub invariant-loop-word : goal.invariant-loop-word
invariant-loop-word l = each (test_of (resolution l.scopes)) l.words ≡ prepend l.tests (each (test_of (resolution l.scopes)) (drop l.word-index l.words))
