use Rattle.std.proofs.Common.{◌≡◌, ◌++◌, drop}
use Rattle.std.specs.List.{flat_map}
use Rattle.xpath_funcs.specs.Spaces.{words}
use Rattle.xpath_nodes.proofs.lookups.words_of.Given as goal

abbrev pub invariant-loop-text : goal.invariant-loop-text
invariant-loop-text l = l.all ++ flat_map words (drop l.text-index l.texts) ≡ flat_map words l.texts
