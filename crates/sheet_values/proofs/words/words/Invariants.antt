use Rattle.std.proofs.Common.{◌≡◌, ◌++◌, drop}
use Rattle.xpath_funcs.specs.Spaces.{words}
use Rattle.sheet_values.specs.Words.{words_from}
use Rattle.sheet_values.proofs.words.words.Given as goal

abbrev pub invariant-loop-byte : goal.invariant-loop-byte
invariant-loop-byte l = l.words ++ words_from l.word (drop l.byte-index l.fn.text) ≡ words l.fn.text
