use Rattle.std.proofs.Common.{◌≡◌, map, take, string_bytes}
use Rattle.cmd_words.specs.Pairs.{pairs_of}
use Rattle.cmd_words.proofs.pair.pairs.Given as goal

abbrev pub invariant-loop-word : goal.invariant-loop-word
invariant-loop-word l = l.pairs ≡ pairs_of (map string_bytes (take l.word-index l.words))
