use Rattle.std.proofs.Common.{take}
use Rattle.xpath_words.specs.Words.{WordsAre}
use Rattle.xpath_words.proofs.word.words.Given as goal

abbrev pub invariant-loop-token : goal.invariant-loop-token
invariant-loop-token l = WordsAre l.text (take l.token-index l.tokens) l.words
