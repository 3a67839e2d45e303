use Rattle.std.proofs.Common.{◌≡◌, ◌++◌, [], drop}
use Rattle.xpath_nodes.proofs.Finding.{words_left}
use Rattle.xpath_nodes.proofs.lookups.add_words.Given as goal

abbrev pub invariant-loop-byte : goal.invariant-loop-byte
invariant-loop-byte l = l.all ++ words_left l.word (drop l.byte-index l.text) ≡ l.fn.all ++ words_left [] l.text
