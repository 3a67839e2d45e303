use Rattle.std.proofs.Common.{sym}
use Rattle.std.proofs.lemmas.List.{length-map}
use Rattle.xpath_grammar.specs.Reading.{read_no_level}
use Rattle.xpath_words.specs.Seen.{seen, seen_word}
use Rattle.xpath_words.proofs.Steps.{gave, no_level_left}
use Rattle.xpath_words.proofs.leaf.no_predicates.Goals as goal

pub returns-then-comes : goal.returns-then-comes
returns-then-comes c = (seen c.args.words.now, no_level_left (seen c.args.words.now) c.if-comes.ensures, sym (length-map c.args.words.now seen_word))

pub returns-else-comes : goal.returns-else-comes
returns-else-comes c = read_no_level c.if-comes.ensures (gave c.new.ensures)
