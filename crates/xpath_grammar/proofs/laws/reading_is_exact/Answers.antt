use Rattle.xpath_grammar.proofs.Exact.{ends_so}
use Rattle.xpath_grammar.proofs.laws.reading_is_exact.Goals as goal

pub returns : goal.returns
returns c = λ limit d v ws a r. ends_so r
