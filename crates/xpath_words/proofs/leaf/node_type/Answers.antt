use Rattle.xpath_grammar.specs.Productions as rule
use Rattle.xpath_grammar.specs.Reading.{read_wrong}
use Rattle.xpath_grammar.specs.Signs.{is_open, is_close}
use Rattle.xpath_words.specs.Seen.{behind_node_type, seen}
use Rattle.xpath_words.proofs.Steps.{took, gave, missing_out}
use Rattle.xpath_words.proofs.leaf.node_type.Goals as goal

pub returns-in_err-inner : goal.returns-in_err-inner
returns-in_err-inner c d = missing_out d rule.node_test (behind_node_type c.args.sign) (seen c.args.words.now) _ is_open (seen c.args.words.now)
    c.in_err-inner.field-0.0 c.from_residual.ensures.1 c.in_err-inner.ensures (λ s. read_wrong s)

pub returns-in_err-behind : goal.returns-in_err-behind
returns-in_err-behind c d = missing_out d rule.node_test (behind_node_type c.args.sign) (seen c.args.words.now) _ is_close (seen c.in_ok-inner.inner.now)
    c.in_err-behind.field-0.0 c.from_residual-in_err-behind.ensures.1 c.in_err-behind.ensures (λ s. took c.in_ok-inner.ensures (read_wrong s))

pub returns : goal.returns
returns c d = took c.in_ok-inner.ensures (took c.in_ok-behind.ensures (gave c.test_of.ensures))
