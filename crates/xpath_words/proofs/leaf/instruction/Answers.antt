use Rattle.std.proofs.Common.{ap, Some}
use Rattle.xpath_grammar.specs.Productions as rule
use Rattle.xpath_grammar.specs.Reading.{read_nothing, read_second, read_wrong}
use Rattle.xpath_grammar.specs.Signs.{is_open, is_close}
use Rattle.xpath_syntax.specs.declared.expression.TestExpr.TheVariants as test
use Rattle.xpath_words.specs.Seen.{behind_instruction, seen}
use Rattle.xpath_words.proofs.Steps.{took, took_first, gave, missing_out}
use Rattle.xpath_words.proofs.leaf.instruction.Goals as goal

pub returns-in_err-inner : goal.returns-in_err-inner
returns-in_err-inner c d = missing_out d rule.node_test behind_instruction (seen c.args.words.now) _ is_open (seen c.args.words.now)
    c.in_err-inner.field-0.0 c.from_residual.ensures.1 c.in_err-inner.ensures (λ s. read_wrong s)

pub returns-in_err-behind : goal.returns-in_err-behind
returns-in_err-behind c d = missing_out d rule.node_test behind_instruction (seen c.args.words.now) _ is_close (seen c.in-Some.rest.now)
    c.in_err-behind.field-0.0 c.from_residual-in_err-behind.ensures.1 c.in_err-behind.ensures (λ s.
    took c.in_ok-inner.ensures (took_first c.in-Some.ensures (read_wrong s)))

pub returns-in-Some : goal.returns-in-Some
returns-in-Some c d = took c.in_ok-inner.ensures (took_first c.in-Some.ensures (took c.in_ok-behind.ensures (gave (ap (λ l. test.Instruction (Some l)) c.in_ok-target.ensures))))

pub returns-in_err-behind-2 : goal.returns-in_err-behind-2
returns-in_err-behind-2 c d = missing_out d rule.node_test behind_instruction (seen c.args.words.now) _ is_close (seen c.in_ok-inner.inner.now)
    c.in_err-behind-2.field-0.0 c.from_residual-in_err-behind-2.ensures.1 c.in_err-behind-2.ensures (λ s.
    took c.in_ok-inner.ensures (read_second c.in_default.ensures (read_wrong s)))

pub returns : goal.returns
returns c d = took c.in_ok-inner.ensures (read_second c.in_default.ensures (took c.in_ok-behind-2.ensures read_nothing))
