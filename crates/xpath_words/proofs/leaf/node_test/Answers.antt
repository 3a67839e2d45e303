use Rattle.std.proofs.Common.{ap}
use Rattle.xpath_grammar.specs.Grammar.{production}
use Rattle.xpath_grammar.specs.Productions as rule
use Rattle.xpath_grammar.specs.Reading.{read_nothing, read_second, read_wrong}
use Rattle.xpath_grammar.specs.Signs.{is_plain_name}
use Rattle.xpath_syntax.specs.declared.expression.TestExpr.TheVariants as test
use Rattle.xpath_words.specs.Seen.{behind_instruction, behind_node_type, seen}
use Rattle.xpath_words.proofs.Steps.{took, took_first, gave, answered_on, missing_out}
use Rattle.xpath_words.proofs.leaf.node_test.Goals as goal

pub returns-in-Some : goal.returns-in-Some
returns-in-Some c d = took_first c.in-Some.ensures read_nothing

pub returns-in-Some-after : goal.returns-in-Some-after
returns-in-Some-after c d = read_second c.in_default.ensures (took_first c.in-Some-after.ensures (gave (ap test.InPrefix c.in_ok-name.ensures)))

pub returns-in-Some-after-2 : goal.returns-in-Some-after-2
returns-in-Some-after-2 c d = answered_on d rule.node_test (behind_node_type c.in-Some-after-2.word.sign) (production rule.node_test)
    (seen c.in-Some-after-2.rest.now) (seen c.args.words.now) c.node_type.result (λ a h.
    read_second c.in_default.ensures (read_second c.in_default-after.ensures (took_first c.in-Some-after-2.ensures h))) (c.node_type.ensures d)

pub returns-in-Some-after-3 : goal.returns-in-Some-after-3
returns-in-Some-after-3 c d = answered_on d rule.node_test behind_instruction (production rule.node_test) (seen c.in-Some-after-3.rest.now)
    (seen c.args.words.now) c.instruction.result (λ a h.
    read_second c.in_default.ensures (read_second c.in_default-after.ensures
    (read_second c.in_default-after-2.ensures (took_first c.in-Some-after-3.ensures h)))) (c.instruction.ensures d)

pub returns-in_err-word : goal.returns-in_err-word
returns-in_err-word c d = missing_out d rule.node_test (production rule.node_test) (seen c.args.words.now) _ is_plain_name (seen c.args.words.now)
    c.in_err-word.field-0.0 c.from_residual-in_err-word.ensures.1 c.in_err-word.ensures (λ s.
    read_second c.in_default.ensures (read_second c.in_default-after.ensures
    (read_second c.in_default-after-2.ensures (read_second c.in_default-after-3.ensures (read_wrong s)))))

pub returns : goal.returns
returns c d = read_second c.in_default.ensures
    (read_second c.in_default-after.ensures (read_second c.in_default-after-2.ensures
    (read_second c.in_default-after-3.ensures (took c.in_ok-word.ensures (gave (ap test.Name c.in_ok-name-2.ensures))))))
