use Rattle.std.proofs.Common.{ap, sym}
use Rattle.std.proofs.lemmas.List.{length-map}
use Rattle.xpath_grammar.specs.Productions as rule
use Rattle.xpath_grammar.specs.Reading.{read_second, read_no_number, read_wrong}
use Rattle.xpath_grammar.specs.Signs.{is_variable}
use Rattle.xpath_syntax.specs.declared.expression.Expr.TheVariants as expr
use Rattle.xpath_words.specs.Seen.{atom, seen, seen_word}
use Rattle.xpath_words.proofs.Steps.{took, took_first, took_number, number_refused, gave, missing_out, flaw_out}
use Rattle.xpath_words.proofs.leaf.atom.Goals as goal

pub returns-in-Some : goal.returns-in-Some
returns-in-Some c d = took_first c.in-Some.ensures (gave (ap expr.Literal c.in_ok-literal.ensures))

pub returns-in_err-number : goal.returns-in_err-number
returns-in_err-number c d = flaw_out d rule.primary atom (seen c.args.words.now) _ c.in-Some-after.word.text.now _ (seen c.args.words.now)
    c.in_err-number.field-0.0 c.from_residual-in_err-number.ensures.1 (sym (length-map c.args.words.now seen_word)) c.in_err-number.ensures (λ f s.
    read_second c.in_default.ensures (number_refused f c.in-Some-after.ensures s))

pub returns-in-Some-after : goal.returns-in-Some-after
returns-in-Some-after c d = read_second c.in_default.ensures (took_number c.in-Some-after.ensures c.in_ok-number.ensures.0 (gave c.in_ok-number.ensures.1))

pub returns-in_err-word : goal.returns-in_err-word
returns-in_err-word c d = missing_out d rule.primary atom (seen c.args.words.now) _ is_variable (seen c.args.words.now) c.in_err-word.field-0.0
    c.from_residual-in_err-word.ensures.1 c.in_err-word.ensures (λ s. read_second c.in_default.ensures (read_no_number c.in_default-after.ensures (read_wrong s)))

pub returns : goal.returns
returns c d = read_second c.in_default.ensures (read_no_number c.in_default-after.ensures (took c.in_ok-word.ensures (gave (ap expr.Variable c.in_ok-variable.ensures))))
