use Rattle.std.proofs.Common.{subst}
use Rattle.std.proofs.lemmas.Result.{err_from_is_err_and}
use Rattle.xpath_syntax.specs.declared.expression.AxisName.TheVariants as axis
use Rattle.xpath_grammar.specs.Signs.{axis_of}
use Rattle.xpath_grammar.specs.Productions as rule
use Rattle.xpath_grammar.specs.Reading.{read_wrong, read_second}
use Rattle.xpath_words.specs.Seen.{ReadsSo, most_levels, seen}
use Rattle.xpath_words.proofs.Steps.{answered, missing, took, took_first}
use Rattle.xpath_trees.proofs.PatternSteps.{viewed, tested_alone}
use Rattle.xpath_trees.proofs.patterns.step.Goals as goal

pub returns-in-Some : goal.returns-in-Some
returns-in-Some c =
    answered viewed (ReadsSo most_levels rule.pattern_step (seen c.args.words.now)) c.tested.result
    (λ a h. took_first c.in-Some.ensures (tested_alone most_levels axis.Attribute (seen c.in-Some.rest.now) a h)) c.tested.ensures

pub returns-in_err-rest : goal.returns-in_err-rest
returns-in_err-rest c =
    let p = err_from_is_err_and c.from_residual.result c.from_residual.ensures.1 in
    rw (p.1, p.2) (missing viewed (ReadsSo most_levels rule.pattern_step (seen c.args.words.now)) (seen c.in-Some-after.rest.now) c.in_err-rest.field-0.0 c.in_err-rest.ensures.1
    (read_second c.in_default.ensures (took_first c.in-Some-after.ensures (read_wrong c.in_err-rest.ensures.0))))

pub returns-in-Some-after : goal.returns-in-Some-after
returns-in-Some-after c =
    answered viewed (ReadsSo most_levels rule.pattern_step (seen c.args.words.now)) c.tested-in-Some-after.result
    (λ a h. read_second c.in_default.ensures (took_first c.in-Some-after.ensures (took c.in_ok-rest.ensures (tested_alone most_levels (axis_of c.in-Some-after.word.sign) (seen c.in_ok-rest.rest.now) a
    (subst (λ x. ReadsSo most_levels (rule.tested x) (seen c.in_ok-rest.rest.now) a) c.axis_of.ensures h))))) c.tested-in-Some-after.ensures

pub returns : goal.returns
returns c =
    answered viewed (ReadsSo most_levels rule.pattern_step (seen c.args.words.now)) c.tested-2.result
    (λ a h. read_second c.in_default.ensures (read_second c.in_default-after.ensures (tested_alone most_levels axis.Child (seen c.args.words.now) a h))) c.tested-2.ensures
