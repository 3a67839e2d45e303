use Rattle.std.proofs.Common.{false, subst}
use Rattle.std.proofs.lemmas.Result.{err_from_is_err_and}
use Rattle.xpath_grammar.specs.Productions as rule
use Rattle.xpath_grammar.specs.Grammar.{pattern_step_of}
use Rattle.xpath_grammar.specs.Reading.{read_part_fails}
use Rattle.xpath_words.specs.Seen.{ReadsSo, most_levels, seen}
use Rattle.xpath_words.proofs.Steps.{answered, failed}
use Rattle.xpath_trees.specs.Patterns.{Added}
use Rattle.xpath_trees.proofs.PatternSteps.{viewed, pushed_first, steps_begin}
use Rattle.xpath_trees.proofs.patterns.steps.Goals as goal

pub returns-in_err-part : goal.returns-in_err-part
returns-in_err-part c =
    let p = err_from_is_err_and c.from_residual.result c.from_residual.ensures.1 in
    rw (p.1, p.2) (failed viewed (ReadsSo most_levels rule.pattern_step (seen c.args.words.now)) viewed (ReadsSo most_levels rule.pattern_steps (seen c.args.words.now)) c.in_err-part.field-0.0
    (λ r h. read_part_fails h) c.in_err-part.ensures)

pub returns : goal.returns
returns c =
    answered viewed (ReadsSo most_levels rule.pattern_steps (seen c.args.words.now)) c.more_steps.result
    (λ a h. steps_begin most_levels (seen c.args.words.now) (seen c.in_ok-part.rest.now) c.in_ok-part.part c.in_ok-part.ensures a
    (subst (λ before. Added before (ReadsSo most_levels rule.more_pattern_steps (seen c.in_ok-part.rest.now)) a)
    (pushed_first c.new-parts.result c.push.new.self (pattern_step_of false c.in_ok-part.part) c.new-parts.ensures c.in_ok-push.ensures.ok) h)) c.more_steps.ensures
