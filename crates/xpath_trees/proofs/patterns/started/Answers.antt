use Rattle.std.proofs.lemmas.Result.{err_from_is_err_and}
use Rattle.xpath_grammar.specs.Words.{whole_numbers}
use Rattle.xpath_grammar.specs.Productions as rule
use Rattle.xpath_grammar.specs.Reading.{Reads, read_nothing, read_parts, read_part_fails}
use Rattle.xpath_words.specs.Seen.{ReadsSo, most_levels, seen}
use Rattle.xpath_words.proofs.Steps.{failed}
use Rattle.xpath_trees.specs.Patterns.{begun_by}
use Rattle.xpath_trees.proofs.PatternSteps.{viewed}
use Rattle.xpath_trees.proofs.patterns.started.Goals as goal

pub returns-in_err-parts : goal.returns-in_err-parts
returns-in_err-parts c =
    let p = err_from_is_err_and c.from_residual.result c.from_residual.ensures.1 in
    rw (p.1, p.2) (failed viewed (ReadsSo most_levels rule.pattern_steps (seen c.args.words.now)) viewed
    (Reads whole_numbers most_levels rule.pattern_path (begun_by c.args.start) (seen c.args.words.now)) c.in_err-parts.field-0.0
    (λ r h. read_part_fails h) c.in_err-parts.ensures)

pub returns : goal.returns
returns c = read_parts c.in_ok-parts.ensures read_nothing
