use Rattle.xpath_grammar.specs.Productions as rule
use Rattle.xpath_grammar.specs.Reading.{read_second}
use Rattle.xpath_words.specs.Seen.{ReadsSo, most_levels, seen}
use Rattle.xpath_words.proofs.Steps.{answered, took_first}
use Rattle.xpath_trees.proofs.PatternSteps.{viewed}
use Rattle.xpath_trees.proofs.patterns.pattern_path.Goals as goal

pub returns-in-Some : goal.returns-in-Some
returns-in-Some c =
    answered viewed (ReadsSo most_levels rule.pattern_path (seen c.args.words.now)) c.from_root.result
    (λ a h. took_first c.in-Some.ensures h) c.from_root.ensures

pub returns-in-Some-after : goal.returns-in-Some-after
returns-in-Some-after c =
    answered viewed (ReadsSo most_levels rule.pattern_path (seen c.args.words.now)) c.started.result
    (λ a h. read_second c.in_default.ensures (took_first c.in-Some-after.ensures h)) c.started.ensures

pub returns-in-Some-after-2 : goal.returns-in-Some-after-2
returns-in-Some-after-2 c =
    answered viewed (ReadsSo most_levels rule.pattern_path (seen c.args.words.now)) c.id.result
    (λ a h. read_second c.in_default.ensures (read_second c.in_default-after.ensures (took_first c.in-Some-after-2.ensures h))) c.id.ensures

pub returns-in-Some-after-3 : goal.returns-in-Some-after-3
returns-in-Some-after-3 c =
    answered viewed (ReadsSo most_levels rule.pattern_path (seen c.args.words.now)) c.key.result
    (λ a h. read_second c.in_default.ensures (read_second c.in_default-after.ensures (read_second c.in_default-after-2.ensures (took_first c.in-Some-after-3.ensures h)))) c.key.ensures

pub returns : goal.returns
returns c =
    answered viewed (ReadsSo most_levels rule.pattern_path (seen c.args.words.now)) c.started-2.result
    (λ a h. read_second c.in_default.ensures (read_second c.in_default-after.ensures (read_second c.in_default-after-2.ensures (read_second c.in_default-after-3.ensures h)))) c.started-2.ensures
