use Rattle.std.proofs.Common.{Ok, subst, sym}
use Rattle.xpath_syntax.specs.declared.pattern.PatternStart.TheVariants as start
use Rattle.xpath_grammar.specs.Words.{whole_numbers}
use Rattle.xpath_grammar.specs.Productions as rule
use Rattle.xpath_grammar.specs.Grammar.{pattern_path_of}
use Rattle.xpath_grammar.specs.Reading.{Reads, read_nothing, read_first, read_second}
use Rattle.xpath_words.specs.Seen.{most_levels, seen}
use Rattle.xpath_words.proofs.Steps.{answered}
use Rattle.xpath_trees.specs.Patterns.{behind_root}
use Rattle.xpath_trees.proofs.PatternSteps.{viewed}
use Rattle.xpath_trees.proofs.patterns.from_root.Goals as goal

pub returns-then-comes : goal.returns-then-comes
returns-then-comes c =
    answered viewed (Reads whole_numbers most_levels rule.pattern_path behind_root (seen c.args.rest.now)) c.started.result
    (λ a h. read_first c.if-comes.ensures h) c.started.ensures

pub returns : goal.returns
returns c =
    subst (λ parts. Reads whole_numbers most_levels rule.pattern_path behind_root (seen c.args.rest.now) (Ok (pattern_path_of start.Root parts, seen c.args.rest.now))) (sym c.new.ensures)
    (read_second c.if-comes.ensures read_nothing)
