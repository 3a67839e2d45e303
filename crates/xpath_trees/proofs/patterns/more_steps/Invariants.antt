use Rattle.std.proofs.Common.{List, length}
use Rattle.xpath_syntax.specs.declared.pattern.PatternStep.{PatternStep}
use Rattle.xpath_grammar.specs.Productions as rule
use Rattle.xpath_words.specs.Seen.{Read, ReadsSo, most_levels, seen}
use Rattle.xpath_trees.specs.Patterns.{Added}
use Rattle.xpath_trees.proofs.patterns.more_steps.Given as goal

-- whatever the words that are left answer behind the steps so far, all the words answer behind those before
abbrev pub invariant-loop-deep : goal.invariant-loop-deep
invariant-loop-deep l =
    (a : Read (List PatternStep)) → Added l.parts (ReadsSo most_levels rule.more_pattern_steps (seen l.rest)) a → Added l.fn.before (ReadsSo most_levels rule.more_pattern_steps (seen l.fn.words)) a

abbrev pub decreases-loop-deep : goal.decreases-loop-deep
decreases-loop-deep l = length l.rest
