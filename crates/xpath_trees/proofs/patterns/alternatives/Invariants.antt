use Rattle.std.proofs.Common.{List, length}
use Rattle.xpath_syntax.specs.declared.pattern.PatternPath.{PatternPath}
use Rattle.xpath_grammar.specs.Productions as rule
use Rattle.xpath_words.specs.Seen.{Read, ReadsSo, most_levels, seen}
use Rattle.xpath_trees.specs.Patterns.{Added}
use Rattle.xpath_trees.proofs.PatternSteps.{as_pattern}
use Rattle.xpath_trees.proofs.patterns.alternatives.Given as goal

-- whatever the words that are left answer behind the paths so far, all the words answer
abbrev pub invariant-loop-next : goal.invariant-loop-next
invariant-loop-next l =
    (a : Read (List PatternPath)) → Added l.paths (ReadsSo most_levels rule.more_patterns (seen l.rest)) a → ReadsSo most_levels rule.pattern (seen l.fn.words) (as_pattern a)

abbrev pub decreases-loop-next : goal.decreases-loop-next
decreases-loop-next l = length l.rest
