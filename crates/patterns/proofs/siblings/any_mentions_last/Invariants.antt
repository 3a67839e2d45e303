use Rattle.std.proofs.Common.{◌≡◌, drop}
use Rattle.xpath_meaning.specs.Match.{mentions_last}
use Rattle.patterns.proofs.siblings.any_mentions_last.Given as goal

abbrev pub invariant-loop-predicate : goal.invariant-loop-predicate
invariant-loop-predicate l = mentions_last (drop l.predicate-index l.predicates) ≡ mentions_last l.predicates
