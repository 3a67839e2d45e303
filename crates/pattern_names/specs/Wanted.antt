-- The local name that a pattern asks for.
use Rattle.std.specs.Prelude.{ℕ, List, [], ◌∷◌, map, reverse, Option, Some, None}
use Rattle.doc_model.specs.declared.node_test.Test.{Test}
use Rattle.doc_model.specs.declared.node_test.Test.TheVariants as test
use Rattle.xpath_meaning.specs.Match.{MatchStep, match_step}
use Rattle.xpath_syntax.specs.declared.pattern.PatternPath.{PatternPath}

-- the local name, or the target, that a test asks for; none, where it asks for no one name
abbrev pub wanted_of : Test → Option (List ℕ)
wanted_of test.Any = None
wanted_of (test.Kind kind) = None
wanted_of (test.Name uri local) = Some local
wanted_of (test.InUri uri) = None
wanted_of test.AnyName = None
wanted_of (test.Target target) = Some target

-- that of the first of steps
abbrev pub wanted_first : List MatchStep → Option (List ℕ)
wanted_first [] = None
wanted_first (step ∷ steps) = wanted_of step.test

-- that of the last step of a pattern
abbrev pub wanted_by : PatternPath → Option (List ℕ)
wanted_by path = wanted_first (reverse (map match_step path.parts))
