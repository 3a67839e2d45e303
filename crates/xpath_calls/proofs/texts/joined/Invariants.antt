use Rattle.std.proofs.Common.{◌≡◌, ◌++◌, map, drop}
use Rattle.xpath_meaning.specs.Steps.{joined}
use Rattle.xpath_calls.specs.Taken.{text_in}
use Rattle.xpath_calls.proofs.texts.joined.Given as goal

-- the text so far, and behind it those of the arguments that are left
abbrev pub invariant-loop-argument : goal.invariant-loop-argument
invariant-loop-argument l = l.text ++ joined (map text_in (drop l.argument-index l.arguments)) ≡ joined (map text_in l.arguments)
