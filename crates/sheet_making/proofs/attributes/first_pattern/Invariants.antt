use Rattle.std.proofs.Common.{◌≡◌, drop}
use Rattle.sheet_making.specs.Attributes.{pattern_in}
use Rattle.sheet_names.specs.Values.{first_value}
use Rattle.sheet_making.proofs.attributes.first_pattern.Given as goal

-- none of those before has it
abbrev pub invariant-loop-one : goal.invariant-loop-one
invariant-loop-one l = first_value pattern_in l.word l.given ≡ first_value pattern_in l.word (drop l.one-index l.given)
