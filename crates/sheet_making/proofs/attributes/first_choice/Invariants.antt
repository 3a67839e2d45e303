use Rattle.std.proofs.Common.{◌≡◌, drop}
use Rattle.sheet_making.specs.Attributes.{choice_in}
use Rattle.sheet_names.specs.Values.{first_value}
use Rattle.sheet_making.proofs.attributes.first_choice.Given as goal

-- none of those before has it
abbrev pub invariant-loop-one : goal.invariant-loop-one
invariant-loop-one l = first_value choice_in l.word l.given ≡ first_value choice_in l.word (drop l.one-index l.given)
