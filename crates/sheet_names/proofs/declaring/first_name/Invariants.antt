use Rattle.std.proofs.Common.{◌≡◌, drop}
use Rattle.sheet_names.specs.Declaring.{first_name}
use Rattle.sheet_names.proofs.declaring.first_name.Given as goal

-- none of those before has it
abbrev pub invariant-loop-one : goal.invariant-loop-one
invariant-loop-one l = first_name l.word l.given ≡ first_name l.word (drop l.one-index l.given)
