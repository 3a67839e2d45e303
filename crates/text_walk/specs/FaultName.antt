-- The names of the faults, as console lines print them.
use Rattle.std.specs.Prelude.{ℕ, List, codes}
use Rattle.text_walk.specs.declared.fault.FaultKind.{FaultKind}
use Rattle.text_walk.specs.declared.fault.FaultKind.TheVariants.{TooDeep}

-- the name of the variant
abbrev pub fault_name : FaultKind → List ℕ
fault_name TooDeep = codes "TooDeep"
