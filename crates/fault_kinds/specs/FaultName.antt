-- The names of the faults, as console lines print them.
use Rattle.std.specs.Prelude.{ℕ, List, codes}
use Rattle.fault_kinds.specs.declared.fault.FaultKind.{FaultKind}
use Rattle.fault_kinds.specs.declared.fault.FaultKind.TheVariants.{Budget, TooDeep, Terminated, NumberRange, Fraction, NotNodeSet, BadName, UnboundPrefix}

-- the name of the variant
abbrev pub fault_name : FaultKind → List ℕ
fault_name Budget = codes "Budget"
fault_name TooDeep = codes "TooDeep"
fault_name Terminated = codes "Terminated"
fault_name NumberRange = codes "NumberRange"
fault_name Fraction = codes "Fraction"
fault_name NotNodeSet = codes "NotNodeSet"
fault_name BadName = codes "BadName"
fault_name UnboundPrefix = codes "UnboundPrefix"
