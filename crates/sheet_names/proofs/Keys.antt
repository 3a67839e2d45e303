-- Names by their keys.
use Rattle.std.proofs.Common.{◌≡◌, ap}
use Rattle.sheet_names.specs.contracts.name_set.ExpandedNamePartialEq.TheImpl.{eq-value}
use Rattle.sheet_names.specs.declared.name_set.ExpandedName.{ExpandedName}
use Rattle.sheet_names.specs.Keys.{name_of_key}
use Rattle.sheet_names.specs.Names.{Name, same_name}

pub same_key : (key : ExpandedName) (x : Name) → name_of_key key ≡ x → (k : ExpandedName) → eq-value.it key k ≡ same_name x (name_of_key k)
same_key key x is k = ap (λ (y : Name). same_name y (name_of_key k)) is
