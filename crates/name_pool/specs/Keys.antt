-- What a map has at a key.
use Rattle.std.specs.Prelude.{ℕ, Option}
use Rattle.std.specs.declared.cmp.Ordering.{Ordering}
use Rattle.std.specs.Ordering.{nat_cmp, ordering_then}
use Rattle.std.specs.BTreeMap.{BTreeMap, get}
use Rattle.name_pool.specs.declared.type_numbers.TypeKey.{TypeKey}

-- keys are compared by their fields in turn
abbrev pub key_cmp : TypeKey → TypeKey → Ordering
key_cmp a b = ordering_then (nat_cmp a.kind b.kind) (ordering_then (nat_cmp a.uri b.uri) (nat_cmp a.local b.local))

abbrev pub key_number : BTreeMap TypeKey ℕ → TypeKey → Option ℕ
key_number m key = get key_cmp m key
