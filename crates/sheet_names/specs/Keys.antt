-- The names that keys stand for.
use Rattle.sheet_names.specs.declared.name_set.ExpandedName.{ExpandedName}
use Rattle.sheet_names.specs.Names.{Name}

abbrev pub name_of_key : ExpandedName → Name
name_of_key key = record { local = key.local.items; uri = key.uri.items }
