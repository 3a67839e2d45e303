-- A choice as the code has it.
use Rattle.std.specs.Prelude.{◌≡◌, ℕ, List, true, false, if◌then◌else◌}
use Rattle.pyx_output.specs.Declaring.{Choice, as_it_stands, declaring}
use Rattle.xml_names.specs.Bindings.{is_fixed}
use Rattle.pyx_output.specs.declared.choosing.Chosen.{Chosen}

abbrev pub choice_of : Chosen → List ℕ → Choice
choice_of chosen uri = if chosen.declares then declaring chosen.prefix uri else as_it_stands chosen.prefix

-- what is declared may be
abbrev pub CanDeclare : Chosen → Type 0
CanDeclare chosen = chosen.declares ≡ true → is_fixed chosen.prefix ≡ false
