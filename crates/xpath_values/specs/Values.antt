-- The boolean of a value (XPath 1.0, section 4.3).
use Rattle.std.specs.Prelude.{Bool, true, not, ◌==◌, length}
use Rattle.xpath_values.specs.declared.value.Value.{Value}
use Rattle.xpath_values.specs.declared.value.Value.TheVariants as value
use Rattle.xpath_values.specs.Conversions.{truth_of}

-- a node-set is true if it isn't empty, a fragment always
abbrev pub truth_of_value : Value → Bool
truth_of_value (value.Nodes nodes) = not (length nodes == 0)
truth_of_value (value.Atom atom) = truth_of atom
truth_of_value (value.Fragment events) = true
