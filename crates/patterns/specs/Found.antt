-- Nodes of a value.
use Rattle.std.specs.Prelude.{ℕ, Bool, false}
use Rattle.doc_model.specs.Document.{is_member}
use Rattle.xpath_values.specs.declared.value.Value.{Value}
use Rattle.xpath_values.specs.declared.value.Value.TheVariants.{Nodes, Atom, Fragment}

-- the value is a node-set with this node
abbrev pub has_node : ℕ → Value → Bool
has_node n (Nodes nodes) = is_member n nodes
has_node n (Atom atom) = false
has_node n (Fragment events) = false
