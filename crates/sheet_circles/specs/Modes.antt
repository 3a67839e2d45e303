-- The nodes of modes while rules are looked at.
use Rattle.std.specs.Prelude.{ℕ, false, List, [], ◌∷◌, ◌++◌, ◌==◌, map, filter, unwrap_or, slice_get, slice_set}
use Rattle.global_order.specs.declared.graph.Node.{Node}
use Rattle.sheet_ast.specs.declared.sheet.Rule.{Rule}
use Rattle.sheet_ast.specs.declared.sheet.Sheet.{Sheet}
use Rattle.sheet_graph.specs.Graph.{template_number}

abbrev pub empty_node : ℕ → Node
empty_node mode = record { is_global = false; names = [] }

abbrev pub naming : Node → ℕ → Node
naming node name = record { is_global = node.is_global; names = node.names ++ name ∷ [] }

-- the node at a place names one more
abbrev pub node_by : ℕ → ℕ → List Node → List Node
node_by at name nodes = slice_set nodes at (naming (unwrap_or (slice_get nodes at) (empty_node at)) name)

-- a mode names the templates of those of these rules that are of the mode
abbrev pub node_of : Sheet → List Rule → ℕ → Node
node_of sheet rules mode =
    record { is_global = false; names = map (λ (rule : Rule). template_number sheet rule.template) (filter (λ (rule : Rule). rule.mode == mode) rules) }
