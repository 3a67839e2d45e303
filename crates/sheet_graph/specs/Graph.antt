-- The graph of what the globals of a stylesheet depend on.
use Rattle.std.specs.Prelude.{ℕ, ◌+◌, nat_lt, if◌then◌else◌, ◌==◌, true, false, List, [], ◌∷◌, ◌++◌, length, map, filter}
use Rattle.std.specs.List.{flat_map, range_with_len}
use Rattle.global_order.specs.declared.graph.Node.{Node}
use Rattle.global_order.specs.Order.{IsOrder}
use Rattle.sheet_ast.specs.declared.sheet.Global.{Global}
use Rattle.sheet_ast.specs.declared.sheet.Rule.{Rule}
use Rattle.sheet_ast.specs.declared.sheet.Sheet.{Sheet}
use Rattle.sheet_ast.specs.declared.sheet.Template.{Template}
use Rattle.xpath_meaning.specs.DocumentOrder.{bound_of}
use Rattle.sheet_graph.specs.Mentions.{Mention, Mentions, OfVariable, OfTemplate, OfMode, instruction_mentions, variable_mentions, value_mentions}

-- The nodes are the globals in the order of the sheet, then the templates, then the modes.

abbrev pub template_number : Sheet → ℕ → ℕ
template_number sheet template = length sheet.globals + template

abbrev pub mode_number : Sheet → ℕ → ℕ
mode_number sheet mode = length sheet.globals + length sheet.templates + mode

-- the node that is mentioned; a local is none, as its slot stands behind those of the globals
abbrev pub mentioned : Sheet → Mention → List ℕ
mentioned sheet (OfVariable slot) = if nat_lt slot (length sheet.globals) then slot ∷ [] else []
mentioned sheet (OfTemplate template) = template_number sheet template ∷ []
mentioned sheet (OfMode mode) = mode_number sheet mode ∷ []

abbrev pub names_of : Sheet → Mentions → List ℕ
names_of sheet mentions = flat_map (mentioned sheet) mentions

-- a global names what its value mentions
abbrev pub global_node : Sheet → Global → Node
global_node sheet global = record { is_global = true; names = names_of sheet (value_mentions global.value) }

-- a template names what its parameters and its body mention
abbrev pub template_node : Sheet → Template → Node
template_node sheet template =
    record { is_global = false; names = names_of sheet (flat_map variable_mentions template.params ++ flat_map instruction_mentions template.body) }

abbrev pub templates_of_mode : Sheet → ℕ → List ℕ
templates_of_mode sheet mode = map (λ (rule : Rule). template_number sheet rule.template) (filter (λ (rule : Rule). rule.mode == mode) sheet.rules)

-- a mode names the templates that its rules have
abbrev pub mode_node : Sheet → ℕ → Node
mode_node sheet mode = record { is_global = false; names = templates_of_mode sheet mode }

abbrev pub mode_count : Sheet → ℕ
mode_count sheet = bound_of (map (λ (rule : Rule). rule.mode) sheet.rules)

-- what the globals of a stylesheet depend on. A mode without rules is no node, and needs nothing.
unfoldable pub graph_of : Sheet → List Node
graph_of sheet = map (global_node sheet) sheet.globals ++ map (template_node sheet) sheet.templates ++ map (mode_node sheet) (range_with_len 0 (mode_count sheet))

-- the order in which the globals of a stylesheet are evaluated
abbrev pub IsOrderOf : Sheet → List ℕ → Type 0
IsOrderOf sheet order = IsOrder (graph_of sheet) order
