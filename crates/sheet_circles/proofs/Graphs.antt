-- The nodes of globals, templates and modes, one after the other.
use Rattle.std.proofs.Common.{◌≡◌, refl, sym, ap, ◌∙◌, List, [], ◌++◌, map}
use Rattle.std.specs.List.{range_with_len}
use Rattle.global_order.specs.declared.graph.Node.{Node}
use Rattle.sheet_ast.specs.declared.sheet.Sheet.{Sheet}
use Rattle.sheet_graph.specs.Graph.{global_node, template_node, mode_node, mode_count, graph_of}

graph_is : (sheet : Sheet)
    → graph_of sheet ≡ map (global_node sheet) sheet.globals ++ map (template_node sheet) sheet.templates ++ map (mode_node sheet) (range_with_len 0 (mode_count sheet))
unfolding graph_of
graph_is sheet = refl

pub graph_made : (sheet : Sheet) (none first second third modes : List Node) → none ≡ [] → first ≡ none ++ map (global_node sheet) sheet.globals
    → second ≡ first ++ map (template_node sheet) sheet.templates → modes ≡ map (mode_node sheet) (range_with_len 0 (mode_count sheet)) → third ≡ second ++ modes
    → third ≡ graph_of sheet
graph_made sheet none first second third modes empty globals templates counted all =
    all ∙ ap (λ ns. second ++ ns) counted
    ∙ ap (λ ns. ns ++ map (mode_node sheet) (range_with_len 0 (mode_count sheet))) (templates ∙ ap (λ ns. ns ++ map (template_node sheet) sheet.templates)
    (globals ∙ ap (λ ns. ns ++ map (global_node sheet) sheet.globals) empty))
    ∙ sym (graph_is sheet)
