use Rattle.std.proofs.Common.{◌≡◌, sym, ap, ◌∙◌, map, take, List}
use Rattle.sheet_ast.specs.declared.sheet.Rule.{Rule}
use Rattle.sheet_graph.specs.Graph.{mode_count}
use Rattle.xpath_meaning.specs.DocumentOrder.{bound_of}
use Rattle.sheet_circles.specs.Modes.{node_of}
use Rattle.sheet_circles.proofs.Bounds.{has_node}
use Rattle.sheet_circles.proofs.ModeNodes.{mode_named, node_there}
use Rattle.sheet_circles.proofs.modes.mode_nodes.Goals as goal

pub add_name-requires : goal.add_name-requires
add_name-requires c = node_there c.loop-rule.nodes (node_of c.args.sheet.now (take c.loop-rule.rule-index c.as_slice-rule-items.result.now)) (mode_count c.args.sheet.now) c.rule-item.result.mode
    c.loop-rule.invariant (has_node c.as_slice-rule-items.result.now c.loop-rule.rule-index (mode_count c.args.sheet.now) c.rule-item.result c.loop-rule-test.true c.rule-item.is
    (sym (ap (λ (rules : List Rule). bound_of (map (λ (r : Rule). r.mode) rules)) c.as_slice-rule-items.ensures)))

pub loop-rule-preserved : goal.loop-rule-preserved
loop-rule-preserved c = mode_named c.args.sheet.now c.as_slice-rule-items.result.now c.loop-rule.rule-index (mode_count c.args.sheet.now) c.in_ok-name.name c.rule-item.result c.loop-rule.nodes
    c.add_name.new.nodes c.loop-rule-test.true c.rule-item.is
    (has_node c.as_slice-rule-items.result.now c.loop-rule.rule-index (mode_count c.args.sheet.now) c.rule-item.result c.loop-rule-test.true c.rule-item.is
    (sym (ap (λ (rules : List Rule). bound_of (map (λ (r : Rule). r.mode) rules)) c.as_slice-rule-items.ensures)))
    c.in_ok-name.ensures c.loop-rule.invariant c.in_ok-add_name.ensures
