use Rattle.std.proofs.Common.{◌≡◌, take, map}
use Rattle.sheet_ast.specs.declared.sheet.Rule.{Rule}
use Rattle.xpath_meaning.specs.DocumentOrder.{bound_of}
use Rattle.sheet_circles.proofs.modes.count_modes.Given as goal

abbrev pub invariant-loop-rule : goal.invariant-loop-rule
invariant-loop-rule l = l.count ≡ bound_of (map (λ (rule : Rule). rule.mode) (take l.rule-index l.rule-items))
