use Rattle.std.proofs.Common.{sym, ap, ◌∙◌}
use Rattle.xpath_syntax.specs.declared.expression.Expr.TheVariants as e
use Rattle.sheet_names.specs.Joining.{joined}
use Rattle.sheet_names.proofs.Joins.{joined_last}
use Rattle.sheet_names.proofs.placing.join.Goals as goal

pub loop-op-preserved : goal.loop-op-preserved
loop-op-preserved c =
    ap (λ left. joined (e.Binary c.in-Some.field-0.op left c.in-Some.field-0.right) c.pop.new.self) c.in_ok-left.ensures
    ∙ sym (joined_last c.loop-op.whole c.pop.new.self c.in-Some.field-0) ∙ sym (ap (joined c.loop-op.whole) c.in-Some.ensures) ∙ c.loop-op.invariant
