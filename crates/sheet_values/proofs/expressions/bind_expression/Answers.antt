use Rattle.std.proofs.Common.{ap, subst, sym, None, Err}
use Rattle.xpath_binding.specs.Binding.{bound}
use Rattle.xpath_binding.specs.Names.{resolution}
use Rattle.xpath_binding.specs.Scope.{outside_patterns}
use Rattle.sheet_values.specs.Answers.{Answers}
use Rattle.sheet_values.specs.Refusals.{or_kind, unbound}
use Rattle.sheet_values.proofs.Trees.{not_bound}
use Rattle.sheet_values.proofs.expressions.bind_expression.Goals as goal

pub returns-in-Ok : goal.returns-in-Ok
returns-in-Ok c = ap (or_kind unbound) c.in-Ok.ensures

pub returns-in-Err : goal.returns-in-Err
returns-in-Err c =
    let meant = bound (outside_patterns (resolution c.args.scopes.now) None) c.args.tree in
    subst (λ s. Answers (or_kind unbound meant) (Err s)) (sym c.stop_unbound.ensures) (not_bound meant c.in-Err.error c.in-Err.ensures)
