use Rattle.std.proofs.Common.{◌≡◌, Some, None, rules}
use Rattle.sheet_names.specs.Values.{first_value}
use Rattle.xpath_syntax.specs.declared.expression.Expr.TheVariants as expr
use Rattle.sheet_making.specs.Attributes.{empty_text, expression_in}
use Rattle.sheet_making.specs.Scopes.{scope}
use Rattle.sheet_making.proofs.Given.{with_expression, without_expression}
use Rattle.sheet_making.proofs.expressions.expression.Goals as goal

pub returns-in-Some : goal.returns-in-Some
returns-in-Some c =
    let found : first_value expression_in c.args.word c.args.given.now ≡ Some c.in-Some.e.now = search rules in
    with_expression empty_text (scope c.args.making.now c.args.locals.now) c.args.word c.args.given.now c.in-Some.e.now c.ready.result found c.ready.ensures

pub returns-in-None : goal.returns-in-None
returns-in-None c =
    let nothing : first_value expression_in c.args.word c.args.given.now ≡ None = search rules in
    let same : expr.Literal c.new.result ≡ empty_text = search rules in
    without_expression empty_text (scope c.args.making.now c.args.locals.now) c.args.word c.args.given.now (expr.Literal c.new.result) c.ready_missing.result nothing same c.ready_missing.ensures
