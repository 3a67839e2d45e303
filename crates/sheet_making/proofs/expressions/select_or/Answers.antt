use Rattle.std.proofs.Common.{◌≡◌, Some, None, rules}
use Rattle.sheet_names.specs.Values.{first_value}
use Rattle.sheet_elements.specs.declared.tag.Word.TheVariants as word
use Rattle.sheet_making.specs.Attributes.{expression_in, nodes_on}
use Rattle.sheet_making.specs.Scopes.{scope}
use Rattle.sheet_making.proofs.Given.{with_expression, without_expression}
use Rattle.sheet_making.proofs.expressions.select_or.Goals as goal

pub returns-in-Some : goal.returns-in-Some
returns-in-Some c =
    let found : first_value expression_in word.Select c.args.given.now ≡ Some c.in-Some.e.now = search rules in
    with_expression (nodes_on c.args.axis) (scope c.args.making.now c.args.locals.now) word.Select c.args.given.now c.in-Some.e.now c.ready.result found c.ready.ensures

pub returns-in_ok-nodes_on-in-None : goal.returns-in_ok-nodes_on-in-None
returns-in_ok-nodes_on-in-None c =
    let nothing : first_value expression_in word.Select c.args.given.now ≡ None = search rules in
    without_expression (nodes_on c.args.axis) (scope c.args.making.now c.args.locals.now) word.Select c.args.given.now c.in_ok-nodes_on-in-None.field-0 c.ready_missing.result nothing
    c.in_ok-nodes_on-in-None.ensures c.ready_missing.ensures
