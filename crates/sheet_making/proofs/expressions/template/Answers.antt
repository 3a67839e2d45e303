use Rattle.std.proofs.Common.{◌≡◌, Some, rules}
use Rattle.sheet_names.specs.Values.{first_value}
use Rattle.sheet_making.specs.Attributes.{template_in}
use Rattle.sheet_making.specs.Scopes.{scope}
use Rattle.sheet_making.proofs.Given.{with_template}
use Rattle.sheet_making.proofs.expressions.template.Goals as goal

pub returns-in-Some : goal.returns-in-Some
returns-in-Some c =
    let found : first_value template_in c.args.word c.args.given.now ≡ Some c.in-Some.parts.now = search rules in
    with_template (scope c.args.making.now c.args.locals.now) c.args.word c.args.given.now c.in-Some.parts.now c.ready_parts.result found c.ready_parts.ensures
