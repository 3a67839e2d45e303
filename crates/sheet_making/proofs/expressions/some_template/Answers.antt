use Rattle.std.proofs.Common.{◌≡◌, Some, None, rules}
use Rattle.sheet_names.specs.Values.{first_value}
use Rattle.sheet_making.specs.Attributes.{template_in}
use Rattle.sheet_making.specs.Scopes.{scope}
use Rattle.sheet_making.proofs.Given.{no_template, template_given}
use Rattle.sheet_making.proofs.expressions.some_template.Goals as goal

pub returns-in_ok-ready_parts-in-Some : goal.returns-in_ok-ready_parts-in-Some
returns-in_ok-ready_parts-in-Some c =
    let found : first_value template_in c.args.word c.args.given.now ≡ Some c.in-Some.parts.now = search rules in
    template_given (scope c.args.making.now c.args.locals.now) c.args.word c.args.given.now c.in-Some.parts.now c.in_ok-ready_parts-in-Some.field-0 found c.in_ok-ready_parts-in-Some.ensures

pub returns-in-None : goal.returns-in-None
returns-in-None c =
    let nothing : first_value template_in c.args.word c.args.given.now ≡ None = search rules in
    no_template (scope c.args.making.now c.args.locals.now) c.args.word c.args.given.now nothing
