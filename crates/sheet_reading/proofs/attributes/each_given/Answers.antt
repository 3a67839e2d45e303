use Rattle.std.proofs.Common.{rules, ◌≡◌, [], ◌∷◌, ◌++◌}
use Rattle.xpath_binding.specs.Names.{resolution}
use Rattle.sheet_reading.specs.Attributes.{given}
use Rattle.sheet_reading.specs.Judgement.{each}
use Rattle.sheet_reading.proofs.Each.{each_more}
use Rattle.sheet_reading.proofs.attributes.each_given.Goals as goal

pub loop-attribute-preserved : goal.loop-attribute-preserved
loop-attribute-preserved c =
    let f = given (resolution c.args.scopes.now) c.args.line c.args.tag in
    let pushed : c.push.new.self ≡ c.loop-attribute.all ++ c.in_ok-given.field-0 ∷ [] = search rules in
    each_more f c.args.attributes.now c.loop-attribute.attribute-index c.attribute-item.result c.in_ok-given.field-0 c.loop-attribute.all c.push.new.self
    (each f c.args.attributes.now) c.loop-attribute-test.true c.attribute-item.is c.loop-attribute.invariant c.in_ok-given.ensures pushed
