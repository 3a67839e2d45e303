use Rattle.std.proofs.Common.{◌≡◌, arith, rules, Some, None}
use Rattle.std.proofs.lemmas.Int.{to_z-of_z}
use Rattle.sheet_making.specs.Attributes.{priority_in}
use Rattle.sheet_names.specs.Values.{given_value}
use Rattle.sheet_names.proofs.Firsts.{is_first, none_is, passes}
use Rattle.sheet_making.proofs.attributes.first_priority.Goals as goal

pub returns-in-Some : goal.returns-in-Some
returns-in-Some c =
    let found : given_value priority_in c.args.word c.one-item.result ≡ Some c.in-Some.priority = search rules in
    let is = is_first priority_in c.args.word c.args.given.now c.loop-one.one-index c.one-item.result c.in-Some.priority c.loop-one-test.true c.one-item.is c.loop-one.invariant found in
    grind (arith, to_z-of_z, is)

pub loop-one-preserved : goal.loop-one-preserved
loop-one-preserved c =
    let nothing : given_value priority_in c.args.word c.one-item.result ≡ None = search rules in
    passes priority_in c.args.word c.args.given.now c.loop-one.one-index c.one-item.result c.loop-one-test.true c.one-item.is c.loop-one.invariant nothing

pub returns : goal.returns
returns c = none_is priority_in c.args.word c.args.given.now c.loop-one.one-index (omega (arith, c.loop-one-test.false)) c.loop-one.invariant
