use Rattle.std.proofs.Common.{◌≡◌, arith, rules, Some, None}
use Rattle.sheet_making.specs.Attributes.{pattern_in}
use Rattle.sheet_names.specs.Values.{given_value}
use Rattle.sheet_names.proofs.Firsts.{is_first, none_is, passes}
use Rattle.sheet_making.proofs.attributes.first_pattern.Goals as goal

pub returns-in-Some : goal.returns-in-Some
returns-in-Some c =
    let found : given_value pattern_in c.args.word c.one-item.result ≡ Some c.in-Some.pattern.now = search rules in
    is_first pattern_in c.args.word c.args.given.now c.loop-one.one-index c.one-item.result c.in-Some.pattern.now c.loop-one-test.true c.one-item.is c.loop-one.invariant found

pub loop-one-preserved : goal.loop-one-preserved
loop-one-preserved c =
    let nothing : given_value pattern_in c.args.word c.one-item.result ≡ None = search rules in
    passes pattern_in c.args.word c.args.given.now c.loop-one.one-index c.one-item.result c.loop-one-test.true c.one-item.is c.loop-one.invariant nothing

pub returns : goal.returns
returns c = none_is pattern_in c.args.word c.args.given.now c.loop-one.one-index (omega (arith, c.loop-one-test.false)) c.loop-one.invariant
