use Rattle.std.proofs.Common.{◌≡◌, arith, rules, Some, None}
use Rattle.sheet_making.specs.Attributes.{choice_in}
use Rattle.sheet_names.specs.Values.{given_value}
use Rattle.sheet_names.proofs.Firsts.{is_first, none_is, passes}
use Rattle.sheet_making.proofs.attributes.first_choice.Goals as goal

pub returns-in-Some : goal.returns-in-Some
returns-in-Some c =
    let found : given_value choice_in c.args.word c.one-item.result ≡ Some c.in-Some.choice = search rules in
    is_first choice_in c.args.word c.args.given.now c.loop-one.one-index c.one-item.result c.in-Some.choice c.loop-one-test.true c.one-item.is c.loop-one.invariant found

pub loop-one-preserved : goal.loop-one-preserved
loop-one-preserved c =
    let nothing : given_value choice_in c.args.word c.one-item.result ≡ None = search rules in
    passes choice_in c.args.word c.args.given.now c.loop-one.one-index c.one-item.result c.loop-one-test.true c.one-item.is c.loop-one.invariant nothing

pub returns : goal.returns
returns c = none_is choice_in c.args.word c.args.given.now c.loop-one.one-index (omega (arith, c.loop-one-test.false)) c.loop-one.invariant
