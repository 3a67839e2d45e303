use Rattle.std.proofs.Common.{arith, sym, ◌∙◌}
use Rattle.sheet_names.specs.Searching as spec
use Rattle.sheet_names.specs.Searching.{search_for}
use Rattle.sheet_names.proofs.Found.{found_at, none_left}
use Rattle.sheet_names.proofs.searching.given_have.Goals as goal

pub returns-then-branch : goal.returns-then-branch
returns-then-branch c =
    found_at (spec.given_has (search_for c.args.sought.now)) c.args.given.now c.loop-one.one-index _ c.loop-one-test.true c.one-item.is (sym c.if-branch.true ∙ c.in_ok-value_has.ensures)

pub returns : goal.returns
returns c = none_left (spec.given_has (search_for c.args.sought.now)) c.args.given.now c.loop-one.one-index c.loop-one.invariant (omega (arith, c.loop-one-test.false))
