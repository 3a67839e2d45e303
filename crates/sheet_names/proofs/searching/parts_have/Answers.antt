use Rattle.std.proofs.Common.{arith, sym, ◌∙◌}
use Rattle.sheet_names.specs.Searching as spec
use Rattle.sheet_names.specs.Searching.{search_for}
use Rattle.sheet_names.proofs.Found.{found_at, none_left}
use Rattle.sheet_names.proofs.searching.parts_have.Goals as goal

pub returns-then-branch : goal.returns-then-branch
returns-then-branch c =
    found_at (spec.part_has (search_for c.args.sought.now)) c.args.parts.now c.loop-part.part-index _ c.loop-part-test.true c.part-item.is (sym c.if-branch.true ∙ c.in_ok-part_has.ensures)

pub returns : goal.returns
returns c = none_left (spec.part_has (search_for c.args.sought.now)) c.args.parts.now c.loop-part.part-index c.loop-part.invariant (omega (arith, c.loop-part-test.false))
