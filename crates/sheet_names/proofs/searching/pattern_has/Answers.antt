use Rattle.std.proofs.Common.{arith, sym, ap, ◌∙◌}
use Rattle.std.specs.List.{list_any}
use Rattle.sheet_names.specs.Searching as spec
use Rattle.sheet_names.specs.Searching.{search_for}
use Rattle.sheet_names.proofs.Found.{found_at, none_left}
use Rattle.sheet_names.proofs.searching.pattern_has.Goals as goal

pub returns-then-branch : goal.returns-then-branch
returns-then-branch c =
    found_at (spec.pattern_path_has (search_for c.args.sought.now)) c.as_slice-path-items.result.now c.loop-path.path-index _ c.loop-path-test.true c.path-item.is
    (sym c.if-branch.true ∙ c.in_ok-pattern_path_has.ensures)
    ∙ ap (list_any (spec.pattern_path_has (search_for c.args.sought.now))) c.as_slice-path-items.ensures

pub returns : goal.returns
returns c = none_left (spec.pattern_path_has (search_for c.args.sought.now)) c.as_slice-path-items.result.now c.loop-path.path-index c.loop-path.invariant (omega (arith, c.loop-path-test.false))
    ∙ ap (list_any (spec.pattern_path_has (search_for c.args.sought.now))) c.as_slice-path-items.ensures
