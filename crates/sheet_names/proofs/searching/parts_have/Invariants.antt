use Rattle.std.proofs.Common.{◌≡◌, take, false}
use Rattle.std.specs.List.{list_any}
use Rattle.sheet_names.specs.Searching.{part_has, search_for}
use Rattle.sheet_names.proofs.searching.parts_have.Given as goal

abbrev pub invariant-loop-part : goal.invariant-loop-part
invariant-loop-part l = list_any (part_has (search_for l.sought)) (take l.part-index l.parts) ≡ false
