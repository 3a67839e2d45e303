use Rattle.std.proofs.Common.{◌≡◌, take, false}
use Rattle.std.specs.List.{list_any}
use Rattle.sheet_names.specs.Searching.{pattern_path_has, search_for}
use Rattle.sheet_names.proofs.searching.pattern_has.Given as goal

abbrev pub invariant-loop-path : goal.invariant-loop-path
invariant-loop-path l = list_any (pattern_path_has (search_for l.sought)) (take l.path-index l.path-items) ≡ false
