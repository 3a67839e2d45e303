use Rattle.std.proofs.Common.{◌≡◌, take, false}
use Rattle.std.specs.List.{list_any}
use Rattle.sheet_names.specs.Searching.{given_has, search_for}
use Rattle.sheet_names.proofs.searching.given_have.Given as goal

abbrev pub invariant-loop-one : goal.invariant-loop-one
invariant-loop-one l = list_any (given_has (search_for l.sought)) (take l.one-index l.given) ≡ false
