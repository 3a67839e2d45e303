use Rattle.std.proofs.Common.{◌≡◌, ◌++◌, map, take}
use Rattle.sheet_making.specs.Rules.{rule}
use Rattle.sheet_making.proofs.rules.add_alternatives.Given as goal

abbrev pub invariant-loop-path : goal.invariant-loop-path
invariant-loop-path l = l.rules ≡ l.initial.rules ++ map (rule l.making.names.now l.making.streams l.element l.place) (take l.path-index l.paths)
