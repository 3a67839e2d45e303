use Rattle.std.proofs.Common.{◌≡◌, ◌≤◌, drop, length, take}
use Rattle.sheet_making.specs.Contents.{content_from}
use Rattle.sheet_making.specs.Instructions.{all_make, each_makes, makes}
use Rattle.sheet_making.specs.Scopes.{scope}
use Rattle.sheet_making.proofs.bodies.+bodies.Given as goal

-- what is made so far goes on with what the rest makes; and the first locals stay
abbrev pub invariant-all-loop-one : goal.invariant-all-loop-one
invariant-all-loop-one l = record {
  equal : all_make (makes l.levels) (scope l.making l.initial.locals) l.items
      ≡ content_from l.content (each_makes (makes l.levels) (scope l.making l.locals) (drop l.one-index l.items));
  longer : l.kept ≤ length l.locals;
  same : take l.kept l.locals ≡ l.initial.locals;
}
