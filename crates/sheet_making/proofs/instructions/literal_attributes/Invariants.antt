use Rattle.std.proofs.Common.{◌≡◌, [], drop}
use Rattle.sheet_making.specs.Attributes.{attributes_from}
use Rattle.sheet_making.specs.Scopes.{scope}
use Rattle.sheet_making.proofs.instructions.literal_attributes.Given as goal

abbrev pub invariant-loop-one : goal.invariant-loop-one
invariant-loop-one l = attributes_from (scope l.making l.locals) [] l.given ≡ attributes_from (scope l.making l.locals) l.all (drop l.one-index l.given)
