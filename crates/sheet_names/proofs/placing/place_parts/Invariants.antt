use Rattle.std.proofs.Common.{◌≡◌, map, take}
use Rattle.sheet_names.specs.Placing.{placed_part}
use Rattle.sheet_names.proofs.placing.place_parts.Given as goal

abbrev pub invariant-loop-part : goal.invariant-loop-part
invariant-loop-part l = l.copies ≡ map (placed_part l.globals l.locals) (take l.part-index l.parts)
