use Rattle.std.proofs.Common.{◌≡◌, drop}
use Rattle.sheet_compile.specs.Lines.{line_of_global}
use Rattle.sheet_compile.proofs.lines.line_of_global.Given as goal

abbrev pub invariant-loop-item : goal.invariant-loop-item
invariant-loop-item l = line_of_global l.items l.place ≡ line_of_global (drop l.item-index l.items) l.left
