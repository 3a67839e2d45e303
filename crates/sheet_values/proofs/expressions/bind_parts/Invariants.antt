use Rattle.std.proofs.Common.{◌≡◌, ◌++◌, List}
use Rattle.xpath_binding.specs.Names.{resolution}
use Rattle.xpath_syntax.specs.declared.pattern.Part.{Part}
use Rattle.sheet_values.specs.Expressions.{bound_part}
use Rattle.sheet_values.specs.Refusals.{each}
use Rattle.sheet_values.proofs.Loops.{prepend}
use Rattle.sheet_values.proofs.expressions.bind_parts.Given as goal

-- what was bound stands before what the rest gives
abbrev pub invariant-loop-part : goal.invariant-loop-part
invariant-loop-part l = (rest : List Part) → each (bound_part (resolution l.scopes)) (l.yielded ++ rest) ≡ prepend l.bound (each (bound_part (resolution l.scopes)) rest)
