use Rattle.std.proofs.Common.{◌≡◌, replicate}
use Rattle.link_cells.proofs.opening.passes.Given as goal

abbrev pub invariant-loop : goal.invariant-loop
invariant-loop g l = (l.writer ≡ l.initial.writer) × (l.passes ≡ replicate l.counter l.initial.writer)
