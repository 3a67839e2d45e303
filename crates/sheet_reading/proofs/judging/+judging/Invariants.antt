use Rattle.std.proofs.Common.{◌≡◌, drop}
use Rattle.sheet_reading.specs.Elements.{items, judged}
use Rattle.sheet_reading.proofs.Loops.{prepend}
use Rattle.sheet_reading.proofs.judging.+judging.Given as goal

abbrev pub invariant-items-loop-node : goal.invariant-items-loop-node
invariant-items-loop-node l = (l.scopes.scopes ≡ l.fn.scopes.scopes)
    × (items (judged l.levels l.fn.scopes.scopes) l.fn.first l.nodes ≡ prepend l.items (items (judged l.levels l.fn.scopes.scopes) l.place (drop l.node-index l.nodes)))
