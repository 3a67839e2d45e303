use Rattle.std.proofs.Common.{◌≡◌, drop}
use Rattle.xpath_nodes.specs.Pairs.{meets_some}
use Rattle.xpath_nodes.proofs.comparing.meets_some.Given as goal

abbrev pub invariant-loop-b : goal.invariant-loop-b
invariant-loop-b l = meets_some l.op l.a (drop l.b-index l.atoms) ≡ meets_some l.op l.a l.atoms
