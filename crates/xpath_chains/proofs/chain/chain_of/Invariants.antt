use Rattle.std.proofs.Common.{◌≡◌}
use Rattle.std.specs.Prelude.{reverse}
use Rattle.xpath_chains.specs.Chains.{chained}
use Rattle.xpath_chains.proofs.chain.chain_of.Given as goal

-- the operators passed over make the whole of what is left
abbrev pub invariant-loop-at : goal.invariant-loop-at
invariant-loop-at l = chained l.at (reverse l.above.items) ≡ l.e
