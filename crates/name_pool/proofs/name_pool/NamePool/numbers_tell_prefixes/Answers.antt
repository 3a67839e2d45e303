use Rattle.std.proofs.Common.{subst, [], ◌∷◌}
use Rattle.name_pool.specs.Names.{Pool}
use Rattle.name_pool.specs.Numbers.{NoRepeats}
use Rattle.name_pool.proofs.Names.{tell_prefixes}
use Rattle.name_pool.proofs.name_pool.NamePool.numbers_tell_prefixes.Goals as goal

pub returns : goal.returns
returns c = tell_prefixes c.args.self.now.prefixes (subst (λ (pool : Pool). NoRepeats ([] ∷ pool.prefixes)) c.self.view_is c.self.invariant.prefixes)
