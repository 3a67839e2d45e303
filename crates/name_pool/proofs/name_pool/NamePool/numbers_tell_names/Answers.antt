use Rattle.std.proofs.Common.{subst}
use Rattle.name_pool.specs.Names.{Pool}
use Rattle.name_pool.specs.Numbers.{NoRepeats}
use Rattle.name_pool.proofs.Names.{tell}
use Rattle.name_pool.proofs.name_pool.NamePool.numbers_tell_names.Goals as goal

pub returns : goal.returns
returns c = tell c.args.self.now (subst (λ (pool : Pool). NoRepeats pool.names) c.self.view_is c.self.invariant.names)
