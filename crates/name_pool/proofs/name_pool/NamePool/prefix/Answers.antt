use Rattle.std.proofs.Common.{refl, ap}
use Rattle.std.specs.Prelude.{is_ok}
use Rattle.std.proofs.Math.Bool.{true≢false}
use Rattle.name_pool.proofs.name_pool.NamePool.prefix.Goals as goal

pub returns-in-Some-clause-full : goal.returns-in-Some-clause-full
returns-in-Some-clause-full c = ((λ e. absurd (true≢false (ap is_ok e))), λ p. absurd (p.0 c.in-Some.number ((c.in-Some.ensures.number c.in-Some.number).0 refl)))
