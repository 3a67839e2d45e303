use Rattle.std.proofs.Common.{rules, ◌≡◌, [], ◌∷◌, subst}
use Rattle.name_pool.specs.Names.{Pool}
use Rattle.name_pool.specs.Numbers.{NoRepeats}
use Rattle.name_pool.proofs.Names.{empty_number, no_item}
use Rattle.name_pool.proofs.name_pool.NamePool.prefix_number.Goals as goal

pub returns-then-is_empty-clause-number : goal.returns-then-is_empty-clause-number
returns-then-is_empty-clause-number c =
    let empty : c.args.text.now ≡ [] = no_item c.args.text.now (search rules) in
    empty_number c.args.self.now.prefixes (subst (λ (pool : Pool). NoRepeats ([] ∷ pool.prefixes)) c.self.view_is c.self.invariant.prefixes) c.args.text.now empty
