use Rattle.std.proofs.Common.{◌≡◌, sym, ◌∙◌, subst}
use Rattle.name_pool.specs.Keys.{key_number}
use Rattle.name_pool.specs.Numbers.{Numbers}
use Rattle.name_pool.proofs.Names.{within_some}
use Rattle.name_pool.proofs.type_numbers.TypeNumbers.find.Goals as goal

pub returns-clause-number : goal.returns-clause-number
returns-clause-number c = λ k.
    let e : c.copied.result ≡ key_number c.self.inside.numbers c.args.key.now = c.copied.ensures ∙ c.get.ensures.value in
    let h = subst (λ xs. Numbers (key_number c.self.inside.numbers) xs) c.self.view_is c.self.invariant c.args.key.now k in
    ((λ r. h.0 (sym e ∙ r)), λ s. e ∙ h.1 s)

pub returns-clause-within : goal.returns-clause-within
returns-clause-within c = within_some c.copied.result c.args.self.now c.args.key.now (returns-clause-number c)
