use Rattle.std.proofs.Common.{◌≡◌, sym, ◌∙◌, subst}
use Rattle.shared_texts.specs.Numbers.{text_number, Numbers}
use Rattle.shared_texts.proofs.Lookups.{within_some}
use Rattle.shared_texts.proofs.text_store.TextStore.find.Goals as goal

pub returns-clause-number : goal.returns-clause-number
returns-clause-number c = λ k.
    let e : c.copied.result ≡ text_number c.self.inside.numbers c.args.text.now = c.copied.ensures ∙ c.get.ensures.value in
    let h = subst (λ xs. Numbers (text_number c.self.inside.numbers) xs) c.self.view_is c.self.invariant c.args.text.now k in
    ((λ r. h.0 (sym e ∙ r)), λ s. e ∙ h.1 s)

pub returns-clause-within : goal.returns-clause-within
returns-clause-within c = within_some c.copied.result c.args.self.now c.args.text.now (returns-clause-number c)
