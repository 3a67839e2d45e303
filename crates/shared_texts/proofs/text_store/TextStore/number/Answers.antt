use Rattle.std.proofs.Common.{sym, ◌∙◌}
use Rattle.std.proofs.lemmas.Option.{none-some}
use Rattle.shared_texts.specs.Numbers.{IsNew}
use Rattle.shared_texts.proofs.Known.{with_known, with_new}
use Rattle.shared_texts.proofs.text_store.TextStore.number.Goals as goal

pub returns-in-Some-clause-ok : goal.returns-in-Some-clause-ok
returns-in-Some-clause-ok c = sym (with_known c.args.self.now c.args.text.now c.in-Some.number ((c.find.ensures.number c.in-Some.number).0 c.in-Some.is))

pub returns-in-None-clause-ok : goal.returns-in-None-clause-ok
returns-in-None-clause-ok c =
    let new : IsNew c.args.self.now c.args.text.now = λ k is. none-some k (sym c.in-None.is ∙ (c.find.ensures.number k).1 is) in
    rw (with_new c.args.self.now c.args.text.now new) c.add.ensures.ok
