use Rattle.std.proofs.Common.{◌≡◌, ◌↔◌, ℕ, Some, refl, ap, ◌∙◌, subst}
use Rattle.std.proofs.lemmas.Option.{none-some}
use Rattle.name_pool.specs.Known.{Index, Knows, index_of, number_at}
use Rattle.name_pool.proofs.Knowing.{unknown, at_key}
use Rattle.name_pool.proofs.type_index.TypeIndex.find.Goals as goal

pub returns-in_err-local : goal.returns-in_err-local
returns-in_err-local c =
    subst (λ (index : Index). (n : ℕ) → (c.from_residual.result ≡ Some n) ↔ Knows index c.args.kind c.args.uri c.args.local.now n) c.self.view_is
    (unknown (index_of c.self.inside) c.args.kind c.args.uri c.args.local.now c.from_residual.result c.from_residual.ensures (λ k at. none-some k ((c.in_err-local.ensures.number k).1 at)))

pub returns : goal.returns
returns c =
    subst (λ (index : Index). (n : ℕ) → (c.copied.result ≡ Some n) ↔ Knows index c.args.kind c.args.uri c.args.local.now n) c.self.view_is
    (at_key (index_of c.self.inside) c.args.kind c.args.uri c.args.local.now c.in_ok-local.local c.in_ok-local.local c.copied.result c.in_ok-local.ensures.number refl
    (c.copied.ensures ∙ c.get.ensures.value ∙ ap (λ (k : ℕ). number_at c.self.inside.types.entries (record { kind = k; uri = c.args.uri; local = c.in_ok-local.local })) c.number.ensures))
