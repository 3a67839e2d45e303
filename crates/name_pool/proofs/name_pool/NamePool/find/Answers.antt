use Rattle.std.proofs.Common.{ℕ, ◌≡◌, ◌+◌, ◌-◌, Some, refl, sym, ap, ◌∙◌, subst, arith}
use Rattle.std.proofs.lemmas.Option.{none-some, same_Some}
use Rattle.name_pool.specs.Names.{Name, Pool, IsTypeNumber}
use Rattle.name_pool.specs.Holds.{pool_of, PoolHolds}
use Rattle.name_pool.specs.declared.name_pool.NamePool.TheInside.{Inside}
use Rattle.name_pool.specs.declared.type_numbers.TypeKey.{TypeKey}
use Rattle.name_pool.proofs.Names.{Keyed, its_key, its_name, typed, absent, absent_new}
use Rattle.name_pool.proofs.name_pool.NamePool.find.Goals as goal

-- the key of a name with a number
keyed : (p : Inside) (pool : Pool) (name : Name) → PoolHolds p → pool_of p ≡ pool → (n : ℕ) → IsTypeNumber pool n name → Keyed p.texts p.types name (n - 3)
keyed p pool name h view n is = its_key p.texts p.types name h.spelled (n - 3) (subst (λ (q : Pool). IsTypeNumber q n name) (sym view) is).1

no_key : (c : goal.After-from_residual) (n : ℕ) → IsTypeNumber c.args.self.now n (record { kind = c.args.kind; uri = c.args.uri.now; local = c.args.local.now }) → ⊥
no_key c n is =
    let it = keyed c.self.inside c.args.self.now (record { kind = c.args.kind; uri = c.args.uri.now; local = c.args.local.now }) c.self.invariant c.self.view_is n is in
    none-some it.key ((c.in_err-key.ensures it.key).1 it.is)

pub returns-in_err-key-clause-number : goal.returns-in_err-key-clause-number
returns-in_err-key-clause-number c = absent c.args.self.now _ c.from_residual.result c.from_residual.ensures (no_key c)

pub returns-in_err-key-clause-new : goal.returns-in_err-key-clause-new
returns-in_err-key-clause-new c = absent_new c.args.self.now _ c.from_residual.result c.from_residual.ensures (no_key c)

no_at : (c : goal.After-from_residual-in_err-at) (n : ℕ) → IsTypeNumber c.args.self.now n (record { kind = c.args.kind; uri = c.args.uri.now; local = c.args.local.now }) → ⊥
no_at c n is =
    let it = keyed c.self.inside c.args.self.now (record { kind = c.args.kind; uri = c.args.uri.now; local = c.args.local.now }) c.self.invariant c.self.view_is n is in
    let same = same_Some c.in_ok-key.key it.key ((c.in_ok-key.ensures it.key).1 it.is) in
    none-some (n - 3) ((c.in_err-at.ensures.number (n - 3)).1 (it.at ∙ ap Some (sym same)))

pub returns-in_err-at-clause-number : goal.returns-in_err-at-clause-number
returns-in_err-at-clause-number c = absent c.args.self.now _ c.from_residual-in_err-at.result c.from_residual-in_err-at.ensures (no_at c)

pub returns-in_err-at-clause-new : goal.returns-in_err-at-clause-new
returns-in_err-at-clause-new c = absent_new c.args.self.now _ c.from_residual-in_err-at.result c.from_residual-in_err-at.ensures (no_at c)

pub returns-clause-number : goal.returns-clause-number
returns-clause-number c n =
    let p = c.self.inside in
    let pool : Pool = c.args.self.now in
    let name : Name = record { kind = c.args.kind; uri = c.args.uri.now; local = c.args.local.now } in
    let key : TypeKey = c.in_ok-key.key in
    let at : ℕ = c.in_ok-at.at in
    let there = its_name p.texts p.types name at key ((c.in_ok-at.ensures.number at).0 refl) ((c.in_ok-key.ensures key).0 refl) in
    let has : IsTypeNumber pool (at + 3) name = subst (λ (q : Pool). IsTypeNumber q (at + 3) name) c.self.view_is (typed (pool_of p) at name there) in (
      (λ e. subst (λ m. IsTypeNumber pool m name) (same_Some (at + 3) n e) has),
      λ is.
          let it = keyed p pool name c.self.invariant c.self.view_is n is in
          let same = same_Some key it.key ((c.in_ok-key.ensures it.key).1 it.is) in
          let e : at ≡ n - 3 = same_Some at (n - 3) ((c.in_ok-at.ensures.number (n - 3)).1 (it.at ∙ ap Some (sym same))) in
          ap Some (omega (arith, e, is.0)),
    )
