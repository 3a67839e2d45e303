use Rattle.std.proofs.Common.{◌≡◌, ◌<◌, List, sym, ap, ◌∙◌, subst}
use Rattle.name_pool.specs.Names.{Name, Pool, added, with_name}
use Rattle.name_pool.specs.Numbers.{IsNew}
use Rattle.name_pool.specs.Holds.{PoolHolds, pool_of}
use Rattle.name_pool.specs.declared.name_pool.NamePool.TheInside.{Inside}
use Rattle.name_pool.specs.declared.type_numbers.TypeKey.{TypeKey}
use Rattle.name_pool.proofs.Names.{new_key}
use Rattle.name_pool.proofs.Holding.{with_texts, holds_kept, pool_kept, holds_pushed, pool_pushed, on_err}
use Rattle.name_pool.proofs.name_pool.NamePool.add.Goals as goal

pub invariant_of-self : goal.invariant_of-self
invariant_of-self c = holds_kept c.self.inside c.add_key.new.texts c.add_key.ensures.keeps c.self.invariant

pub returns-in_err-key-clause-err : goal.returns-in_err-key-clause-err
returns-in_err-key-clause-err c = on_err c.from_residual.result (pool_kept c.self.inside c.add_key.new.texts c.add_key.ensures.keeps c.self.invariant ∙ c.self.view_is)

pub add-requires-clause-new : goal.add-requires-clause-new
add-requires-clause-new c =
    let p : Inside = with_texts c.self.inside c.add_key.new.texts in
    let name : Name = record { kind = c.args.kind; uri = c.args.uri.now; local = c.args.local.now } in
    let view : pool_of p ≡ c.args.self.now = pool_kept c.self.inside c.add_key.new.texts c.add_key.ensures.keeps c.self.invariant ∙ c.self.view_is in
    new_key p.texts p.types name (holds_kept c.self.inside c.add_key.new.texts c.add_key.ensures.keeps c.self.invariant).spelled c.in_ok-key.key c.in_ok-key.ensures.key
    (subst (λ (pool : Pool). IsNew pool.names name) (sym view) c.requires.new)

pub invariant_of-self-in_err-at : goal.invariant_of-self-in_err-at
invariant_of-self-in_err-at c =
    let p : Inside = with_texts c.self.inside c.add_key.new.texts in
    subst (λ (keys : List TypeKey). PoolHolds (record { texts = p.texts; types = keys; prefixes = p.prefixes; limit = p.limit })) (sym c.in_err-at.ensures.err)
    (holds_kept c.self.inside c.add_key.new.texts c.add_key.ensures.keeps c.self.invariant)

pub returns-in_err-at-clause-err : goal.returns-in_err-at-clause-err
returns-in_err-at-clause-err c =
    let p : Inside = with_texts c.self.inside c.add_key.new.texts in
    let view : pool_of p ≡ c.args.self.now = pool_kept c.self.inside c.add_key.new.texts c.add_key.ensures.keeps c.self.invariant ∙ c.self.view_is in
    on_err c.from_residual-in_err-at.result (ap (λ (keys : List TypeKey). pool_of (record { texts = p.texts; types = keys; prefixes = p.prefixes; limit = p.limit })) c.in_err-at.ensures.err ∙ view)

pub invariant_of-self-2 : goal.invariant_of-self-2
invariant_of-self-2 c =
    let p : Inside = with_texts c.self.inside c.add_key.new.texts in
    let name : Name = record { kind = c.args.kind; uri = c.args.uri.now; local = c.args.local.now } in
    let view : pool_of p ≡ c.args.self.now = pool_kept c.self.inside c.add_key.new.texts c.add_key.ensures.keeps c.self.invariant ∙ c.self.view_is in
    let h = holds_kept c.self.inside c.add_key.new.texts c.add_key.ensures.keeps c.self.invariant in
    let new = subst (λ (pool : Pool). IsNew pool.names name) (sym view) c.requires.new in
    let room = subst (λ (pool : Pool). added pool < pool.limit) (sym view) c.requires.room in
    subst (λ (keys : List TypeKey). PoolHolds (record { texts = p.texts; types = keys; prefixes = p.prefixes; limit = p.limit })) (sym c.in_ok-at.ensures.ok)
    (holds_pushed p c.in_ok-key.key name c.in_ok-key.ensures.key h new room)

pub returns-clause-ok : goal.returns-clause-ok
returns-clause-ok c =
    let p : Inside = with_texts c.self.inside c.add_key.new.texts in
    let name : Name = record { kind = c.args.kind; uri = c.args.uri.now; local = c.args.local.now } in
    let view : pool_of p ≡ c.args.self.now = pool_kept c.self.inside c.add_key.new.texts c.add_key.ensures.keeps c.self.invariant ∙ c.self.view_is in
    ap (λ (keys : List TypeKey). pool_of (record { texts = p.texts; types = keys; prefixes = p.prefixes; limit = p.limit })) c.in_ok-at.ensures.ok
    ∙ pool_pushed p c.in_ok-key.key name c.in_ok-key.ensures.key ∙ ap (λ (pool : Pool). with_name pool name) view
