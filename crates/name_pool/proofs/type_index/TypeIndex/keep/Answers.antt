use Rattle.std.proofs.Common.{inl, inr, ℕ, List, sym, subst}
use Rattle.std.proofs.lemmas.Option.{slice_get_within}
use Rattle.doc_model.specs.Numbers.{kind_number}
use Rattle.name_pool.specs.Keys.{key_number}
use Rattle.name_pool.specs.Known.{Index, Knows}
use Rattle.name_pool.specs.declared.type_numbers.TypeKey.{TypeKey}
use Rattle.name_pool.proofs.Lookups.{puts_key}
use Rattle.name_pool.proofs.Numbering.{Puts}
use Rattle.name_pool.proofs.Knowing.{AreThere, there_kept, more_known, still_known, there_put, put_only, put_others}
use Rattle.name_pool.proofs.type_index.TypeIndex.keep.Goals.{In_ok-insert}
use Rattle.name_pool.proofs.type_index.TypeIndex.keep.Goals as goal

pub invariant_of-self : goal.invariant_of-self
invariant_of-self c = there_kept c.self.inside.types.entries c.self.inside.locals c.number.new.self c.in_err-local.ensures.keeps c.self.invariant

pub returns-in_err-local-clause-only : goal.returns-in_err-local-clause-only
returns-in_err-local-clause-only c k u text n knows =
    inl (subst (λ (index : Index). Knows index k u text n) c.self.view_is
    (more_known c.self.inside.types.entries c.self.inside.locals c.number.new.self c.in_err-local.ensures.keeps c.self.invariant k u text n knows))

-- nothing was inserted
pub invariant_of-self-in_err-insert : goal.invariant_of-self-in_err-insert
invariant_of-self-in_err-insert c =
    subst (λ (types : List (TypeKey × ℕ)). AreThere types c.number.new.self) (sym c.in_err-insert.ensures.err)
    (there_kept c.self.inside.types.entries c.self.inside.locals c.number.new.self c.in_ok-local.ensures.keeps c.self.invariant)

pub returns-in_err-insert-clause-only : goal.returns-in_err-insert-clause-only
returns-in_err-insert-clause-only c k u text n knows =
    let old : Knows (record { locals = c.number.new.self; types = c.self.inside.types.entries }) k u text n =
    subst (λ (types : List (TypeKey × ℕ)). Knows (record { locals = c.number.new.self; types = types }) k u text n) c.in_err-insert.ensures.err knows in
    inl (subst (λ (index : Index). Knows index k u text n) c.self.view_is
    (more_known c.self.inside.types.entries c.self.inside.locals c.number.new.self c.in_ok-local.ensures.keeps c.self.invariant k u text n old))

-- what the map answers now
puts : (c : In_ok-insert) → Puts (key_number c.self.inside.types) (key_number c.insert.new.self)
    (record { kind = kind_number c.args.kind; uri = c.args.uri; local = c.in_ok-local.local }) c.args.number
puts c =
    subst (λ (k : ℕ). Puts (key_number c.self.inside.types) (key_number c.insert.new.self) (record { kind = k; uri = c.args.uri; local = c.in_ok-local.local }) c.args.number) c.number-2.ensures
    (puts_key c.self.inside.types c.insert.new.self (record { kind = c.number-2.result; uri = c.args.uri; local = c.in_ok-local.local }) c.args.number c.in_ok-insert.ensures.updates)

pub invariant_of-self-2 : goal.invariant_of-self-2
invariant_of-self-2 c =
    there_put c.self.inside.types.entries c.insert.new.self.entries c.number.new.self _ c.args.number (puts c)
    (slice_get_within c.number.new.self c.in_ok-local.local c.args.local.now c.in_ok-local.ensures.number)
    (there_kept c.self.inside.types.entries c.self.inside.locals c.number.new.self c.in_ok-local.ensures.keeps c.self.invariant)

pub returns-clause-only : goal.returns-clause-only
returns-clause-only c k u text n knows =
    elim (put_only c.self.inside.types.entries c.insert.new.self.entries c.number.new.self c.args.kind c.args.uri c.in_ok-local.local c.args.local.now c.args.number c.in_ok-local.ensures.number (puts c) k u text n knows) [
      | inl old ↦ inl (subst (λ (index : Index). Knows index k u text n) c.self.view_is
          (more_known c.self.inside.types.entries c.self.inside.locals c.number.new.self c.in_ok-local.ensures.keeps c.self.invariant k u text n old))
      | inr same ↦ inr same
    ]

pub returns-clause-others : goal.returns-clause-others
returns-clause-others c k u text n knows =
    put_others c.self.inside.types.entries c.insert.new.self.entries c.number.new.self c.args.kind c.args.uri c.in_ok-local.local c.args.local.now c.args.number c.in_ok-local.ensures.number (puts c) k u text n
    (still_known c.self.inside.types.entries c.self.inside.locals c.number.new.self c.in_ok-local.ensures.keeps k u text n
    (subst (λ (index : Index). Knows index k u text n) (sym c.self.view_is) knows))
