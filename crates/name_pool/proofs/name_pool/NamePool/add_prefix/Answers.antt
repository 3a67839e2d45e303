use Rattle.std.proofs.Common.{ℕ, suc, ◌≡◌, ◌<◌, List, [], ◌∷◌, ◌++◌, length, sym, ap, subst, arith}
use Rattle.std.proofs.lemmas.List.{length-map, length-append}
use Rattle.name_pool.specs.Names.{Pool, added}
use Rattle.name_pool.specs.Holds.{name_of}
use Rattle.name_pool.specs.Numbers.{IsNew, NoRepeats}
use Rattle.name_pool.proofs.Names.{no_repeats_push}
use Rattle.name_pool.proofs.name_pool.NamePool.add_prefix.Goals as goal

pub add-requires : goal.add-requires
add-requires c = subst (λ (pool : Pool). IsNew pool.prefixes c.args.text.now) (sym c.self.view_is) (λ k. c.requires.new (suc k))

pub invariant_of-self-2 : goal.invariant_of-self-2
invariant_of-self-2 c =
    let h = c.self.invariant in
    let text : List ℕ = c.args.text.now in
    let old : List (List ℕ) = c.self.inside.prefixes in
    let new : IsNew ([] ∷ old) text = subst (λ (pool : Pool). IsNew ([] ∷ pool.prefixes) text) (sym c.self.view_is) c.requires.new in
    let put : c.add.new.self ≡ old ++ text ∷ [] = c.in_ok-at.ensures.ok in
    record {
      spelled = h.spelled;
      names = h.names;
      prefixes = subst (λ (xs : List (List ℕ)). NoRepeats ([] ∷ xs)) (sym put) (no_repeats_push ([] ∷ old) text h.prefixes new);
      within =
          let room = subst (λ (pool : Pool). added pool < pool.limit) (sym c.self.view_is) c.requires.room in
          let l = length-append old (text ∷ []) in
          let m = length-map c.self.inside.types (name_of c.self.inside.texts) in
          let e = ap (λ (xs : List (List ℕ)). length xs) put in
          omega (arith, room, l, m, e);
      limit = h.limit;
    }
