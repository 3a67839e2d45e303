-- What holds of a pool's fields holds after more texts, and after one more key.
use Rattle.std.proofs.Common.{◌≡◌, ℕ, ◌<◌, List, [], ◌∷◌, ◌++◌, map, refl, sym, ap, subst, ◌∙◌, arith, ⊎_elim}
use Rattle.std.specs.Prelude.{Result, Ok, Err, OnErr}
use Rattle.std.proofs.lemmas.List.{length-map, length-append}
use Rattle.name_pool.specs.Names.{Name, added, with_name}
use Rattle.name_pool.specs.Numbers.{IsNew, Keeps, NoRepeats}
use Rattle.name_pool.specs.Holds.{name_of, Spells, IsKey, PoolHolds, pool_of}
use Rattle.name_pool.specs.declared.name_pool.NamePool.TheInside.{Inside}
use Rattle.name_pool.specs.declared.type_numbers.TypeKey.{TypeKey}
use Rattle.name_pool.proofs.Numbering.{pushed}
use Rattle.name_pool.proofs.Names.{spelled_kept, names_kept, no_repeats_push}

abbrev pub with_texts : Inside → List (List ℕ) → Inside
with_texts p texts = record { texts = texts; types = p.types; prefixes = p.prefixes; limit = p.limit }

abbrev pub with_key : Inside → TypeKey → Inside
with_key p key = record { texts = p.texts; types = p.types ++ key ∷ []; prefixes = p.prefixes; limit = p.limit }

module _ (p : Inside) (more : List (List ℕ)) (keeps : Keeps p.texts more) (h : PoolHolds p) where
  pub pool_kept : pool_of (with_texts p more) ≡ pool_of p
  pool_kept = λ i. record { names = names_kept p.texts more keeps p.types h.spelled i; prefixes = p.prefixes; limit = p.limit }

  pub holds_kept : PoolHolds (with_texts p more)
  holds_kept = record {
    spelled = spelled_kept p.texts more keeps p.types h.spelled;
    names = subst (λ (xs : List Name). NoRepeats xs) (sym (names_kept p.texts more keeps p.types h.spelled)) h.names;
    prefixes = h.prefixes;
    within = h.within;
    limit = h.limit;
  }

map_push : {A B : Type 0} (f : A → B) (xs : List A) (y : A) → map f (xs ++ y ∷ []) ≡ map f xs ++ f y ∷ []
map_push f [] y = refl
map_push f (x ∷ xs) y = ap (λ l. f x ∷ l) (map_push f xs y)

module _ (p : Inside) (key : TypeKey) (name : Name) (is : IsKey p.texts key name) where
  names_pushed : map (name_of p.texts) (p.types ++ key ∷ []) ≡ map (name_of p.texts) p.types ++ name ∷ []
  names_pushed = map_push (name_of p.texts) p.types key ∙ ap (λ (n : Name). map (name_of p.texts) p.types ++ n ∷ []) is.1

  pub pool_pushed : pool_of (with_key p key) ≡ with_name (pool_of p) name
  pool_pushed = λ i. record { names = names_pushed i; prefixes = p.prefixes; limit = p.limit }

  pub holds_pushed : PoolHolds p → IsNew (pool_of p).names name → added (pool_of p) < p.limit → PoolHolds (with_key p key)
  holds_pushed h new room = record {
    spelled = λ k other e. ⊎_elim (λ old. h.spelled k other old) (λ end. subst (λ (x : TypeKey). Spells p.texts x) (sym end.1) is.0) (pushed p.types key other k e);
    names = subst (λ (xs : List Name). NoRepeats xs) (sym names_pushed) (no_repeats_push (map (name_of p.texts) p.types) name h.names new);
    prefixes = h.prefixes;
    within = let l = length-append p.types (key ∷ []) in let m = length-map p.types (name_of p.texts) in omega (arith, l, m, room);
    limit = h.limit;
  }

pub on_err : {T E : Type 0} {P : Type 0} (r : Result T E) → P → OnErr r P
on_err (Ok x) p = tt
on_err (Err e) p = p
