-- What one set more does to rows.
use Rattle.std.proofs.Common.{◌≡◌, ◌≢◌, ℕ, ◌+◌, ◌<◌, ◌⊎◌, inl, inr, ⊎_elim, List, [], ◌∷◌, ◌++◌, refl, sym, ap, ◌∙◌, subst, arith}
use Rattle.std.proofs.lemmas.Bool.Decides.{nat_tests}
use mathlib.Core.Logic.{dite}
use mathlib.Core.List.{IsPrefix}
use native.Mathlib.Decide.{ℕ_discrete}
use Rattle.link_cells.specs.declared.entry.Entry.{Entry}
use Rattle.link_cells.specs.Log.{put, value_at, IsOnce}
use Rattle.link_cells.proofs.Prefixes.{prefix_self}
use Rattle.link_cells.proofs.Values.{unset_of, value_at-push_other, value_at-push_same}
use Rattle.word_cases.specs.Links.{HasLinkedData, HasDataFirst, HasNoneFrom}

-- a beginning of a list that is one longer is a beginning of the list, or all of the longer one
pub prefix_snoc : {A : Type 0} (xs ys : List A) (y : A) → IsPrefix xs (ys ++ y ∷ []) → IsPrefix xs ys ⊎ (xs ≡ ys ++ y ∷ [])
prefix_snoc [] ys y p = inl (ys, refl)
prefix_snoc (x ∷ []) [] y p = inr (cc (p.1))
prefix_snoc (x ∷ w ∷ xs) [] y p = absurd (cc (p.1))
prefix_snoc (x ∷ xs) (z ∷ ys) y p =
    let head : x ≡ z = cc (p.1) in
    let tail : xs ++ p.0 ≡ ys ++ y ∷ [] = cc (p.1) in
    ⊎_elim
    (λ (q : IsPrefix xs ys). inl (q.0, (λ i. head i ∷ q.1 i)))
    (λ (e : xs ≡ ys ++ y ∷ []). inr (λ i. head i ∷ e i))
    (prefix_snoc xs ys y (p.0, tail))

-- what is set stays
pub value_at-longer : (at : ℕ) (log more : List Entry) → value_at at log ≢ 0 → value_at at (log ++ more) ≡ value_at at log
value_at-longer at [] more given = absurd (given refl)
value_at-longer at (e ∷ es) more given = let rest = value_at-longer at es more in grind (arith, nat_tests)

pub datum_push : (n row value : ℕ) (log : List Entry) → HasDataFirst n log → row < n
    → HasDataFirst n (log ++ put row value ∷ [])
datum_push n row value log first below before p =
    ⊎_elim
    (λ (q : IsPrefix before log). first before q)
    (λ (e : before ≡ log ++ put row value ∷ []). subst (HasLinkedData n) (sym e) whole)
    (prefix_snoc before log (put row value) p)
  where
    whole : HasLinkedData n (log ++ put row value ∷ [])
    whole r inside linked none =
        let apart = value_at-push_other (n + r) row value log (λ same. omega (arith, same)) in
        let was : value_at (n + r) log ≢ 0 = λ unset. linked (apart ∙ unset) in
        let datum : value_at r log ≢ 0 = first log (prefix_self log) r inside was in
        datum (sym (value_at-longer r log (put row value ∷ []) datum) ∙ none)

pub link_push : (n row value : ℕ) (log : List Entry) → HasDataFirst n log → value_at row log ≢ 0
    → HasDataFirst n (log ++ put (n + row) value ∷ [])
link_push n row value log first given before p =
    ⊎_elim
    (λ (q : IsPrefix before log). first before q)
    (λ (e : before ≡ log ++ put (n + row) value ∷ []). subst (HasLinkedData n) (sym e) whole)
    (prefix_snoc before log (put (n + row) value) p)
  where
    there : (r : ℕ) → value_at r log ≢ 0 → value_at r (log ++ put (n + row) value ∷ []) ≢ 0
    there r datum none = datum (sym (value_at-longer r log (put (n + row) value ∷ []) datum) ∙ none)

    whole : HasLinkedData n (log ++ put (n + row) value ∷ [])
    whole r inside linked =
        dite (ℕ_discrete r row)
        (λ same. there r (subst (λ k. value_at k log ≢ 0) (sym same) given))
        (λ apart. there r (first log (prefix_self log) r inside
        (λ unset. linked (value_at-push_other (n + r) (n + row) value log (λ same. apart (omega (arith, same))) ∙ unset))))

-- what the two sets of a row ask and leave, where none of this row and the later ones is set
pub record Adds (first n row datum : ℕ) (log : List Entry) : Type 0 where
  pub datum_unset : value_at row log ≡ 0
  pub datum_keeps : HasDataFirst first (log ++ put row datum ∷ [])
  pub link_unset : value_at (n + row) (log ++ put row datum ∷ []) ≡ 0
  pub link_keeps : HasDataFirst first ((log ++ put row datum ∷ []) ++ put (n + row) 1 ∷ [])
  pub none : HasNoneFrom n (row + 1) ((log ++ put row datum ∷ []) ++ put (n + row) 1 ∷ [])

adds_at : (n at datum : ℕ) (log : List Entry) → IsOnce log → HasDataFirst n log → HasNoneFrom n at log → at < n → datum ≢ 0
    → Adds n n at datum log
adds_at n at datum log once keeps none below given =
    let here = none at (omega arith) below in
    let one = log ++ put at datum ∷ [] in
    let first = datum_push n at datum log keeps below in
    let same = value_at-push_same at datum log (unset_of at log once here.0) in
    let there : value_at at one ≢ 0 = λ unset. given (sym same ∙ unset) in
    record {
      datum_unset = here.0;
      datum_keeps = first;
      link_unset = value_at-push_other (n + at) at datum log (λ same. omega (arith, same)) ∙ here.1;
      link_keeps = link_push n at 1 one first there;
      none = λ r from inside.
          let was = none r (omega (arith, from)) inside in (
            value_at-push_other r (n + at) 1 one (λ same. omega (arith, same))
                ∙ (value_at-push_other r at datum log (λ same. omega (arith, same)) ∙ was.0),
            value_at-push_other (n + r) (n + at) 1 one (λ same. omega (arith, same))
                ∙ (value_at-push_other (n + r) at datum log (λ same. omega (arith, same)) ∙ was.1),
          );
    }

-- the same, by the layout of the cells
pub adds : (m first n row datum : ℕ) (log : List Entry) → m ≡ first → first ≡ n → IsOnce log → HasDataFirst m log
    → HasNoneFrom n row log → row < n → datum ≢ 0 → Adds first n row datum log
adds m first n row datum log made laid once keeps none below given =
    let lawful = subst (λ k. HasDataFirst k log) (made ∙ laid) keeps in
    subst (λ k. Adds k n row datum log) (sym laid) (adds_at n row datum log once lawful none below given)

-- the datum of a row whose link is seen, also later
pub datum_seen : (first n row : ℕ) (log later : List Entry) → first ≡ n → HasDataFirst first log → IsPrefix log later → row < n
    → value_at (n + row) log ≢ 0 → value_at row later ≢ 0
datum_seen first n row log later laid keeps p below linked none =
    let lawful = subst (λ k. HasDataFirst k log) laid keeps in
    let datum : value_at row log ≢ 0 = lawful log (prefix_self log) row below linked in
    datum (sym (value_at-longer row log p.0 datum) ∙ (ap (value_at row) p.1 ∙ none))

-- beginnings of a log of one set
pub beginning_of_one : {A : Type 0} (xs : List A) (x : A) → IsPrefix xs (x ∷ []) → (xs ≡ []) ⊎ (xs ≡ x ∷ [])
beginning_of_one [] x p = inl refl
beginning_of_one (y ∷ []) x p = inr (cc (p.1))
beginning_of_one (y ∷ z ∷ xs) x p = absurd (cc (p.1))
