-- The pairs of a plan and their outcomes, one after the other.
use Rattle.std.proofs.Common.{◌≡◌, ℕ, ◌+◌, ◌<◌, List, [], ◌∷◌, ◌++◌, length, drop, get_or, min, refl, ap, sym, ◌∙◌, arith, append-nil, append_assoc}
use Rattle.std.proofs.Common.{length-drop, drop-cons, suc, add-one, Option, Some, None, inl, inr, ◌⊎◌}
use Rattle.std.specs.Prelude.{Result, Ok, Err}
use Rattle.edge.specs.Causes.{Rose, HasCause}
use Rattle.edge.specs.Outside.{Grows, WritesAll}
use Rattle.edge.specs.declared.failure.Failed.{Failed}
use Rattle.cmd_words.specs.declared.pair.Pair.{Pair}
use Rattle.sessions.specs.declared.outcome.Outcome.{Outcome}
use Rattle.delivery.specs.Answer.{put_of, puts_of}
use Rattle.delivery.specs.Delivery.{GrowsByFront}
use Rattle.std.specs.List.{zip, flat_map}
use Rattle.std.proofs.lemmas.Slice.Zip.{length-zip}

pub nil_from_length : {A : Type 0} (xs : List A) → length xs ≡ 0 → xs ≡ []
nil_from_length [] none = refl
nil_from_length (x ∷ xs) none = absurd (omega (arith, none))

-- where one of two lists is at its end, there is no further pair
pub zip_done : {A B : Type 0} (ks : List A) (vs : List B) (n : ℕ) → n ≡ min (length ks) (length vs) → zip (drop n ks) (drop n vs) ≡ []
zip_done ks vs n end = nil_from_length _ (length-zip (drop n ks) (drop n vs) ∙ omega (arith, end, length-drop n ks, length-drop n vs))

-- where both lists go on, the pair of their next is the next pair
pub zip_next : {A B : Type 0} (ks : List A) (vs : List B) (n : ℕ) (d : A) (e : B) → n < length ks → n < length vs →
    zip (drop n ks) (drop n vs) ≡ (get_or ks n d, get_or vs n e) ∷ zip (drop (n + 1) ks) (drop (n + 1) vs)
zip_next ks vs n d e within within' =
    let at : n + 1 ≡ suc n = add-one n in
    rw (at, drop-cons ks n d within, drop-cons vs n e within') refl

-- a told list grows by nothing
pub Grows-nil : {T : Type 0} (told : Option (List T)) → Grows told told []
Grows-nil None = tt
Grows-nil (Some xs) = sym (append-nil xs)

pub Grows-append : {T : Type 0} (old mid new : Option (List T)) (xs ys : List T) → Grows old mid xs → Grows mid new ys → Grows old new (xs ++ ys)
Grows-append None mid new xs ys first then = tt
Grows-append (Some os) None new xs ys first then = absurd first
Grows-append (Some os) (Some ms) None xs ys first then = absurd then
Grows-append (Some os) (Some ms) (Some ns) xs ys first then = then ∙ ap (λ l. l ++ ys) first ∙ append_assoc os xs ys

-- one pair further in the puts
pub puts_more : (pairs : List Pair) (outcomes : List Outcome) (n n' : ℕ) (pair : Pair) (outcome : Outcome) (old mid new : Option (List (List ℕ × List ℕ))) →
    n < length pairs → n < length outcomes → pair ≡ get_or pairs n pair → outcome ≡ get_or outcomes n outcome → n' ≡ n + 1 →
    ((made : List (List ℕ × List ℕ)) × ((puts_of pairs outcomes ≡ made ++ puts_of (drop n pairs) (drop n outcomes)) × Grows old mid made)) →
    Grows mid new (put_of pair outcome) →
    (made : List (List ℕ × List ℕ)) × ((puts_of pairs outcomes ≡ made ++ puts_of (drop n' pairs) (drop n' outcomes)) × Grows old new made)
puts_more pairs outcomes n n' pair outcome old mid new within within' is is' next so_far then =
    let put : Pair × Outcome → List (List ℕ × List ℕ) = λ p. put_of p.0 p.1 in
    let here : puts_of (drop n pairs) (drop n outcomes) ≡ put_of pair outcome ++ puts_of (drop n' pairs) (drop n' outcomes) =
    ap (flat_map put) (zip_next pairs outcomes n pair outcome within within')
    ∙ ap (λ p. put_of p (get_or outcomes n outcome) ++ puts_of (drop (n + 1) pairs) (drop (n + 1) outcomes)) (sym is)
    ∙ ap (λ o. put_of pair o ++ puts_of (drop (n + 1) pairs) (drop (n + 1) outcomes)) (sym is')
    ∙ ap (λ k. put_of pair outcome ++ puts_of (drop k pairs) (drop k outcomes)) (sym next) in (
      so_far.0 ++ put_of pair outcome,
      (
        so_far.1.0 ∙ ap (λ l. so_far.0 ++ l) here ∙ sym (append_assoc so_far.0 (put_of pair outcome) _),
        Grows-append old mid new so_far.0 (put_of pair outcome) so_far.1.1 then,
      ),
    )

-- what a write left, whatever it answered
pub wrote : {U : Type 0} (result : Result U Failed) (text : List ℕ) (written written' : Option (List ℕ)) (faults faults' : ℕ) →
    WritesAll written written' result text → HasCause faults faults' result →
    Grows written written' text ⊎ (Rose faults faults' × GrowsByFront written written' text)
wrote (Ok x) text written written' faults faults' all cause = inl all
wrote (Err e) text written written' faults faults' all cause = inr (cause.failed, all)
