-- Loops that go on from the left, by equations.
use Rattle.std.proofs.Common.{◌≡◌, refl, sym, ap, ◌∙◌, subst, ℕ, suc, ◌+◌, ◌<◌, ◌≤◌, arith, List, [], ◌∷◌, ◌++◌, length, take, drop, drop-cons}
use Rattle.std.proofs.Common.{get_or, map, map-id, take-append-drop, add-one, append_assoc, append-nil, Result, Ok, Err}
use Rattle.std.specs.Result.{IsErrAnd}
use Rattle.std.proofs.lemmas.Result.{err_from_is_err_and}
use Rattle.std.proofs.lemmas.Grind.{common_steps}
use Rattle.sheet_elements.specs.declared.fault.SheetKind.{SheetKind}
use Rattle.sheet_values.specs.declared.stop.ValueStop.{ValueStop}
use Rattle.sheet_values.specs.declared.stop.ValueStop.TheVariants as stop
use Rattle.sheet_values.specs.Answers.{Answers}
use Rattle.sheet_values.specs.Refusals.{◌>>=◌, each}

-- what was there already, and then what the rest answers
abbrev pub prepend : {B : Type 0} → List B → Result (List B) SheetKind → Result (List B) SheetKind
prepend out r = r >>= (λ ys. Ok (out ++ ys))

pub prepend_none : {B : Type 0} (r : Result (List B) SheetKind) → r ≡ prepend [] r
prepend_none (Ok ys) = refl
prepend_none (Err e) = refl

abbrev pub next : {B : Type 0} → Result B SheetKind → Result (List B) SheetKind → Result (List B) SheetKind
next a rest = a >>= (λ y. rest >>= (λ ys. Ok (y ∷ ys)))

pub prepend_more : {B : Type 0} (out : List B) (a : Result B SheetKind) (y : B) (rest : Result (List B) SheetKind) → a ≡ Ok y → prepend out (next a rest) ≡ prepend (out ++ y ∷ []) rest
prepend_more out a y (Ok ys) e = rw e (ap Ok (sym (append_assoc out (y ∷ []) ys)))
prepend_more out a y (Err f) e = rw e refl

pub prepend_stops : {B : Type 0} (out : List B) (a : Result B SheetKind) (rest whole : Result (List B) SheetKind) (r : Result (List B) ValueStop) (e : ValueStop)
    → whole ≡ prepend out (next a rest) → IsErrAnd r (λ s. s ≡ e) → Answers a (Err e) → Answers whole r
prepend_stops out a rest whole r (stop.Refused f) w h n = let p = err_from_is_err_and r h in subst (λ q. Answers whole q) (sym (p.1 ∙ ap Err p.2)) (w ∙ rw n refl)
prepend_stops out a rest whole r stop.Memory w h n = let p = err_from_is_err_and r h in subst (λ q. Answers whole q) (sym (p.1 ∙ ap Err p.2)) tt

pub prepend_ends : {B : Type 0} (out : List B) (whole : Result (List B) SheetKind) → whole ≡ prepend out (Ok []) → whole ≡ Ok out
prepend_ends out whole w = w ∙ ap Ok (append-nil out)

-- a step that stops, at the exit of a `?`
pub exit : {A B : Type 0} (a : Result A SheetKind) (f : A → Result B SheetKind) (r : Result B ValueStop) (e : ValueStop) → IsErrAnd r (λ s. s ≡ e) → Answers a (Err e) → Answers (a >>= f) r
exit a f r (stop.Refused g) h n = let p = err_from_is_err_and r h in subst (λ q. Answers (a >>= f) q) (sym (p.1 ∙ ap Err p.2)) (rw n refl)
exit a f r stop.Memory h n = let p = err_from_is_err_and r h in subst (λ q. Answers (a >>= f) q) (sym (p.1 ∙ ap Err p.2)) tt

-- the item at a place and those behind it
pub from_item : {A : Type 0} (xs : List A) (i : ℕ) (x : A) → i < length xs → x ≡ get_or xs i x → drop i xs ≡ x ∷ drop (i + 1) xs
from_item xs i x h e = rw (add-one, drop-cons xs i x h) (ap (λ y. y ∷ drop (suc i) xs) (sym e))

pub none_left : {A : Type 0} (xs : List A) (i : ℕ) → length xs ≤ i → drop i xs ≡ []
none_left xs i h = grind (arith, common_steps)

-- what a loop over all has made, where these were given
abbrev pub HasMade : {A B : Type 0} → (A → Result B SheetKind) → List A → List B → Type 0
HasMade {A} f given made = (rest : List A) → each f (given ++ rest) ≡ prepend made (each f rest)

pub stops_at : {A B : Type 0} (f : A → Result B SheetKind) (made : List B) (given all : List A) (x : A) (r : Result (List B) ValueStop) (e : ValueStop) → HasMade f given made
    → map (λ y. y) given ≡ take (length given) all → (length given < length all) × (x ≡ get_or all (length given) x) → IsErrAnd r (λ s. s ≡ e) → Answers (f x) (Err e) → Answers (each f all) r
stops_at f made given all x r e has so_far turn h n =
    let rest = drop (length given + 1) all in
    let back : drop (length given) all ≡ x ∷ rest = from_item all (length given) x turn.0 turn.1 in
    let front : given ≡ take (length given) all = sym (map-id given) ∙ so_far in
    let whole : given ++ x ∷ rest ≡ all = ap (λ ys. ys ++ x ∷ rest) front ∙ ap (λ ys. take (length given) all ++ ys) (sym back) ∙ take-append-drop (length given) all in
    prepend_stops made (f x) (each f rest) (each f all) r e (ap (each f) (sym whole) ∙ has (x ∷ rest)) h n

pub ends : {A B : Type 0} (f : A → Result B SheetKind) (made : List B) (given all : List A) → HasMade f given made → map (λ y. y) given ≡ all → each f all ≡ Ok made
ends f made given all has is = ap (each f) (sym (append-nil given ∙ sym (map-id given) ∙ is)) ∙ has [] ∙ ap Ok (append-nil made)
