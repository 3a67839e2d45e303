-- Loops that go on from the left, by equations.
use Rattle.std.proofs.Common.{◌≡◌, refl, sym, ap, ◌∙◌, subst, ℕ, zero, suc, ◌+◌, ◌-◌, ◌<◌, ◌≤◌, arith, List, [], ◌∷◌, ◌++◌, length, take, drop}
use Rattle.std.proofs.Common.{drop-cons, get_or, add-one, append_assoc, append-nil, Result, Ok, Err}
use Rattle.std.specs.Result.{IsErrAnd}
use Rattle.std.proofs.lemmas.Result.{err_from_is_err_and}
use Rattle.std.proofs.lemmas.Grind.{common_steps}
use Rattle.sheet_elements.specs.declared.fault.SheetFault.{SheetFault}
use Rattle.sheet_reading.specs.declared.stop.ReadStop.{ReadStop}
use Rattle.sheet_reading.specs.declared.stop.ReadStop.TheVariants as stop
use Rattle.sheet_reading.specs.Judgement.{◌>>=◌, Answers}

-- what was there already, and then what the rest answers
abbrev pub prepend : {B : Type 0} → List B → Result (List B) SheetFault → Result (List B) SheetFault
prepend out r = r >>= (λ ys. Ok (out ++ ys))

pub prepend_none : {B : Type 0} (r : Result (List B) SheetFault) → r ≡ prepend [] r
prepend_none (Ok ys) = refl
prepend_none (Err e) = refl

abbrev pub next : {B : Type 0} → Result B SheetFault → Result (List B) SheetFault → Result (List B) SheetFault
next a rest = a >>= (λ y. rest >>= (λ ys. Ok (y ∷ ys)))

pub prepend_more : {B : Type 0} (out : List B) (a : Result B SheetFault) (y : B) (rest : Result (List B) SheetFault) → a ≡ Ok y → prepend out (next a rest) ≡ prepend (out ++ y ∷ []) rest
prepend_more out a y (Ok ys) e = rw e (ap Ok (sym (append_assoc out (y ∷ []) ys)))
prepend_more out a y (Err f) e = rw e refl

pub prepend_stops : {B : Type 0} (out : List B) (a : Result B SheetFault) (rest whole : Result (List B) SheetFault) (r : Result (List B) ReadStop) (e : ReadStop)
    → whole ≡ prepend out (next a rest) → IsErrAnd r (λ s. s ≡ e) → Answers a (Err e) → Answers whole r
prepend_stops out a rest whole r (stop.Refused f) w h n = let p = err_from_is_err_and r h in subst (λ q. Answers whole q) (sym (p.1 ∙ ap Err p.2)) (w ∙ rw n refl)
prepend_stops out a rest whole r stop.Memory w h n = let p = err_from_is_err_and r h in subst (λ q. Answers whole q) (sym (p.1 ∙ ap Err p.2)) tt

pub prepend_ends : {B : Type 0} (out : List B) (whole : Result (List B) SheetFault) → whole ≡ prepend out (Ok []) → whole ≡ Ok out
prepend_ends out whole w = w ∙ ap Ok (append-nil out)

-- a step that stops, at the exit of a `?`
pub exit : {A B : Type 0} (a : Result A SheetFault) (f : A → Result B SheetFault) (r : Result B ReadStop) (e : ReadStop) → IsErrAnd r (λ s. s ≡ e) → Answers a (Err e) → Answers (a >>= f) r
exit a f r (stop.Refused g) h n = let p = err_from_is_err_and r h in subst (λ q. Answers (a >>= f) q) (sym (p.1 ∙ ap Err p.2)) (rw n refl)
exit a f r stop.Memory h n = let p = err_from_is_err_and r h in subst (λ q. Answers (a >>= f) q) (sym (p.1 ∙ ap Err p.2)) tt

-- the item at a place and those behind it
pub from_item : {A : Type 0} (xs : List A) (i : ℕ) (x : A) → i < length xs → x ≡ get_or xs i x → drop i xs ≡ x ∷ drop (i + 1) xs
from_item xs i x h e = rw (add-one, drop-cons xs i x h) (ap (λ y. y ∷ drop (suc i) xs) (sym e))

pub none_left : {A : Type 0} (xs : List A) (i : ℕ) → length xs ≤ i → drop i xs ≡ []
none_left xs i h = grind (arith, common_steps)
