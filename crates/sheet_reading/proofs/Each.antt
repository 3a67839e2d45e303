-- A loop that gives one more item.
use Rattle.std.proofs.Common.{◌≡◌, sym, ap, ◌∙◌, ℕ, ◌+◌, ◌<◌, List, [], ◌∷◌, ◌++◌, length, drop, get_or, Result, Ok}
use Rattle.sheet_elements.specs.declared.fault.SheetFault.{SheetFault}
use Rattle.sheet_reading.specs.Judgement.{each}
use Rattle.sheet_reading.proofs.Loops.{from_item, prepend, prepend_more}

pub each_more : {A B : Type 0} (f : A → Result B SheetFault) (xs : List A) (i : ℕ) (x : A) (y : B) (out more : List B) (whole : Result (List B) SheetFault)
    → i < length xs → x ≡ get_or xs i x → whole ≡ prepend out (each f (drop i xs)) → f x ≡ Ok y → more ≡ out ++ y ∷ []
    → whole ≡ prepend more (each f (drop (i + 1) xs))
each_more f xs i x y out more whole within is so_far gives pushed =
    so_far ∙ ap (λ ys. prepend out (each f ys)) (from_item xs i x within is) ∙ prepend_more out (f x) y (each f (drop (i + 1) xs)) gives
    ∙ ap (λ ys. prepend ys (each f (drop (i + 1) xs))) (sym pushed)
