-- A source over a list gives a front of what is left.
use Rattle.std.proofs.Common.{◌≡◌, ◌≤◌, ℕ, List, ◌++◌, length, take, drop, sym, subst, arith}
use Rattle.std.proofs.lemmas.List.{take-append-drop, length-take-le}
use Rattle.std.proofs.Math.Seq.{take-append_seam}

-- a piece was put into the front of a buffer: what was left is the front of the buffer and what is left now
pub put_front : (n : ℕ) (rest copied tail : List ℕ) → copied ≡ take n rest → n ≤ length rest → rest ≡ take n (copied ++ tail) ++ drop n rest
put_front n rest copied tail e le =
    let long : length copied ≡ n = grind (arith, e, length-take-le n rest le) in
    let front : take n (copied ++ tail) ≡ copied = subst (λ (k : ℕ). take k (copied ++ tail) ≡ copied) long (take-append_seam copied tail) in
    rw (front, e) (sym (take-append-drop n rest))
