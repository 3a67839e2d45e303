-- What ends a written line.
use Rattle.std.proofs.Common.{◌≡◌, ℕ, List, [], ◌∷◌, ◌++◌, Bool, true, false, if◌then◌else◌, length, drop, refl, append_assoc}
use Rattle.std.proofs.Math.Seq.{drop-append_seam}
use Rattle.pyx_lines.specs.Writing.{ends_in_return, guarded}

ended_by : (out body : List ℕ) (is : Bool) → (out ++ body) ++ (if is then 13 ∷ 10 ∷ [] else 10 ∷ []) ≡ out ++ ((if is then body ++ 13 ∷ [] else body) ++ 10 ∷ [])
ended_by out body true = rw (append_assoc body (13 ∷ []) (10 ∷ []), append_assoc out body (13 ∷ 10 ∷ [])) refl
ended_by out body false = append_assoc out body (10 ∷ [])

-- a body with its end is the line
pub line_ended : (out body all : List ℕ) (start : ℕ) → start ≡ length out → all ≡ out ++ body →
    all ++ (if ends_in_return (drop start all) then 13 ∷ 10 ∷ [] else 10 ∷ []) ≡ out ++ (guarded body ++ 10 ∷ [])
line_ended out body all start at is = rw (at, is, drop-append_seam out body) (ended_by out body (ends_in_return body))
