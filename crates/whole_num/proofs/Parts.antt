-- The front of a list that passes a test, and what stands behind it.
use Rattle.std.proofs.Common.{◌≡◌, refl, sym, ap, ◌∙◌, ℕ, suc, ◌+◌, List, [], ◌∷◌, ◌++◌, Bool, true, false, take, drop, length, arith}
use Rattle.std.specs.Prelude.{◌&&◌, if◌then◌else◌, take_while}
use Rattle.std.specs.List.{prefix_len, list_all}
use Rattle.std.proofs.Math.Seq.{drop-append_seam, take-append_seam}
use Rattle.std.proofs.lemmas.List.{take-append-drop}
use Rattle.whole_num.specs.Text.{behind_while}

-- it begins with no element that passes
pub data Stops (p : ℕ → Bool) : List ℕ → Type 0 where
  no_more : Stops p []
  fails : (b : ℕ) (bs : List ℕ) → p b ≡ false → Stops p (b ∷ bs)

and_first : (a b : Bool) → (a && b) ≡ true → a ≡ true
and_first true b e = refl
and_first false b e = e

and_second : (a b : Bool) → (a && b) ≡ true → b ≡ true
and_second true b e = e
and_second false b e = cc

pub head_passes : (p : ℕ → Bool) (b : ℕ) (bs : List ℕ) → list_all p (b ∷ bs) ≡ true → p b ≡ true
head_passes p b bs e = and_first (p b) (list_all p bs) e

stops_len : (p : ℕ → Bool) (bs : List ℕ) → Stops p bs → prefix_len p bs ≡ 0
stops_len p bs no_more = refl
stops_len p bs (fails b cs e) = ap (λ c. if c then 1 + prefix_len p cs else 0) e

front_len : (p : ℕ → Bool) (xs ys : List ℕ) → list_all p xs ≡ true → Stops p ys → prefix_len p (xs ++ ys) ≡ length xs
front_len p [] ys all s = stops_len p ys s
front_len p (x ∷ xs) ys all s =
    ap (λ c. if c then 1 + prefix_len p (xs ++ ys) else 0) (head_passes p x xs all)
    ∙ (let e = front_len p xs ys (and_second (p x) (list_all p xs) all) s in omega arith)

pub front_is : (p : ℕ → Bool) (xs ys : List ℕ) → list_all p xs ≡ true → Stops p ys → take_while p (xs ++ ys) ≡ xs
front_is p xs ys all s = ap (λ n. take n (xs ++ ys)) (front_len p xs ys all s) ∙ take-append_seam xs ys

pub behind_is : (p : ℕ → Bool) (xs ys : List ℕ) → list_all p xs ≡ true → Stops p ys → behind_while p (xs ++ ys) ≡ ys
behind_is p xs ys all s = ap (λ n. drop n (xs ++ ys)) (front_len p xs ys all s) ∙ drop-append_seam xs ys

pub front_and_behind : (p : ℕ → Bool) (bs : List ℕ) → bs ≡ take_while p bs ++ behind_while p bs
front_and_behind p bs = sym (take-append-drop (prefix_len p bs) bs)

front_more : (p : ℕ → Bool) (b : ℕ) (bs : List ℕ) (c : Bool) → p b ≡ c → list_all p (take_while p bs) ≡ true → list_all p (take (if c then 1 + prefix_len p bs else 0) (b ∷ bs)) ≡ true
front_more p b bs false e all = refl
front_more p b bs true e all = let one : 1 + prefix_len p bs ≡ suc (prefix_len p bs) = omega arith in
    ap (λ n. list_all p (take n (b ∷ bs))) one ∙ (ap (λ c. c && list_all p (take_while p bs)) e ∙ all)

pub front_passes : (p : ℕ → Bool) (bs : List ℕ) → list_all p (take_while p bs) ≡ true
front_passes p [] = refl
front_passes p (b ∷ bs) = front_more p b bs (p b) refl (front_passes p bs)
