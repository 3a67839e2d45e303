-- The front of a list that passes a test, and tests on bytes.
use Rattle.std.proofs.Common.{◌≡◌, refl, sym, ap, ◌∙◌, subst, ℕ, suc, ◌+◌, ◌≤◌, List, [], ◌∷◌, ◌++◌, Bool, true, false, take, drop, length, arith}
use Rattle.std.specs.Prelude.{◌&&◌, ◌||◌, ◌==◌, if◌then◌else◌}
use Rattle.std.specs.List.{prefix_len, list_all}
use Rattle.std.proofs.Math.Seq.{drop-append_seam}
use Rattle.std.proofs.lemmas.Bool.{eqb-true}
use Rattle.std.proofs.lemmas.List.{take-append-drop}
use Rattle.xpath_syntax.specs.Forms.{is_one_of}

-- it begins with no element that passes
pub data Stops (p : ℕ → Bool) : List ℕ → Type 0 where
  no_more : Stops p []
  fails : (b : ℕ) (bs : List ℕ) → p b ≡ false → Stops p (b ∷ bs)

pub and_first : (a b : Bool) → (a && b) ≡ true → a ≡ true
and_first true b e = refl
and_first false b e = e

pub and_second : (a b : Bool) → (a && b) ≡ true → b ≡ true
and_second true b e = e
and_second false b e = cc

stops_len : (p : ℕ → Bool) (bs : List ℕ) → Stops p bs → prefix_len p bs ≡ 0
stops_len p bs no_more = refl
stops_len p bs (fails b cs e) = ap (λ c. if c then 1 + prefix_len p cs else 0) e

pub front_len : (p : ℕ → Bool) (xs ys : List ℕ) → list_all p xs ≡ true → Stops p ys → prefix_len p (xs ++ ys) ≡ length xs
front_len p [] ys all s = stops_len p ys s
front_len p (x ∷ xs) ys all s =
    ap (λ c. if c then 1 + prefix_len p (xs ++ ys) else 0) (and_first (p x) (list_all p xs) all)
    ∙ (let e = front_len p xs ys (and_second (p x) (list_all p xs) all) s in omega arith)

pub front_least : (p : ℕ → Bool) (xs ys : List ℕ) → list_all p xs ≡ true → length xs ≤ prefix_len p (xs ++ ys)
front_least p [] ys all = omega arith
front_least p (x ∷ xs) ys all =
    subst (λ c. suc (length xs) ≤ (if c then 1 + prefix_len p (xs ++ ys) else 0)) (sym (and_first (p x) (list_all p xs) all))
    (let e = front_least p xs ys (and_second (p x) (list_all p xs) all) in omega arith)

pub front_drop : (p : ℕ → Bool) (xs ys : List ℕ) → list_all p xs ≡ true → Stops p ys → drop (prefix_len p (xs ++ ys)) (xs ++ ys) ≡ ys
front_drop p xs ys all s = ap (λ n. drop n (xs ++ ys)) (front_len p xs ys all s) ∙ drop-append_seam xs ys

pub front_and_rest : (n : ℕ) (bs : List ℕ) → bs ≡ take n bs ++ drop n bs
front_and_rest n bs = sym (take-append-drop n bs)

front_more : (p : ℕ → Bool) (b : ℕ) (bs : List ℕ) (c : Bool) → p b ≡ c → list_all p (take (prefix_len p bs) bs) ≡ true → list_all p (take (if c then 1 + prefix_len p bs else 0) (b ∷ bs)) ≡ true
front_more p b bs false e all = refl
front_more p b bs true e all =
    let one : 1 + prefix_len p bs ≡ suc (prefix_len p bs) = omega arith in
    ap (λ n. list_all p (take n (b ∷ bs))) one ∙ (ap (λ c. c && list_all p (take (prefix_len p bs) bs)) e ∙ all)

pub front_passes : (p : ℕ → Bool) (bs : List ℕ) → list_all p (take (prefix_len p bs) bs) ≡ true
front_passes p [] = refl
front_passes p (b ∷ bs) = front_more p b bs (p b) refl (front_passes p bs)

-- what holds of each of the bytes holds of one of them
abbrev pub Each : (ℕ → Type 0) → List ℕ → Type 0
Each P [] = Unit {0}
Each P (c ∷ cs) = P c × Each P cs

each_in : (P : ℕ → Type 0) (c : ℕ) (cs : List ℕ) (b : ℕ) (first : Bool) → (b == c) ≡ first → (first || is_one_of cs b) ≡ true → P c → (is_one_of cs b ≡ true → P b) → P b
each_in P c cs b true e is here later = subst P (sym (eqb-true b c e)) here
each_in P c cs b false e is here later = later is

pub each : (P : ℕ → Type 0) (cs : List ℕ) (b : ℕ) → is_one_of cs b ≡ true → Each P cs → P b
each P [] b is all = cc
each P (c ∷ cs) b is all = each_in P c cs b (b == c) refl is all.0 (λ later. each P cs b later all.1)
