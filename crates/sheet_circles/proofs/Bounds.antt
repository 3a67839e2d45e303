-- A number above all of some, and one more.
use Rattle.std.proofs.Common.{◌≡◌, refl, ap, ◌∙◌, ℕ, zero, suc, ◌+◌, ◌<◌, ◌≤◌, Bool, true, false, cond, leb, List, [], ◌∷◌, ◌++◌, length, map, take, get_or, sym, subst, arith}
use Rattle.std.proofs.lemmas.Bool.{leb-true, leb-false}
use Rattle.std.proofs.lemmas.Bool.{le-leb, lt-leb}
use Rattle.std.proofs.lemmas.List.{map-append}
use Rattle.std.proofs.Math.Seq.{take-suc}
use Rattle.sheet_ast.specs.declared.sheet.Rule.{Rule}
use Rattle.xpath_meaning.specs.DocumentOrder.{bound_of}

abbrev pub above : ℕ → ℕ → ℕ
above b n = cond (leb b n) (suc n) b

upper_at : (b n : ℕ) (t : Bool) → leb b n ≡ t → (b ≤ cond t (suc n) b) × (n < cond t (suc n) b)
upper_at b n true e = let l = leb-true b n e in (omega (arith, l), omega arith)
upper_at b n false e = let l = leb-false b n e in (omega arith, omega (arith, l))

upper : (b n : ℕ) → (b ≤ above b n) × (n < above b n)
upper b n = upper_at b n (leb b n) refl

least_at : (b n k : ℕ) (t : Bool) → b ≤ k → n < k → cond t (suc n) b ≤ k
least_at b n k true low high = omega (arith, high)
least_at b n k false low high = low

least : (b n k : ℕ) → b ≤ k → n < k → above b n ≤ k
least b n k = least_at b n k (leb b n)

half : (b x y : ℕ) → above (above b x) y ≤ above (above b y) x
half b x y =
    let inner = upper b y in
    let outer = upper (above b y) x in
    least (above b x) y _ (least b x _ (omega (arith, inner.0, outer.0)) outer.1) (omega (arith, inner.1, outer.0))

swap : (b x y : ℕ) → above (above b x) y ≡ above (above b y) x
swap b x y = let one = half b x y in let other = half b y x in omega (arith, one, other)

pub bound_more : (xs : List ℕ) (x : ℕ) → bound_of (xs ++ x ∷ []) ≡ above (bound_of xs) x
bound_more [] x = refl
bound_more (y ∷ ys) x = ap (λ b. above b y) (bound_more ys x) ∙ swap (bound_of ys) x y

counted : (count mode : ℕ) (xs : List ℕ) → count ≡ bound_of xs → (t : Bool) → leb (bound_of xs) mode ≡ t → bound_of (xs ++ mode ∷ []) ≡ cond t (suc mode) (bound_of xs)
counted count mode xs is t e = bound_more xs mode ∙ ap (λ b. cond b (suc mode) (bound_of xs)) e

modes_taken : (rules : List Rule) (i : ℕ) (rule : Rule) → i < length rules → rule ≡ get_or rules i rule
    → map (λ (r : Rule). r.mode) (take (suc i) rules) ≡ map (λ (r : Rule). r.mode) (take i rules) ++ rule.mode ∷ []
modes_taken rules i rule within is =
    ap (map (λ (r : Rule). r.mode)) (take-suc rules i rule within) ∙ map-append (λ (r : Rule). r.mode) (take i rules) (get_or rules i rule ∷ [])
    ∙ ap (λ (r : Rule). map (λ (r : Rule). r.mode) (take i rules) ++ r.mode ∷ []) (sym is)

plus_one : (n : ℕ) → n + 1 ≡ suc n
plus_one n = omega arith

-- one more rule, whose mode is greater or not
pub counts_on : (rules : List Rule) (i count : ℕ) (rule : Rule) → i < length rules → rule ≡ get_or rules i rule → count ≡ bound_of (map (λ (r : Rule). r.mode) (take i rules)) → count ≤ rule.mode
    → rule.mode + 1 ≡ bound_of (map (λ (r : Rule). r.mode) (take (i + 1) rules))
counts_on rules i count rule within is before low =
    plus_one rule.mode ∙ sym (ap bound_of (modes_taken rules i rule within is)
    ∙ counted count rule.mode (map (λ (r : Rule). r.mode) (take i rules)) before true (le-leb _ rule.mode (subst (λ b. b ≤ rule.mode) before low)))
    ∙ ap (λ k. bound_of (map (λ (r : Rule). r.mode) (take k rules))) (sym (plus_one i))

pub counts_still : (rules : List Rule) (i count : ℕ) (rule : Rule) → i < length rules → rule ≡ get_or rules i rule → count ≡ bound_of (map (λ (r : Rule). r.mode) (take i rules)) → rule.mode < count
    → count ≡ bound_of (map (λ (r : Rule). r.mode) (take (i + 1) rules))
counts_still rules i count rule within is before high =
    before ∙ sym (ap bound_of (modes_taken rules i rule within is)
    ∙ counted count rule.mode (map (λ (r : Rule). r.mode) (take i rules)) before false (lt-leb _ rule.mode (subst (λ b. rule.mode < b) before high)))
    ∙ ap (λ k. bound_of (map (λ (r : Rule). r.mode) (take k rules))) (sym (plus_one i))

-- each mode is below the bound of all
below_all : (rules : List Rule) (i : ℕ) (rule : Rule) → i < length rules → rule ≡ get_or rules i rule → rule.mode < bound_of (map (λ (r : Rule). r.mode) rules)
below_all [] i rule within is = absurd (omega (arith, within))
below_all (r ∷ rs) zero rule within is = subst (λ (x : Rule). x.mode < bound_of (map (λ (r : Rule). r.mode) (r ∷ rs))) (sym is) (upper _ r.mode).1
below_all (r ∷ rs) (suc i) rule within is =
    let rest = below_all rs i rule (omega (arith, within)) is in
    let more = (upper (bound_of (map (λ (r : Rule). r.mode) rs)) r.mode).0 in
    omega (arith, rest, more)

pub has_node : (rules : List Rule) (i count : ℕ) (rule : Rule) → i < length rules → rule ≡ get_or rules i rule → count ≡ bound_of (map (λ (r : Rule). r.mode) rules) → rule.mode < count
has_node rules i count rule within is counts = subst (λ b. rule.mode < b) (sym counts) (below_all rules i rule within is)
