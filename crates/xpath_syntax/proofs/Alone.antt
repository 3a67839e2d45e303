-- A text has one list of tokens, or one byte where it sticks.
use Rattle.std.proofs.Common.{◌≡◌, refl, sym, ap, ◌∙◌, ℕ, zero, suc, ◌<◌, ◌+◌, List, [], ◌∷◌, take, drop, Option, Some, None, Result, Ok, Err, Bool, true, false, arith}
use Rattle.std.specs.Prelude.{if◌then◌else◌}
use Rattle.std.proofs.lemmas.Bool.Decides.{nat_tests}
use Rattle.xpath_syntax.specs.declared.token.Token.{Token}
use Rattle.xpath_syntax.specs.declared.token.TokenKind.{TokenKind}
use Rattle.xpath_syntax.specs.declared.form.Form.{Form}
use Rattle.xpath_syntax.specs.declared.form.Class.TheVariants as class
use Rattle.xpath_syntax.specs.Forms.{is_space}
use Rattle.xpath_syntax.specs.Scan.{class_of, Cut, cut_in, cut}
use Rattle.xpath_syntax.specs.Tokens.{IsLongest, kind_of, ends_operand, Tokens, end, space, token, NoToken, Stuck, here, past_space, past_token}
use Rattle.xpath_syntax.proofs.Cuts.{CutIs, cut_is, one_cut}

abbrev Answer : Type 0
Answer = Result (List Token) ℕ

abbrev put : Token → Answer → Answer
put t (Ok ts) = Ok (t ∷ ts)
put t (Err p) = Err p

abbrev less : ℕ → ℕ
less zero = zero
less (suc n) = n

abbrev on_kind : ℕ → Form → ℕ → (ℕ → Bool → Answer) → Option TokenKind → Answer
on_kind at f n go None = Err at
on_kind at f n go (Some k) = put (record { kind = k; at = at; len = n }) (go (less n) (ends_operand f k))

abbrev on_cut : ℕ → Bool → List ℕ → (ℕ → Bool → Answer) → Cut → Answer
on_cut at operand bs go None = Err at
on_cut at operand bs go (Some x) = on_kind at x.0 x.1 go (kind_of operand x.0 (take x.1 bs) (drop x.1 bs))

-- the tokens behind so many bytes that are read
abbrev lex : List ℕ → ℕ → ℕ → Bool → Answer
lex [] k at operand = Ok []
lex (b ∷ bs) (suc k) at operand = lex bs k (at + 1) operand
lex (b ∷ bs) zero at operand = if is_space b then lex bs zero (at + 1) operand else on_cut at operand (b ∷ bs) (λ k o. lex bs k (at + 1) o) (cut (b ∷ bs))

skips : (bs : List ℕ) (k at m : ℕ) (operand : Bool) → at + k ≡ m → lex bs k at operand ≡ lex (drop k bs) 0 m operand
skips [] zero at m o e = refl
skips [] (suc k) at m o e = refl
skips (b ∷ bs) zero at m o e = ap (λ at. lex (b ∷ bs) 0 at o) (let f : at ≡ m = omega arith in f)
skips (b ∷ bs) (suc k) at m o e = skips bs k (at + 1) m o (omega arith)

-- a space begins no token
space_class : (b : ℕ) → is_space b ≡ true → class_of b ≡ class.Other
space_class b e = grind (arith, nat_tests)

no_space : (b : ℕ) (bs : List ℕ) (n : ℕ) (f : Form) (c : Bool) → is_space b ≡ c → IsLongest (b ∷ bs) n f → c ≡ false
no_space b bs n f false e L = refl
no_space b bs n f true e L = let g = one_cut (b ∷ bs) n f L in let h : cut (b ∷ bs) ≡ None = ap (λ c. cut_in c b bs) (space_class b e) in cc

-- a token has bytes
has_bytes : (bs : List ℕ) (n : ℕ) (f : Form) (a : Cut) → a ≡ Some (f, n) → CutIs bs a → 0 < n
has_bytes bs n f None e h = cc
has_bytes bs n f (Some x) e h = let g : x.1 ≡ n = cc in omega (arith, h.0)

at_token : (bs : List ℕ) (at n : ℕ) (operand : Bool) (f : Form) (k : TokenKind) → IsLongest bs n f → kind_of operand f (take n bs) (drop n bs) ≡ Some k
    → lex bs 0 at operand ≡ put (record { kind = k; at = at; len = n }) (lex (drop n bs) 0 (at + n) (ends_operand f k))
at_token [] at n operand f k L e = let g = one_cut [] n f L in cc
at_token (b ∷ bs) at zero operand f k L e = let h = has_bytes (b ∷ bs) zero f (cut (b ∷ bs)) (one_cut (b ∷ bs) zero f L) (cut_is (b ∷ bs)) in absurd (omega arith)
at_token (b ∷ bs) at (suc n) operand f k L e =
    ap (λ c. if c then lex bs zero (at + 1) operand else on_cut at operand (b ∷ bs) (λ k o. lex bs k (at + 1) o) (cut (b ∷ bs))) (no_space b bs (suc n) f (is_space b) refl L)
    ∙ (ap (on_cut at operand (b ∷ bs) (λ k o. lex bs k (at + 1) o)) (one_cut (b ∷ bs) (suc n) f L)
    ∙ (ap (on_kind at f (suc n) (λ k o. lex bs k (at + 1) o)) e
    ∙ ap (put (record { kind = k; at = at; len = suc n })) (skips bs n (at + 1) (at + suc n) (ends_operand f k) (omega arith))))

at_space : (b : ℕ) (bs : List ℕ) (at : ℕ) (operand : Bool) → is_space b ≡ true → lex (b ∷ bs) 0 at operand ≡ lex bs 0 (at + 1) operand
at_space b bs at operand e = ap (λ c. if c then lex bs zero (at + 1) operand else on_cut at operand (b ∷ bs) (λ k o. lex bs k (at + 1) o) (cut (b ∷ bs))) e

sticks : (at : ℕ) (operand : Bool) (bs : List ℕ) (go : ℕ → Bool → Answer) (a : Cut) → CutIs bs a → NoToken operand bs → on_cut at operand bs go a ≡ Err at
sticks at operand bs go None h n = refl
sticks at operand bs go (Some x) h n = ap (on_kind at x.0 x.1 go) (n x.1 x.0 h.1)

read_is : {at : ℕ} {operand : Bool} {bs : List ℕ} {ts : List Token} → Tokens at operand bs ts → lex bs 0 at operand ≡ Ok ts
read_is end = refl
read_is (space {at = at} {operand = operand} {bs = bs} b e t) = at_space b bs at operand e ∙ read_is t
read_is (token {at = at} {operand = operand} {bs = bs} {f = f} {k = k} n L e t) = at_token bs at n operand f k L e ∙ ap (put (record { kind = k; at = at; len = n })) (read_is t)

stuck_is : {at p : ℕ} {operand : Bool} {bs : List ℕ} → Stuck at operand bs p → lex bs 0 at operand ≡ Err p
stuck_is (here {at = at} {operand = operand} {bs = bs} b e n) =
    ap (λ c. if c then lex bs zero (at + 1) operand else on_cut at operand (b ∷ bs) (λ k o. lex bs k (at + 1) o) (cut (b ∷ bs))) e
    ∙ sticks at operand (b ∷ bs) (λ k o. lex bs k (at + 1) o) (cut (b ∷ bs)) (cut_is (b ∷ bs)) n
stuck_is (past_space {at = at} {operand = operand} {bs = bs} b e s) = at_space b bs at operand e ∙ stuck_is s
stuck_is (past_token {at = at} {operand = operand} {bs = bs} {f = f} {k = k} n L e s) = at_token bs at n operand f k L e ∙ ap (put (record { kind = k; at = at; len = n })) (stuck_is s)

pub one_list : (at : ℕ) (operand : Bool) (bs : List ℕ) (ts us : List Token) → Tokens at operand bs ts → Tokens at operand bs us → ts ≡ us
one_list at operand bs ts us t u = let e : ◌≡◌ {A = Answer} (Ok ts) (Ok us) = sym (read_is t) ∙ read_is u in cc

pub one_stop : (at : ℕ) (operand : Bool) (bs : List ℕ) (p q : ℕ) → Stuck at operand bs p → Stuck at operand bs q → p ≡ q
one_stop at operand bs p q s t = let e : ◌≡◌ {A = Answer} (Err p) (Err q) = sym (stuck_is s) ∙ stuck_is t in cc

pub not_both : (at : ℕ) (operand : Bool) (bs : List ℕ) (ts : List Token) (p : ℕ) → Tokens at operand bs ts → Stuck at operand bs p → ⊥
not_both at operand bs ts p t s = let e : ◌≡◌ {A = Answer} (Ok ts) (Err p) = sym (read_is t) ∙ stuck_is s in cc
