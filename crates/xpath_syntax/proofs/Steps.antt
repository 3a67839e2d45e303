-- One step of reading tokens.
use Rattle.std.proofs.Common.{◌≡◌, refl, sym, ap, ◌∙◌, subst, ℕ, zero, suc, ◌<◌, ◌≤◌, ◌+◌, List, [], ◌∷◌, ◌++◌, append_assoc, append-nil, length}
use Rattle.std.proofs.Common.{length-drop, take, drop, get_or, Option, Some, None, Bool, true, false, arith}
use Rattle.std.proofs.Math.Seq.{drop-nil}
use Rattle.std.proofs.Math.ListN.{drop_of_length-le}
use Rattle.std.proofs.lemmas.List.{at_drop_more}
use Rattle.std.proofs.lemmas.List.Elements.{All-nil, All-cons}
use Rattle.std.specs.Prelude.{All}
use Rattle.xpath_syntax.specs.declared.token.Token.{Token}
use Rattle.xpath_syntax.specs.declared.token.TokenKind.{TokenKind}
use Rattle.xpath_syntax.specs.declared.form.Form.{Form}
use Rattle.xpath_syntax.specs.Forms.{is_space}
use Rattle.xpath_syntax.specs.Scan.{Cut, cut}
use Rattle.xpath_syntax.specs.Tokens.{IsLongest, kind_of, ends_operand, Tokens, end, space, token, NoToken, Stuck, here, past_space, past_token}
use Rattle.xpath_syntax.proofs.Cuts.{CutIs, cut_is, one_cut}

abbrev kind_of_cut : Bool → List ℕ → Cut → Option TokenKind
kind_of_cut operand bs None = None
kind_of_cut operand bs (Some x) = kind_of operand x.0 (take x.1 bs) (drop x.1 bs)

pub no_token : (operand : Bool) (bs : List ℕ) (a : Cut) → cut bs ≡ a → kind_of_cut operand bs a ≡ None → NoToken operand bs
no_token operand bs a e h = λ n f L. ap (kind_of_cut operand bs) (sym (one_cut bs n f L) ∙ e) ∙ h

pub longest : (bs : List ℕ) (f : Form) (n : ℕ) → cut bs ≡ Some (f, n) → (0 < n) × IsLongest bs n f
longest bs f n e = subst (CutIs bs) e (cut_is bs)

-- whatever the rest has, the text has
pub record Rest (text : List ℕ) (out : List Token) (at : ℕ) (operand : Bool) : Type 0 where
  pub within : at ≤ length text
  pub read : (ts : List Token) → Tokens at operand (drop at text) ts → Tokens 0 false text (out ++ ts)
  pub stuck : (p : ℕ) → Stuck at operand (drop at text) p → Stuck 0 false text p

step : (text : List ℕ) (at : ℕ) → at < length text → drop at text ≡ get_or text at 0 ∷ drop (at + 1) text
step text at h = at_drop_more (λ xs. xs) text at 0 h

pub drop_drop : (xs : List ℕ) (i n m : ℕ) → i + n ≡ m → drop n (drop i xs) ≡ drop m xs
drop_drop xs zero n m e = ap (λ k. drop k xs) (let f : n ≡ m = omega arith in f)
drop_drop [] (suc i) n m e = drop-nil n ∙ sym (drop-nil m)
drop_drop (x ∷ xs) (suc i) n zero e = absurd (omega arith)
drop_drop (x ∷ xs) (suc i) n (suc m) e = drop_drop xs i n m (omega arith)

pub starts : (text : List ℕ) → Rest text [] 0 false
starts text = record { within = omega arith; read = λ ts t. t; stuck = λ p s. s }

pub space_more : (text : List ℕ) (out : List Token) (at : ℕ) (operand : Bool) → Rest text out at operand → at < length text → is_space (get_or text at 0) ≡ true → Rest text out (at + 1) operand
space_more text out at operand R h e = record {
  within = omega arith;
  read = λ ts t. R.read ts (subst (λ l. Tokens at operand l ts) (sym (step text at h)) (space (get_or text at 0) e t));
  stuck = λ p s. R.stuck p (subst (λ l. Stuck at operand l p) (sym (step text at h)) (past_space (get_or text at 0) e s));
}

pub token_more : (text : List ℕ) (out : List Token) (at n : ℕ) (operand : Bool) (f : Form) (k : TokenKind) → Rest text out at operand
    → IsLongest (drop at text) n f → kind_of operand f (take n (drop at text)) (drop n (drop at text)) ≡ Some k
    → Rest text (out ++ record { kind = k; at = at; len = n } ∷ []) (at + n) (ends_operand f k)
token_more text out at n operand f k R L e =
    let d = drop_drop text at n (at + n) refl in record {
      within = omega (arith, R.within, L.within, length-drop at text);
      read = λ ts t. subst (Tokens 0 false text) (sym (append_assoc out (record { kind = k; at = at; len = n } ∷ []) ts)) (R.read (record {
        kind = k;
        at =
            at;
        len = n;
      } ∷ ts) (token n L e (subst (λ l. Tokens (at + n) (ends_operand f k) l ts) (sym d) t)));
      stuck = λ p s. R.stuck p (past_token n L e (subst (λ l. Stuck (at + n) (ends_operand f k) l p) (sym d) s));
    }

pub stops : (text : List ℕ) (out : List Token) (at : ℕ) (operand : Bool) → Rest text out at operand → at < length text
    → is_space (get_or text at 0) ≡ false → NoToken operand (drop at text) → Stuck 0 false text at
stops text out at operand R h e n = R.stuck at (subst (λ l. Stuck at operand l at) (sym (step text at h)) (here (get_or text at 0) e (subst (NoToken operand) (step text at h) n)))

pub ends : (text : List ℕ) (out : List Token) (at : ℕ) (operand : Bool) → Rest text out at operand → length text ≤ at → Tokens 0 false text out
ends text out at operand R h = subst (Tokens 0 false text) (append-nil out) (R.read [] (subst (λ l. Tokens at operand l []) (sym (drop_of_length-le text h)) end))

-- each token is a slice of the text
pub tokens_within : {at : ℕ} {operand : Bool} {bs : List ℕ} {ts : List Token} → (limit : ℕ) → Tokens at operand bs ts → at + length bs ≤ limit → All (λ t. t.at + t.len ≤ limit) ts
tokens_within limit end h = All-nil (λ t. t.at + t.len ≤ limit)
tokens_within limit (space {bs = bs} b e t) h = tokens_within limit t (omega arith)
tokens_within limit (token {at = at} {bs = bs} {ts = ts} {k = k} n L e t) h =
    All-cons (λ t. t.at + t.len ≤ limit) (record { kind = k; at = at; len = n }) ts (omega (arith, L.within)) (tokens_within limit t (omega (arith, L.within, length-drop n bs)))
