-- A text has a list of tokens, or a byte where it sticks.
use Rattle.std.proofs.Common.{◌≡◌, ◌⊎◌, inl, inr, refl, ℕ, zero, suc, ◌<◌, ◌≤◌, ◌+◌, List, [], ◌∷◌, length, length-drop, take, drop, Option, Some, None, Bool, true, false, arith}
use Rattle.xpath_syntax.specs.declared.token.Token.{Token}
use Rattle.xpath_syntax.specs.declared.token.TokenKind.{TokenKind}
use Rattle.xpath_syntax.specs.declared.form.Form.{Form}
use Rattle.xpath_syntax.specs.Forms.{is_space}
use Rattle.xpath_syntax.specs.Scan.{Cut, cut}
use Rattle.xpath_syntax.specs.Tokens.{IsLongest, kind_of, ends_operand, Tokens, end, space, token, Stuck, here, past_space, past_token}
use Rattle.xpath_syntax.proofs.Cuts.{CutIs, cut_is}
use Rattle.xpath_syntax.proofs.Steps.{no_token}

-- the bytes have tokens from a place on, or stick
abbrev pub IsLexed : ℕ → Bool → List ℕ → Type 0
IsLexed at operand bs = ((ts : List Token) × Tokens at operand bs ts) ⊎ ((p : ℕ) × Stuck at operand bs p)

behind_space : (at : ℕ) (operand : Bool) (b : ℕ) (bs : List ℕ) → is_space b ≡ true → IsLexed (at + 1) operand bs → IsLexed at operand (b ∷ bs)
behind_space at operand b bs e (inl h) = inl (h.0, space b e h.1)
behind_space at operand b bs e (inr h) = inr (h.0, past_space b e h.1)

behind_token : (at n : ℕ) (operand : Bool) (bs : List ℕ) (f : Form) (k : TokenKind) → IsLongest bs n f → kind_of operand f (take n bs) (drop n bs) ≡ Some k
    → IsLexed (at + n) (ends_operand f k) (drop n bs) → IsLexed at operand bs
behind_token at n operand bs f k L e (inl h) = inl (record { kind = k; at = at; len = n } ∷ h.0, token n L e h.1)
behind_token at n operand bs f k L e (inr h) = inr (h.0, past_token n L e h.1)

-- what is lexed behind each token
abbrev Behind : ℕ → List ℕ → Type 0
Behind at bs = (n : ℕ) (f : Form) (k : TokenKind) → 0 < n → IsLexed (at + n) (ends_operand f k) (drop n bs)

by_kind : (at n : ℕ) (operand : Bool) (b : ℕ) (bs : List ℕ) (f : Form) → is_space b ≡ false → cut (b ∷ bs) ≡ Some (f, n) → 0 < n → IsLongest (b ∷ bs) n f
    → Behind at (b ∷ bs) → (o : Option TokenKind) → kind_of operand f (take n (b ∷ bs)) (drop n (b ∷ bs)) ≡ o → IsLexed at operand (b ∷ bs)
by_kind at n operand b bs f e c some L go None k = inr (at, here b e (no_token operand (b ∷ bs) (Some (f, n)) c k))
by_kind at n operand b bs f e c some L go (Some kind) k = behind_token at n operand (b ∷ bs) f kind L k (go n f kind some)

by_cut : (at : ℕ) (operand : Bool) (b : ℕ) (bs : List ℕ) → is_space b ≡ false → Behind at (b ∷ bs) → (a : Cut) → cut (b ∷ bs) ≡ a → CutIs (b ∷ bs) a → IsLexed at operand (b ∷ bs)
by_cut at operand b bs e go None c h = inr (at, here b e (no_token operand (b ∷ bs) None c refl))
by_cut at operand b bs e go (Some x) c h = by_kind at x.1 operand b bs x.0 e c h.0 h.1 go (kind_of operand x.0 (take x.1 (b ∷ bs)) (drop x.1 (b ∷ bs))) refl

by_byte : (at : ℕ) (operand : Bool) (b : ℕ) (bs : List ℕ) → IsLexed (at + 1) operand bs → Behind at (b ∷ bs) → (s : Bool) → is_space b ≡ s → IsLexed at operand (b ∷ bs)
by_byte at operand b bs next go true e = behind_space at operand b bs e next
by_byte at operand b bs next go false e = by_cut at operand b bs e go (cut (b ∷ bs)) refl (cut_is (b ∷ bs))

within : (most at : ℕ) (operand : Bool) (bs : List ℕ) → length bs ≤ most → IsLexed at operand bs
within most at operand [] h = inl ([], end)
within zero at operand (b ∷ bs) h = absurd (omega arith)
within (suc most) at operand (b ∷ bs) h =
    by_byte at operand b bs (within most (at + 1) operand bs (omega arith))
    (λ n f k some. within most (at + n) (ends_operand f k) (drop n (b ∷ bs)) (omega (arith, length-drop n (b ∷ bs)))) (is_space b) refl

pub lexed : (at : ℕ) (operand : Bool) (bs : List ℕ) → IsLexed at operand bs
lexed at operand bs = within (length bs) at operand bs (omega arith)
