-- What stands at the front of a template.
use Rattle.std.proofs.Common.{◌≡◌, sym, ap, ◌∙◌, subst, ℕ, suc, ◌+◌, ◌≤◌, List, ◌∷◌, ◌++◌, length, length-append, take, drop, get_or, true, false, arith}
use Rattle.std.proofs.Math.Seq.{get_or-append_seam}
use Rattle.std.proofs.lemmas.Bool.Decides.{nat_tests}
use Rattle.xpath_parse.specs.declared.error.ParseError.TheVariants as error
use Rattle.xpath_parse.specs.Templates.{is_brace, Begins, IsInner, plain, doubled, IsRefused, past_plain, past_doubled, lone, unclosed}
use Rattle.xpath_parse.specs.Pieces.{IsText, IsValue}

pub plain_front : (b : ℕ) (bs : List ℕ) → is_brace b ≡ false → IsText (b ∷ bs) b 1
plain_front b bs e = record { some = omega arith; within = omega arith; read = λ ps t. plain b e t; refused = λ r t. past_plain b e t }

doubled_cons : (b : ℕ) (bs : List ℕ) → is_brace b ≡ true → IsText (b ∷ b ∷ bs) b 2
doubled_cons b bs e = record { some = omega arith; within = omega arith; read = λ ps t. doubled b e t; refused = λ r t. past_doubled b e t }

pub doubled_front : (b : ℕ) (bs : List ℕ) → is_brace b ≡ true → Begins b bs → IsText (b ∷ bs) b 2
doubled_front b bs e h = subst (λ l. IsText (b ∷ l) b 2) (sym h.1) (doubled_cons b h.0 e)

pub lone_front : (b : ℕ) (bs : List ℕ) → b ≡ 125 → (Begins b bs → ⊥) → (0 ≤ length (b ∷ bs)) × IsRefused (b ∷ bs) (error.Syntax 0)
lone_front b bs e h = (omega arith, rw e (lone (λ g. h (g.0, g.1 ∙ ap (λ c. c ∷ g.0) (sym e)))))

-- a brace that is no `}` is a `{`
pub opening : (b : ℕ) → is_brace b ≡ true → (b ≡ 125 → ⊥) → b ≡ 123
opening b e h = grind (arith, nat_tests)

pub unclosed_front : (b n : ℕ) (bs : List ℕ) → b ≡ 123 → (Begins b bs → ⊥) → IsInner bs → n ≡ suc (length bs) → (n ≤ length (b ∷ bs)) × IsRefused (b ∷ bs) (error.Syntax n)
unclosed_front b n bs e h inner len = (omega arith, rw (e, len) (unclosed (λ g. h (g.0, g.1 ∙ ap (λ c. c ∷ g.0) (sym e))) inner))

-- where the braces of an expression stand
pub value_opens : (bs : List ℕ) (n : ℕ) → IsValue bs n → get_or bs 0 0 ≡ 123
value_opens bs n V = ap (λ l. get_or l 0 0) V.is

pub value_len : (bs : List ℕ) (n : ℕ) → IsValue bs n → n + 2 ≤ length bs
value_len bs n V = omega (arith, V.len, ap length V.is, length-append (take n (drop 1 bs)) (125 ∷ drop (n + 2) bs))

pub value_closes : (bs : List ℕ) (n : ℕ) → IsValue bs n → get_or bs (n + 1) 0 ≡ 125
value_closes bs n V =
    let inner = take n (drop 1 bs) in let rest = 125 ∷ drop (n + 2) bs in
    ap (λ l. get_or l (n + 1) 0) V.is
    ∙ (ap (λ k. get_or (123 ∷ (inner ++ rest)) k 0) (let e : n + 1 ≡ suc (length inner) = omega (arith, V.len) in e)
    ∙ get_or-append_seam inner 125 (drop (n + 2) bs) 0)
