-- The scanner's token is the longest.
use Rattle.std.proofs.Common.{◌≡◌, refl, sym, ap, ◌∙◌, subst, ℕ, ◌<◌, ◌≤◌, ◌+◌, List, [], ◌∷◌, length, length-append, take, drop, min, Some, None, arith}
use Rattle.std.proofs.Math.Seq.{take-append_seam}
use Rattle.std.proofs.lemmas.List.{take-append-drop, length-take}
use Rattle.xpath_syntax.specs.declared.form.Form.{Form}
use Rattle.xpath_syntax.specs.Forms.{Spells}
use Rattle.xpath_syntax.specs.Scan.{Cut, cut}
use Rattle.xpath_syntax.specs.Tokens.{IsLongest}
use Rattle.xpath_syntax.proofs.Covers.{Covers, covers}
use Rattle.xpath_syntax.proofs.Sound.{Front, Sound, sound}

abbrev pub CutIs : List ℕ → Cut → Type 0
CutIs bs None = (m : ℕ) (g : Form) → Spells g (take m bs) → ⊥
CutIs bs (Some x) = (0 < x.1) × IsLongest bs x.1 x.0

-- a front of the text is within its token
covers_front : (bs : List ℕ) (m : ℕ) (g : Form) → Spells g (take m bs) → Covers g (min m (length bs)) (cut bs)
covers_front bs m g s =
    subst (λ n. Covers g n (cut bs)) (length-take m bs) (subst (λ t. Covers g (length (take m bs)) (cut t)) (take-append-drop m bs) (covers g (take m bs) (drop m bs) s))

covers_it : (bs : List ℕ) (m : ℕ) (g : Form) (a : Cut) → cut bs ≡ a → m ≤ length bs → Spells g (take m bs) → Covers g m a
covers_it bs m g a e h s = let n : min m (length bs) ≡ m = omega arith in subst (Covers g m) e (subst (λ n. Covers g n (cut bs)) n (covers_front bs m g s))

longest : (b : ℕ) (bs : List ℕ) (n : ℕ) (f : Form) → cut (b ∷ bs) ≡ Some (f, n) → Front b bs n f → (0 < n) × IsLongest (b ∷ bs) n f
longest b bs n f e F =
    let word : take n (b ∷ bs) ≡ b ∷ F.word = ap (λ k. take k (b ∷ bs)) F.len ∙ ap (λ w. b ∷ w) (ap (take (length F.word)) F.is ∙ take-append_seam F.word F.rest) in
    let size : length bs ≡ length F.word + length F.rest = ap length F.is ∙ length-append F.word F.rest in (
      omega (arith, F.len),
      record {
        within = omega (arith, F.len);
        is = subst (Spells f) (sym word) F.spells;
        longest = λ m g h l s. let c = covers_it (b ∷ bs) m g (Some (f, n)) e l s in absurd (omega (arith, c.0));
      },
    )

by_cut : (b : ℕ) (bs : List ℕ) (a : Cut) → cut (b ∷ bs) ≡ a → Sound b bs a → CutIs (b ∷ bs) a
by_cut b bs None e s = λ m g spelled. let c = subst (Covers g (min m (length (b ∷ bs)))) e (covers_front (b ∷ bs) m g spelled) in c
by_cut b bs (Some x) e s = longest b bs x.1 x.0 e s

pub cut_is : (bs : List ℕ) → CutIs bs (cut bs)
cut_is [] = λ m g s. covers_front [] m g s
cut_is (b ∷ bs) = by_cut b bs (cut (b ∷ bs)) refl (sound b bs)

compare : (bs : List ℕ) (n : ℕ) (f : Form) → IsLongest bs n f → (a : Cut) → cut bs ≡ a → CutIs bs a → a ≡ Some (f, n)
compare bs n f L None e h = absurd (h n f L.is)
compare bs n f L (Some (g, m)) e h =
    let c = covers_it bs n f (Some (g, m)) e L.within L.is in
    let upper : n < m → ⊥ = λ less. L.longest m g less h.1.within h.1.is in
    let same : n ≡ m = omega (arith, c.0, upper) in
    ap (λ g. Some (g, m)) (sym (c.1 same)) ∙ ap (λ n. Some (f, n)) (sym same)

pub one_cut : (bs : List ℕ) (n : ℕ) (f : Form) → IsLongest bs n f → cut bs ≡ Some (f, n)
one_cut bs n f L = compare bs n f L (cut bs) refl (cut_is bs)
