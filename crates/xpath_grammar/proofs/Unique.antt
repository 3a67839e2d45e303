-- Words are refused at one place for one cause, and only where they have no tree.
use Rattle.std.proofs.Common.{◌≡◌, refl, sym, ap, ◌∙◌, subst, ℕ, suc, List, [], ◌∷◌, ◌++◌, append_assoc, append-nil, Option, Some, Bool, true, false}
use Rattle.whole_num.specs.declared.number.NumFault.{NumFault}
use Rattle.xpath_grammar.specs.declared.sign.Sign.{Sign}
use Rattle.xpath_grammar.specs.declared.sign.Cause.{Cause}
use Rattle.xpath_grammar.specs.declared.sign.Cause.TheVariants as cause
use Rattle.xpath_grammar.specs.Words.{Word}
use Rattle.xpath_grammar.specs.Signs.{is_number, opens_level}
use Rattle.xpath_grammar.specs.Productions.{Nonterminal, Tree}
use Rattle.xpath_grammar.specs.Trees.{Limit, IsTree}
use Rattle.xpath_grammar.specs.Refusal.{every, IsFront, Halts, IsWhy, Refused}
use Rattle.xpath_grammar.proofs.AllSigns.{by_all}
use Rattle.xpath_grammar.proofs.Fill.{implies}
use Rattle.xpath_grammar.proofs.Wider.{widen}
use Rattle.xpath_grammar.proofs.Exact.{deeper_none}

-- two ways to split a list
data Splits : List Word → List Word → List Word → List Word → Type 0 where
  alike : {a b : List Word} → Splits a b a b
  later : {a d : List Word} (x : Word) (m : List Word) → Splits a (x ∷ (m ++ d)) (a ++ x ∷ m) d
  earlier : {c b : List Word} (x : Word) (m : List Word) → Splits (c ++ x ∷ m) b c (x ∷ (m ++ b))

more_split : (x : Word) {a b c d : List Word} → Splits a b c d → Splits (x ∷ a) b (x ∷ c) d
more_split x alike = alike
more_split x (later y m) = later y m
more_split x (earlier y m) = earlier y m

splits : (a b c d : List Word) → a ++ b ≡ c ++ d → Splits a b c d
splits [] b [] d e = subst (Splits [] b []) e alike
splits [] b (x ∷ c) d e = subst (λ b. Splits [] b (x ∷ c) d) (sym e) (later x c)
splits (x ∷ a) b [] d e = subst (Splits (x ∷ a) b []) e (earlier x a)
splits (x ∷ a) b (y ∷ c) d e =
    let head : x ≡ y = cc in let rest : a ++ b ≡ c ++ d = cc in
    subst (λ y. Splits (x ∷ a) b (y ∷ c) d) head (more_split x (splits a b c d rest))

front_of : (f : Limit) (d : ℕ) (v : Nonterminal) (a : List Word) (x : Word) (m : List Word) → IsFront f d v (a ++ x ∷ m) → IsFront f d v (a ++ x ∷ [])
front_of f d v a x m front = (m ++ front.0, front.1, subst (λ l. IsTree f d v l front.1) (append_assoc a (x ∷ m) front.0 ∙ sym (append_assoc a (x ∷ []) (m ++ front.0))) front.2)

pub not_both : (f : Limit) (d : ℕ) (v : Nonterminal) (a rest : List Word) (x : Tree v) → Halts f d v a rest → IsTree f d v (a ++ rest) x → ⊥
not_both f d v a [] x h i = h x (subst (λ l. IsTree f d v l x) (append-nil a) i)
not_both f d v a (w ∷ rest) x h i = h (rest, x, subst (λ l. IsTree f d v l x) (sym (append_assoc a (w ∷ []) rest)) i)

wide : (f : Limit) (d : ℕ) (v : Nonterminal) (ws : List Word) → IsFront f d v ws → IsFront every d v ws
wide f d v ws front = (front.0, front.1, subst (λ n. IsTree every n v (ws ++ front.0) front.1) (deeper_none d) (widen every 0 (λ text p. refl) front.2))

no_number_opens : (s : Sign) → is_number s ≡ true → opens_level s ≡ false
no_number_opens s h = apart_of (is_number s) (opens_level s) (by_all (λ s. implies (is_number s) (implies (opens_level s) false)) refl s) h
  where
    apart_of : (a b : Bool) → implies a (implies b false) ≡ true → a ≡ true → b ≡ false
    apart_of true true e h = sym e
    apart_of true false e h = refl
    apart_of false b e h = cc

both_tests : (b : Bool) → b ≡ true → b ≡ false → ⊥
both_tests b t f = cc

same_flaw : (o : Option NumFault) (f g : NumFault) → o ≡ Some f → o ≡ Some g → f ≡ g
same_flaw o f g s t = cc

one_why : (f : Limit) (d : ℕ) (v : Nonterminal) (a : List Word) (k l : Cause) (rest : List Word) → IsWhy f d v a k rest → IsWhy f d v a l rest → k ≡ l
one_why f d v a cause.Syntax cause.Syntax rest p q = refl
one_why f d v a (cause.Literal m) (cause.Literal n) (w ∷ rest) p q = ap cause.Literal (same_flaw (f w.text) m n p.1 q.1)
one_why f d v a cause.TooDeep cause.TooDeep rest p q = refl
one_why f d v a cause.Syntax (cause.Literal n) (w ∷ rest) p q = absurd (p d q.2)
one_why f d v a cause.Syntax cause.TooDeep (w ∷ rest) p q = absurd (p (suc d) (wide f (suc d) v _ q.1))
one_why f d v a (cause.Literal n) cause.Syntax (w ∷ rest) p q = absurd (q d p.2)
one_why f d v a cause.TooDeep cause.Syntax (w ∷ rest) p q = absurd (q (suc d) (wide f (suc d) v _ p.1))
one_why f d v a (cause.Literal n) cause.TooDeep (w ∷ rest) p q = absurd (both_tests (opens_level w.sign) q.0 (no_number_opens w.sign p.0))
one_why f d v a cause.TooDeep (cause.Literal n) (w ∷ rest) p q = absurd (both_tests (opens_level w.sign) p.0 (no_number_opens w.sign q.0))
one_why f d v a (cause.Literal m) (cause.Literal n) [] p q = absurd p
one_why f d v a cause.Syntax (cause.Literal n) [] p q = absurd q
one_why f d v a cause.Syntax cause.TooDeep [] p q = absurd q
one_why f d v a (cause.Literal n) cause.Syntax [] p q = absurd p
one_why f d v a cause.TooDeep cause.Syntax [] p q = absurd p
one_why f d v a (cause.Literal n) cause.TooDeep [] p q = absurd p
one_why f d v a cause.TooDeep (cause.Literal n) [] p q = absurd p

one_place : (f : Limit) (d : ℕ) (v : Nonterminal) (a b c e : List Word) (k l : Cause) → Splits a b c e → IsFront f d v a → IsFront f d v c
    → Halts f d v a b → Halts f d v c e → IsWhy f d v a k b → IsWhy f d v c l e → ◌≡◌ {A = Cause × List Word} (k, b) (l, e)
one_place f d v a b c e k l alike fa fc ha hc wa wc = ap (λ k. (k, b)) (one_why f d v a k l b wa wc)
one_place f d v a b c e k l (later x m) fa fc ha hc wa wc = absurd (ha (front_of f d v a x m fc))
one_place f d v a b c e k l (earlier x m) fa fc ha hc wa wc = absurd (hc (front_of f d v c x m fa))

pub one_refusal : (f : Limit) (d : ℕ) (v : Nonterminal) (ws : List Word) (k l : Cause) (b e : List Word) → Refused f d v ws k b → Refused f d v ws l e → ◌≡◌ {A = Cause × List Word} (k, b) (l, e)
one_refusal f d v ws k l b e R Q = one_place f d v R.read b Q.read e k l (splits R.read b Q.read e (sym R.is ∙ Q.is)) R.before Q.before R.here Q.here R.why Q.why

pub no_tree_refused : (f : Limit) (d : ℕ) (v : Nonterminal) (ws : List Word) (x : Tree v) (k : Cause) (rest : List Word) → IsTree f d v ws x → Refused f d v ws k rest → ⊥
no_tree_refused f d v ws x k rest i R = not_both f d v R.read rest x R.here (subst (λ l. IsTree f d v l x) R.is i)
