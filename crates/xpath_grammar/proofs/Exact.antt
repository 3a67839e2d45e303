-- Reading answers the tree, or exactly where and why there is none.
use Rattle.std.proofs.Common.{◌≡◌, refl, sym, ap, ◌∙◌, subst, ℕ, zero, suc, ◌+◌, List, [], ◌∷◌, ◌++◌, append_assoc, append-nil, Result, Ok, Err, arith}
use Rattle.xpath_grammar.specs.declared.sign.Cause.{Cause}
use Rattle.xpath_grammar.specs.declared.sign.Cause.TheVariants as cause
use Rattle.xpath_grammar.specs.Words.{Word}
use Rattle.xpath_grammar.specs.Productions.{Nonterminal, Tree}
use Rattle.xpath_grammar.specs.Grammar.{production}
use Rattle.xpath_grammar.specs.Trees.{Limit, IsTree}
use Rattle.xpath_grammar.specs.Refusal.{every, IsFront, Halts, IsWhy, Refused}
use Rattle.xpath_grammar.specs.Reading.{Answer, Reads, whole, Outcome}
use Rattle.xpath_grammar.proofs.Wider.{deeper, widen, IsFree, widen_reads, Alike, rest_of, put}
use Rattle.xpath_grammar.proofs.Filled.{full}
use Rattle.xpath_grammar.proofs.Goes.{as_is, any_number, one_deeper, IsShape, FitsAll, Goes, goes}
use Rattle.xpath_grammar.proofs.Only.{reads_all}
use Rattle.xpath_grammar.proofs.Same.{same}

-- an answer that isn't a tree of all the words
abbrev IsNoTree : {X : Type 0} → Result (X × List Word) (Cause × List Word) → Type 0
IsNoTree (Ok (x, [])) = ⊥
IsNoTree (Ok (x, w ∷ rest)) = Unit {0}
IsNoTree (Err r) = Unit {0}

no_tree : {X : Type 0} (x : X) (a : Result (X × List Word) (Cause × List Word)) → Ok (x, []) ≡ a → IsNoTree a → ⊥
no_tree {X} x a e n = subst (λ a. IsNoTree a → ⊥) e (λ n. n) n

put_no_tree : {X : Type 0} (a : Result (X × List Word) (Cause × List Word)) (rest : List Word) → Alike (rest_of a) rest → IsNoTree a → IsNoTree (put a rest)
put_no_tree (Err r) rest l n = tt
put_no_tree (Ok (x, [])) rest l n = absurd n
put_no_tree (Ok (x, w ∷ ws)) [] l n = absurd l
put_no_tree (Ok (x, w ∷ ws)) (y ∷ rest) l n = tt

-- where what goes on alike isn't read as a tree, nothing in the grammar goes on
halts_where : (g : Limit) (d : ℕ) (v : Nonterminal) (read rest : List Word) (a : Answer v) → IsNoTree a → rest_of a ≡ rest
    → ((rest' : List Word) → Alike rest rest' → Reads g d v (production v) (read ++ rest') (put a rest')) → Halts g d v read rest
halts_where g d v read [] a n is h = λ x i. no_tree x (put a [])
    (same (reads_all i) (subst (λ l. Reads g d v (production v) l (put a [])) (append-nil read) (h [] tt))) (put_no_tree a [] (subst (λ r. Alike r []) (sym is) tt) n)
halts_where g d v read (w ∷ rest) a n is h = λ front.
    no_tree front.1 (put a (w ∷ front.0)) (same (reads_all (subst (λ l. IsTree g d v l front.1) (append_assoc read (w ∷ []) front.0) front.2)) (h (w ∷ front.0) refl))
    (put_no_tree a (w ∷ front.0) (subst (λ r. Alike r (w ∷ front.0)) (sym is) refl) n)

deeper_is : (d e : ℕ) → deeper d e ≡ d + e
deeper_is zero e = omega arith
deeper_is (suc d) e = let i = deeper_is d e in omega arith

pub deeper_none : (d : ℕ) → deeper d 0 ≡ d
deeper_none zero = refl
deeper_none (suc d) = ap suc (deeper_none d)

deeper_one : (d : ℕ) → deeper d 1 ≡ suc d
deeper_one zero = refl
deeper_one (suc d) = ap suc (deeper_one d)

other_way : (d e : ℕ) → deeper e d ≡ deeper d e
other_way d e = let a = deeper_is d e in let b = deeper_is e d in omega arith

halts_less : (d e : ℕ) (v : Nonterminal) (read rest : List Word) → Halts every (deeper d e) v read rest → Halts every e v read rest
halts_less d e v read [] h = λ x i. h x (subst (λ n. IsTree every n v read x) (other_way d e) (widen every d (λ text p. p) i))
halts_less d e v read (w ∷ rest) h = λ front. h (front.0, front.1, subst (λ n. IsTree every n v ((read ++ w ∷ []) ++ front.0) front.1) (other_way d e) (widen every d (λ text p. p) front.2))

-- the two ways in which reading ends without a tree
abbrev cause_of : {X : Type 0} → Result (X × List Word) (Cause × List Word) → Cause
cause_of (Ok r) = cause.Syntax
cause_of (Err r) = r.0

free_put : {X : Type 0} (a : Result (X × List Word) (Cause × List Word)) (rest : List Word) → cause_of a ≡ cause.Syntax → IsFree (put a rest)
free_put (Ok r) rest e = tt
free_put (Err r) rest e = e

why : (f : Limit) (d : ℕ) (v : Nonterminal) (read rest : List Word) (c : Cause) (a : Answer v) → cause_of a ≡ c → IsNoTree a → rest_of a ≡ rest
    → IsShape f c rest → FitsAll f d v (production v) read c rest
    → ((rest' : List Word) → Alike rest rest' → Reads f d v (production v) (read ++ rest') (put a rest')) → IsWhy f d v read c rest
why f d v read rest cause.Syntax a e n is s A h =
    λ i. halts_less d i v read rest (halts_where every (deeper d i) v read rest a n is (λ rest' l. widen_reads every i (λ text p. refl) (free_put a rest' e) (h rest' l)))
why f d v read (w ∷ rest) (cause.Literal m) a e n is s A h = (s.0, s.1, subst (λ n. IsFront every n v (read ++ w ∷ [])) (deeper_none d) (A every 0 (w ∷ []) any_number))
why f d v read (w ∷ rest) cause.TooDeep a e n is s A h = (s, subst (λ n. IsFront f n v (read ++ w ∷ [])) (deeper_one d) (A f 1 (w ∷ []) one_deeper))
why f d v read [] (cause.Literal m) a e n is s A h = absurd s
why f d v read [] cause.TooDeep a e n is s A h = absurd s

refused_where : (f : Limit) (d : ℕ) (v : Nonterminal) (ws read rest : List Word) (c : Cause) (a : Answer v) → ws ≡ read ++ rest → cause_of a ≡ c
    → IsNoTree a → rest_of a ≡ rest → IsShape f c rest → FitsAll f d v (production v) read c rest
    → ((rest' : List Word) → Alike rest rest' → Reads f d v (production v) (read ++ rest') (put a rest')) → Refused f d v ws c rest
refused_where f d v ws read rest c a all e n is s A h = record {
  read = read;
  is = all;
  before = subst (IsFront f d v) (append-nil read) (subst (λ n. IsFront f n v (read ++ [])) (deeper_none d) (A f 0 [] as_is));
  here = halts_where f d v read rest a n is h;
  why = why f d v read rest c a e n is s A h;
}

-- a tree's words and one more
read_whole : {f : Limit} {d : ℕ} {v : Nonterminal} {read rest : List Word} {x : Tree v} → IsTree f d v read x → FitsAll f d v (production v) read cause.Syntax rest
read_whole {f = f} {d = d} {v = v} {read = read} {x = x} i g e next as_is = (
  [],
  x,
  subst (λ l. IsTree f (deeper d 0) v l x) (sym (append-nil (read ++ [])))
      (subst (λ l. IsTree f (deeper d 0) v l x) (sym (append-nil read)) (widen f 0 (λ text p. p) i)),
)

outcome : (f : Limit) (d : ℕ) (v : Nonterminal) (ws : List Word) (a : Answer v) → Goes f d v (production v) ws a → Outcome f d v ws (whole a)
outcome f d v ws (Err (c, rest)) G = refused_where f d v ws G.read rest c (Err (c, rest)) G.is refl tt refl G.fits.0 G.fits.1 G.again
outcome f d v ws (Ok (x, [])) G = subst (λ l. IsTree f d v l x) (sym (append-nil G.read) ∙ sym G.is) G.fits
outcome f d v ws (Ok (x, w ∷ rest)) G = refused_where f d v ws G.read (w ∷ rest) cause.Syntax (Ok (x, w ∷ rest)) G.is refl tt refl tt (read_whole G.fits) G.again

pub ends_so : {f : Limit} {d : ℕ} {v : Nonterminal} {ws : List Word} {a : Answer v} → Reads f d v (production v) ws a → Outcome f d v ws (whole a)
ends_so {f = f} {d = d} {v = v} {ws = ws} {a = a} r = outcome f d v ws a (goes (full v) r)

tree_or : {X : Type 0} → X → Result (X × List Word) (Cause × List Word) → X
tree_or x (Ok r) = r.0
tree_or x (Err e) = x

pub one_tree : (f : Limit) (d : ℕ) (v : Nonterminal) (ws : List Word) (x y : Tree v) → IsTree f d v ws x → IsTree f d v ws y → x ≡ y
unfolding tree_or
one_tree f d v ws x y i j = let e = same (reads_all i) (reads_all j) in ap (tree_or x) e
