-- Wider limits, lists that go on alike, and the same tree under wider limits.
use Rattle.std.proofs.Common.{◌≡◌, refl, subst, ℕ, zero, suc, List, [], ◌∷◌, ◌++◌, None, Result, Ok, Err, Bool, true, false}
use Rattle.xpath_grammar.specs.declared.sign.Sign.{Sign}
use Rattle.xpath_grammar.specs.declared.sign.Cause.{Cause}
use Rattle.xpath_grammar.specs.declared.sign.Cause.TheVariants as cause
use Rattle.xpath_grammar.specs.Words.{Word}
use Rattle.xpath_grammar.specs.Productions.{Nonterminal, Tree, Production}
use Rattle.xpath_grammar.specs.Trees.{Limit, Derives, nothing, one_word, two_parts, first, second, one_number, no_number, in_level, no_level}
use Rattle.xpath_grammar.specs.Reading.{Answer, Starts, Skips, Reads, read_nothing, read_word, read_wrong, read_parts, read_part_fails, read_first}
use Rattle.xpath_grammar.specs.Reading.{read_second, read_number, read_refused, read_no_number, read_level, read_level_fails, read_too_deep}
use Rattle.xpath_grammar.specs.Reading.{read_no_level}

abbrev pub deeper : ℕ → ℕ → ℕ
deeper zero e = e
deeper (suc d) e = suc (deeper d e)

abbrev pub Lets : Limit → Limit → Type 0
Lets f g = (text : List ℕ) → f text ≡ None → g text ≡ None

pub widen : {f : Limit} {d : ℕ} {v : Nonterminal} {p : Production v} {ws : List Word} {x : Tree v} (g : Limit) (e : ℕ) → Lets f g → Derives f d v p ws x → Derives g (deeper d e) v p ws x
widen g e l nothing = nothing
widen g e l (one_word w t i) = one_word w t (widen g e l i)
widen g e l (one_number w t n i) = one_number w t (l w.text n) (widen g e l i)
widen g e l (no_number i) = no_number (widen g e l i)
widen g e l (two_parts i j) = two_parts (widen g e l i) (widen g e l j)
widen g e l (first i) = first (widen g e l i)
widen g e l (second i) = second (widen g e l i)
widen g e l (in_level w t i j) = in_level w t (widen g e l i) (widen g e l j)
widen g e l (no_level i) = no_level (widen g e l i)

-- an answer that no limit gives
abbrev pub IsFree : {X : Type 0} → Result X (Cause × List Word) → Type 0
IsFree (Ok r) = Unit {0}
IsFree (Err r) = r.0 ≡ cause.Syntax

pub widen_reads : {f : Limit} {d : ℕ} {v : Nonterminal} {p : Production v} {ws : List Word} {a : Answer v} (g : Limit) (e : ℕ) → Lets f g → IsFree a
    → Reads f d v p ws a → Reads g (deeper d e) v p ws a
widen_reads g e l c read_nothing = read_nothing
widen_reads g e l c (read_word t r) = read_word t (widen_reads g e l c r)
widen_reads g e l c (read_number {w = w} t n r) = read_number t (l w.text n) (widen_reads g e l c r)
widen_reads g e l c (read_refused t n) = cc
widen_reads g e l c (read_no_number s r) = read_no_number s (widen_reads g e l c r)
widen_reads g e l c (read_wrong s) = read_wrong s
widen_reads g e l c (read_parts r s) = read_parts (widen_reads g e l tt r) (widen_reads g e l c s)
widen_reads g e l c (read_part_fails r) = read_part_fails (widen_reads g e l c r)
widen_reads g e l c (read_first s r) = read_first s (widen_reads g e l c r)
widen_reads g e l c (read_second s r) = read_second s (widen_reads g e l c r)
widen_reads g e l c (read_level t r s) = read_level t (widen_reads g e l tt r) (widen_reads g e l c s)
widen_reads g e l c (read_level_fails t r) = read_level_fails t (widen_reads g e l c r)
widen_reads g e l c (read_too_deep t) = cc
widen_reads g e l c (read_no_level s r) = read_no_level s (widen_reads g e l c r)

-- the same next word
abbrev pub Alike : List Word → List Word → Type 0
Alike [] [] = Unit {0}
Alike (x ∷ xs) (y ∷ ys) = x ≡ y
Alike _ _ = ⊥

pub alike_self : (ws : List Word) → Alike ws ws
alike_self [] = tt
alike_self (x ∷ ws) = refl

pub alike_more : (a xs ys : List Word) → Alike xs ys → Alike (a ++ xs) (a ++ ys)
alike_more [] xs ys h = h
alike_more (x ∷ a) xs ys h = refl

pub same_head : (x : Word) (ws rest : List Word) → Alike (x ∷ ws) rest → (P : List Word → Type 0) → ((ys : List Word) → P (x ∷ ys)) → P rest
same_head x ws [] l P h = absurd l
same_head x ws (y ∷ ys) l P h = subst (λ y. P (y ∷ ys)) l (h ys)

pub starts_alike : (t : Sign → Bool) (xs ys : List Word) → Alike xs ys → Starts t xs → Starts t ys
starts_alike t [] ys l s = absurd s
starts_alike t (x ∷ xs) [] l s = absurd l
starts_alike t (x ∷ xs) (y ∷ ys) l s = subst (λ y. t y.sign ≡ true) l s

pub skips_alike : (t : Sign → Bool) (xs ys : List Word) → Alike xs ys → Skips t xs → Skips t ys
skips_alike t [] [] l s = tt
skips_alike t [] (y ∷ ys) l s = absurd l
skips_alike t (x ∷ xs) [] l s = tt
skips_alike t (x ∷ xs) (y ∷ ys) l s = subst (λ y. t y.sign ≡ false) l s

abbrev pub rest_of : {X : Type 0} → Result (X × List Word) (Cause × List Word) → List Word
rest_of (Ok r) = r.1
rest_of (Err r) = r.1

-- the answer with other words behind it
abbrev pub put : {X : Type 0} → Result (X × List Word) (Cause × List Word) → List Word → Result (X × List Word) (Cause × List Word)
put (Ok r) rest = Ok (r.0, rest)
put (Err r) rest = Err (r.0, rest)
