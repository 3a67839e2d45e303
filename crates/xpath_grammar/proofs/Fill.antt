-- Whatever was read can be filled up to a tree.
use Rattle.std.proofs.Common.{◌≡◌, ℕ, List, [], ◌∷◌, ◌++◌, Bool, true, false}
use Rattle.xpath_grammar.specs.declared.sign.Sign.{Sign}
use Rattle.xpath_grammar.specs.Words.{Word}
use Rattle.xpath_grammar.specs.Signs.{opens_level}
use Rattle.xpath_grammar.specs.Productions.{Nonterminal, Tree, Production, gives, word, part, either, number, nested}
use Rattle.xpath_grammar.specs.Trees.{Limit, Derives, nothing, one_word, two_parts, second, no_number, no_level, IsTree}

-- the nonterminal has a tree, whatever the limits
abbrev pub HasTree : Nonterminal → Type 0
HasTree m = (f : Limit) (d : ℕ) → (ws : List Word) × (x : Tree m) × IsTree f d m ws x

-- a word passes
abbrev pub HasWord : (Sign → Bool) → Type 0
HasWord t = (w : Word) × (t w.sign ≡ true)

-- the last alternative has a tree
abbrev pub Quick : (v : Nonterminal) → Production v → Type 0
Quick v (gives x) = Unit {0}
Quick v (word t k) = HasWord t × ((w : Word) → Quick v (k w))
Quick v (part m k) = HasTree m × ((x : Tree m) → Quick v (k x))
Quick v (either t p q) = Quick v q
Quick v (number k q) = Quick v q
Quick v (nested t m k q) = Quick v q

abbrev pub implies : Bool → Bool → Bool
implies true b = b
implies false b = true

pub implied : (a b : Bool) → implies a b ≡ true → a ≡ true → b ≡ true
implied true b h e = h
implied false b h e = cc

-- each alternative has words
abbrev pub Full : (v : Nonterminal) → Production v → Type 0
Full v (gives x) = Unit {0}
Full v (word t k) = HasWord t × ((w : Word) → Full v (k w))
Full v (part m k) = (x : Tree m) → Full v (k x)
Full v (either t p q) = ((w : Word) → t w.sign ≡ true → Full v p) × Full v q
Full v (number k q) = ((w : Word) → Full v (k w)) × Full v q
Full v (nested t m k q) = ((w : Word) (x : Tree m) → Full v (k w x)) × Full v q × ((s : Sign) → implies (t s) (opens_level s) ≡ true)

pub fill : (v : Nonterminal) (p : Production v) → Quick v p → (f : Limit) (d : ℕ) → (ws : List Word) × (x : Tree v) × Derives f d v p ws x
fill v (gives x) Q f d = ([], x, nothing)
fill v (word t k) Q f d = let c = fill v (k Q.0.0) (Q.1 Q.0.0) f d in (Q.0.0 ∷ c.0, c.1, one_word Q.0.0 Q.0.1 c.2)
fill v (part m k) Q f d = let a = Q.0 f d in let c = fill v (k a.1) (Q.1 a.1) f d in (a.0 ++ c.0, c.1, two_parts a.2 c.2)
fill v (either t p q) Q f d = let c = fill v q Q f d in (c.0, c.1, second c.2)
fill v (number k q) Q f d = let c = fill v q Q f d in (c.0, c.1, no_number c.2)
fill v (nested t m k q) Q f d = let c = fill v q Q f d in (c.0, c.1, no_level c.2)

pub quick : ((m : Nonterminal) → HasTree m) → (v : Nonterminal) (p : Production v) → Full v p → Quick v p
quick s v (gives x) F = tt
quick s v (word t k) F = (F.0, λ w. quick s v (k w) (F.1 w))
quick s v (part m k) F = (s m, λ x. quick s v (k x) (F x))
quick s v (either t p q) F = quick s v q F.1
quick s v (number k q) F = quick s v q F.1
quick s v (nested t m k q) F = quick s v q F.1
