-- Which words are which tree.
use Rattle.std.specs.Prelude.{◌≡◌, ℕ, suc, Bool, true, List, [], ◌∷◌, ◌++◌, Option, None}
use Rattle.whole_num.specs.declared.number.NumFault.{NumFault}
use Rattle.xpath_grammar.specs.declared.sign.Sign.{Sign}
use Rattle.xpath_grammar.specs.Words.{Word}
use Rattle.xpath_grammar.specs.Signs.{is_number}
use Rattle.xpath_grammar.specs.Productions.{Nonterminal, Tree, Production, gives, word, part, either, number, nested}
use Rattle.xpath_grammar.specs.Grammar.{production}

-- which numbers are refused, and why
abbrev pub Limit : Type 0
Limit = List ℕ → Option NumFault

-- these words by a production are this tree: its numbers are within the limit, and at most so many levels are nested
pub data Derives (limit : Limit) : ℕ → (v : Nonterminal) → Production v → List Word → Tree v → Type 0 where
  nothing : {d : ℕ} {v : Nonterminal} {x : Tree v} → Derives limit d v (gives x) [] x
  one_word : {d : ℕ} {v : Nonterminal} {t : Sign → Bool} {k : Word → Production v} {ws : List Word} {x : Tree v} (w : Word) → t w.sign ≡ true
      → Derives limit d v (k w) ws x → Derives limit d v (word t k) (w ∷ ws) x
  two_parts : {d : ℕ} {v m : Nonterminal} {k : Tree m → Production v} {us ws : List Word} {y : Tree m} {x : Tree v} → Derives limit d m (production m) us y
      → Derives limit d v (k y) ws x → Derives limit d v (part m k) (us ++ ws) x
  first : {d : ℕ} {v : Nonterminal} {t : Sign → Bool} {p q : Production v} {ws : List Word} {x : Tree v} → Derives limit d v p ws x → Derives limit d v (either t p q) ws x
  second : {d : ℕ} {v : Nonterminal} {t : Sign → Bool} {p q : Production v} {ws : List Word} {x : Tree v} → Derives limit d v q ws x → Derives limit d v (either t p q) ws x
  one_number : {d : ℕ} {v : Nonterminal} {k : Word → Production v} {q : Production v} {ws : List Word} {x : Tree v} (w : Word) → is_number w.sign ≡ true
      → limit w.text ≡ None → Derives limit d v (k w) ws x → Derives limit d v (number k q) (w ∷ ws) x
  no_number : {d : ℕ} {v : Nonterminal} {k : Word → Production v} {q : Production v} {ws : List Word} {x : Tree v} → Derives limit d v q ws x → Derives limit d v (number k q) ws x
  in_level : {d : ℕ} {v m : Nonterminal} {t : Sign → Bool} {k : Word → Tree m
      → Production v} {q : Production v} {us ws : List Word} {y : Tree m} {x : Tree v} (w : Word) → t w.sign ≡ true → Derives limit d m (production m) us y
      → Derives limit (suc d) v (k w y) ws x → Derives limit (suc d) v (nested t m k q) (w ∷ (us ++ ws)) x
  no_level : {d : ℕ} {v m : Nonterminal} {t : Sign → Bool} {k : Word → Tree m → Production v} {q : Production v} {ws : List Word} {x : Tree v}
      → Derives limit d v q ws x → Derives limit d v (nested t m k q) ws x

-- the words of a nonterminal are a tree
abbrev pub IsTree : Limit → ℕ → (v : Nonterminal) → List Word → Tree v → Type 0
IsTree limit d v = Derives limit d v (production v)
