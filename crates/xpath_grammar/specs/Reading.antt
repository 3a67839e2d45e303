-- Reading from the left, with one word looked at.
use Rattle.std.specs.Prelude.{◌≡◌, ℕ, zero, suc, Bool, true, false, List, [], ◌∷◌, Some, None, Result, Ok, Err}
use Rattle.whole_num.specs.declared.number.NumFault.{NumFault}
use Rattle.xpath_grammar.specs.declared.sign.Sign.{Sign}
use Rattle.xpath_grammar.specs.declared.sign.Cause.{Cause}
use Rattle.xpath_grammar.specs.declared.sign.Cause.TheVariants as cause
use Rattle.xpath_grammar.specs.Words.{Word}
use Rattle.xpath_grammar.specs.Signs.{is_number}
use Rattle.xpath_grammar.specs.Productions.{Nonterminal, Tree, Production, gives, word, part, either, number, nested}
use Rattle.xpath_grammar.specs.Grammar.{production}
use Rattle.xpath_grammar.specs.Trees.{Limit, IsTree}
use Rattle.xpath_grammar.specs.Refusal.{Refused}

-- a tree and the words behind it, or why the first of the words left is refused
abbrev pub Answer : Nonterminal → Type 0
Answer v = Result (Tree v × List Word) (Cause × List Word)

-- the next word passes
abbrev pub Starts : (Sign → Bool) → List Word → Type 0
Starts t [] = ⊥
Starts t (w ∷ ws) = t w.sign ≡ true

-- no word comes, or one that doesn't pass
abbrev pub Skips : (Sign → Bool) → List Word → Type 0
Skips t [] = Unit {0}
Skips t (w ∷ ws) = t w.sign ≡ false

-- what reading the words by a production answers
pub data Reads (limit : Limit) : ℕ → (v : Nonterminal) → Production v → List Word → Answer v → Type 0 where
  read_nothing : {d : ℕ} {v : Nonterminal} {x : Tree v} {ws : List Word} → Reads limit d v (gives x) ws (Ok (x, ws))
  read_word : {d : ℕ} {v : Nonterminal} {t : Sign → Bool} {k : Word → Production v} {w : Word} {ws : List Word} {a : Answer v} → t w.sign ≡ true
      → Reads limit d v (k w) ws a → Reads limit d v (word t k) (w ∷ ws) a
  read_wrong : {d : ℕ} {v : Nonterminal} {t : Sign → Bool} {k : Word → Production v} {ws : List Word} → Skips t ws → Reads limit d v (word t k) ws (Err (cause.Syntax, ws))
  read_parts : {d : ℕ} {v m : Nonterminal} {k : Tree m → Production v} {ws : List Word} {y : Tree m} {rest : List Word} {a : Answer v}
      → Reads limit d m (production m) ws (Ok (y, rest)) → Reads limit d v (k y) rest a → Reads limit d v (part m k) ws a
  read_part_fails : {d : ℕ} {v m : Nonterminal} {k : Tree m → Production v} {ws : List Word} {e : Cause × List Word} → Reads limit d m (production m) ws (Err e) → Reads limit d v (part m k) ws (Err e)
  read_first : {d : ℕ} {v : Nonterminal} {t : Sign → Bool} {p q : Production v} {ws : List Word} {a : Answer v} → Starts t ws → Reads limit d v p ws a → Reads limit d v (either t p q) ws a
  read_second : {d : ℕ} {v : Nonterminal} {t : Sign → Bool} {p q : Production v} {ws : List Word} {a : Answer v} → Skips t ws → Reads limit d v q ws a → Reads limit d v (either t p q) ws a
  read_number : {d : ℕ} {v : Nonterminal} {k : Word → Production v} {q : Production v} {w : Word} {ws : List Word} {a : Answer v} → is_number w.sign ≡ true
      → limit w.text ≡ None → Reads limit d v (k w) ws a → Reads limit d v (number k q) (w ∷ ws) a
  read_refused : {d : ℕ} {v : Nonterminal} {k : Word → Production v} {q : Production v} {w : Word} {ws : List Word} {f : NumFault} → is_number w.sign ≡ true
      → limit w.text ≡ Some f → Reads limit d v (number k q) (w ∷ ws) (Err (cause.Literal f, w ∷ ws))
  read_no_number : {d : ℕ} {v : Nonterminal} {k : Word → Production v} {q : Production v} {ws : List Word} {a : Answer v} → Skips is_number ws
      → Reads limit d v q ws a → Reads limit d v (number k q) ws a
  read_level : {d : ℕ} {v m : Nonterminal} {t : Sign → Bool} {k : Word → Tree m
      → Production v} {q : Production v} {w : Word} {ws : List Word} {y : Tree m} {rest : List Word} {a : Answer v} → t w.sign ≡ true
      → Reads limit d m (production m) ws (Ok (y, rest)) → Reads limit (suc d) v (k w y) rest a → Reads limit (suc d) v (nested t m k q) (w ∷ ws) a
  read_level_fails : {d : ℕ} {v m : Nonterminal} {t : Sign → Bool} {k : Word → Tree m
      → Production v} {q : Production v} {w : Word} {ws : List Word} {e : Cause × List Word} → t w.sign ≡ true → Reads limit d m (production m) ws (Err e)
      → Reads limit (suc d) v (nested t m k q) (w ∷ ws) (Err e)
  read_too_deep : {v m : Nonterminal} {t : Sign → Bool} {k : Word → Tree m → Production v} {q : Production v} {w : Word} {ws : List Word} → t w.sign ≡ true
      → Reads limit zero v (nested t m k q) (w ∷ ws) (Err (cause.TooDeep, w ∷ ws))
  read_no_level : {d : ℕ} {v m : Nonterminal} {t : Sign → Bool} {k : Word → Tree m → Production v} {q : Production v} {ws : List Word} {a : Answer v}
      → Skips t ws → Reads limit d v q ws a → Reads limit d v (nested t m k q) ws a

-- what is answered for all the words
abbrev pub whole : {X : Type 0} → Result (X × List Word) (Cause × List Word) → Result X (Cause × List Word)
whole (Err e) = Err e
whole (Ok (x, [])) = Ok x
whole (Ok (x, w ∷ rest)) = Err (cause.Syntax, w ∷ rest)

-- the answer's meaning: the words are this tree, or they are refused there
abbrev pub Outcome : Limit → ℕ → (v : Nonterminal) → List Word → Result (Tree v) (Cause × List Word) → Type 0
Outcome limit d v ws (Ok x) = IsTree limit d v ws x
Outcome limit d v ws (Err r) = Refused limit d v ws r.0 r.1
