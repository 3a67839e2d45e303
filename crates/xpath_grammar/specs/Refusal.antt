-- Which word is refused, and why, by the grammar alone.
use Rattle.std.specs.Prelude.{◌≡◌, ℕ, suc, true, List, [], ◌∷◌, ◌++◌, Some, None}
use Rattle.xpath_grammar.specs.declared.sign.Cause.{Cause}
use Rattle.xpath_grammar.specs.declared.sign.Cause.TheVariants as cause
use Rattle.xpath_grammar.specs.Words.{Word}
use Rattle.xpath_grammar.specs.Signs.{is_number, opens_level}
use Rattle.xpath_grammar.specs.Productions.{Nonterminal, Tree}
use Rattle.xpath_grammar.specs.Trees.{Limit, IsTree}

-- some tree's words begin so
abbrev pub IsFront : Limit → ℕ → Nonterminal → List Word → Type 0
IsFront limit d v ws = (more : List Word) × (x : Tree v) × IsTree limit d v (ws ++ more) x

-- behind the words that were read comes nothing that a tree has there: its end, or its next word
abbrev pub Halts : Limit → ℕ → Nonterminal → List Word → List Word → Type 0
Halts limit d v read [] = (x : Tree v) → IsTree limit d v read x → ⊥
Halts limit d v read (w ∷ rest) = IsFront limit d v (read ++ w ∷ []) → ⊥

-- no number is refused
abbrev pub every : Limit
every text = None

-- why: no sentence goes on so, whatever the limits; or one does with every number; or one does with one level more
abbrev pub IsWhy : Limit → ℕ → Nonterminal → List Word → Cause → List Word → Type 0
IsWhy limit d v read cause.Syntax rest = (e : ℕ) → Halts every e v read rest
IsWhy limit d v read (cause.Literal f) (w ∷ rest) = (is_number w.sign ≡ true) × (limit w.text ≡ Some f) × IsFront every d v (read ++ w ∷ [])
IsWhy limit d v read cause.TooDeep (w ∷ rest) = (opens_level w.sign ≡ true) × IsFront limit (suc d) v (read ++ w ∷ [])
IsWhy limit d v read c [] = ⊥

-- the words of a nonterminal are refused at the first word of the rest, or at their end: the words before it begin a tree
pub record Refused (limit : Limit) (d : ℕ) (v : Nonterminal) (ws : List Word) (c : Cause) (rest : List Word) : Type 0 where
  pub read : List Word
  pub is : ws ≡ read ++ rest
  pub before : IsFront limit d v read
  pub here : Halts limit d v read rest
  pub why : IsWhy limit d v read c rest
