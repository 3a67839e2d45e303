-- Reading all the words: they are a tree, or are refused.
use Rattle.std.proofs.Common.{◌≡◌, refl, List, [], ◌∷◌, length, Bor, Ok, Err, arith}
use Rattle.xpath_grammar.specs.declared.sign.Cause.TheVariants as cause
use Rattle.xpath_grammar.specs.Words as words
use Rattle.xpath_grammar.specs.Words.{whole_numbers}
use Rattle.xpath_grammar.specs.Productions.{Nonterminal, Tree}
use Rattle.xpath_grammar.specs.Trees.{IsTree}
use Rattle.xpath_grammar.specs.Refusal.{Refused}
use Rattle.xpath_grammar.specs.Reading.{Answer, Outcome, whole}
use Rattle.xpath_words.specs.declared.word.Word.{Word}
use Rattle.xpath_words.specs.declared.stop.ParseStop.{ParseStop}
use Rattle.xpath_words.specs.declared.stop.ParseStop.TheVariants as stop
use Rattle.xpath_words.specs.Seen.{Answered, ReadsSo, Whole, most_levels, seen}

-- what reading answers is what the words are
abbrev pub Exact : (v : Nonterminal) → List words.Word → Type 0
Exact v ws = (a : Answer v) → ReadsSo most_levels v ws a → Outcome whole_numbers most_levels v ws (whole a)

pub tree_of_all : (v : Nonterminal) (ws : List words.Word) (x : Tree v) (rest : List Word) → Exact v ws → length rest ≡ 0
    → ReadsSo most_levels v ws (Ok (x, seen rest)) → IsTree whole_numbers most_levels v ws x
tree_of_all v ws x [] exact e r = exact (Ok (x, [])) r
tree_of_all v ws x (w ∷ rest) exact e r = absurd (omega (arith, e))

pub words_left : (v : Nonterminal) (ws : List words.Word) (x : Tree v) (rest : List Word) → Exact v ws → (length rest ≡ 0 → ⊥)
    → ReadsSo most_levels v ws (Ok (x, seen rest)) → Refused whole_numbers most_levels v ws cause.Syntax (seen rest)
words_left v ws x [] exact e r = absurd (e refl)
words_left v ws x (w ∷ rest) exact e r = exact (Ok (x, seen (w ∷ rest))) r

pub refused_whole : (v : Nonterminal) (ws : List words.Word) (e : ParseStop) → Exact v ws
    → Answered {X = Tree v × Bor (List Word)} (λ x. (x.0, seen x.1.now)) (ReadsSo most_levels v ws) (Err e) → Whole v ws (Err e)
refused_whole v ws stop.Memory exact h = tt
refused_whole v ws (stop.Refused c n) exact h = (h.0, exact (Err (c, h.0)) h.1, h.2)
