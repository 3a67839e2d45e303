-- Reading leaves no more words than there were.
use Rattle.std.proofs.Common.{◌≡◌, refl, ap, ℕ, suc, ◌≤◌, ◌<◌, List, [], ◌∷◌, length, Result, Ok, Err, Bool, true, false, arith}
use Rattle.xpath_grammar.specs.declared.sign.Sign.{Sign}
use Rattle.xpath_grammar.specs.declared.sign.Cause.{Cause}
use Rattle.xpath_grammar.specs.Words as words
use Rattle.xpath_grammar.specs.Productions.{Nonterminal, Tree, Production}
use Rattle.xpath_grammar.specs.Trees.{Limit}
use Rattle.xpath_grammar.specs.Reading.{Answer, Reads, read_nothing, read_word, read_wrong, read_parts, read_part_fails, read_first, read_second}
use Rattle.xpath_grammar.specs.Reading.{read_number, read_refused, read_no_number, read_level, read_level_fails, read_too_deep, read_no_level}
use Rattle.xpath_words.specs.declared.word.Word.{Word}
use Rattle.xpath_words.specs.Seen.{Passes, ReadsSo, Slashed, seen}

abbrev left_of : {X : Type 0} → Result (X × List words.Word) (Cause × List words.Word) → List words.Word
left_of (Ok r) = r.1
left_of (Err r) = r.1

pub no_longer : {f : Limit} {d : ℕ} {v : Nonterminal} {p : Production v} {ws : List words.Word} {a : Answer v} → Reads f d v p ws a → length (left_of a) ≤ length ws
no_longer read_nothing = omega arith
no_longer (read_word t r) = let i = no_longer r in omega (arith, i)
no_longer (read_wrong s) = omega arith
no_longer (read_parts r s) = let i = no_longer r in let j = no_longer s in omega (arith, i, j)
no_longer (read_part_fails r) = no_longer r
no_longer (read_first s r) = no_longer r
no_longer (read_second s r) = no_longer r
no_longer (read_number t n r) = let i = no_longer r in omega (arith, i)
no_longer (read_refused t n) = omega arith
no_longer (read_no_number s r) = no_longer r
no_longer (read_level t r s) = let i = no_longer r in let j = no_longer s in omega (arith, i, j)
no_longer (read_level_fails t r) = let i = no_longer r in omega (arith, i)
no_longer (read_too_deep t) = omega arith
no_longer (read_no_level s r) = no_longer r

pub seen_length : (ws : List Word) → length ws ≡ length (seen ws)
seen_length [] = refl
seen_length (w ∷ ws) = ap suc (seen_length ws)

-- what is left behind a word and a nonterminal is shorter
pub shorter : {t : Sign → Bool} {d : ℕ} {v : Nonterminal} {w : words.Word} {x : Tree v} (ws next behind : List Word) → Passes t (seen ws) w (seen next)
    → ReadsSo d v (seen next) (Ok (x, seen behind)) → length behind < length ws
shorter {w = w} ws next behind p r = let i = no_longer r in let j = ap length p.is in omega (arith, i, j, seen_length ws, seen_length behind)

-- and what is left behind a word, a nonterminal and a word
pub shorter_closed : {t s : Sign → Bool} {d : ℕ} {v : Nonterminal} {w c : words.Word} {x : Tree v} (ws next us behind : List Word)
    → Passes t (seen ws) w (seen next) → ReadsSo d v (seen next) (Ok (x, seen us)) → Passes s (seen us) c (seen behind) → length behind < length ws
shorter_closed ws next us behind p r q =
    let i = shorter ws next us p r in let j = ap length q.is in omega (arith, i, j, seen_length us, seen_length behind)

-- and what is left behind `/` or `//` and a nonterminal
pub shorter_slashed : {d : ℕ} {v : Nonterminal} {x : Tree v} (deep : Bool) (ws next behind : List Word) → Slashed deep (seen ws) (seen next)
    → ReadsSo d v (seen next) (Ok (x, seen behind)) → length behind < length ws
shorter_slashed false ws next behind s r = shorter ws next behind s.1 r
shorter_slashed true ws next behind s r = shorter ws next behind s.2 r
