-- Reading by the grammar ends with an answer, whatever the words.
use Rattle.std.proofs.Common.{◌≡◌, refl, ℕ, zero, suc, ◌+◌, ◌*◌, ◌<◌, ◌≤◌, List, [], ◌∷◌, length, Option, Some, None, Result, Ok, Err, Bool, true, false, arith}
use Rattle.std.specs.Prelude.{nat_lt}
use Rattle.std.proofs.lemmas.Bool.Decides.{nat_tests}
use Rattle.whole_num.specs.declared.number.NumFault.{NumFault}
use Rattle.xpath_grammar.specs.declared.sign.Sign.{Sign}
use Rattle.xpath_grammar.specs.declared.sign.Cause.{Cause}
use Rattle.xpath_grammar.specs.declared.sign.Cause.TheVariants as cause
use Rattle.xpath_grammar.specs.declared.sign.Precedence.TheVariants as precedence
use Rattle.xpath_grammar.specs.Words.{Word}
use Rattle.xpath_grammar.specs.Signs.{place, is_number}
use Rattle.xpath_grammar.specs.Productions.{Nonterminal, level, more, primary, predicates, relative_tail, call, arguments, more_arguments, location, steps}
use Rattle.xpath_grammar.specs.Productions.{more_steps, step, tested, node_test, pattern, more_patterns, pattern_path, pattern_steps, more_pattern_steps}
use Rattle.xpath_grammar.specs.Productions.{pattern_step, Tree, Production, gives, word, part, either, number, nested}
use Rattle.xpath_grammar.specs.Grammar.{production}
use Rattle.xpath_grammar.specs.Trees.{Limit}
use Rattle.xpath_grammar.specs.Reading.{Answer, Reads, read_nothing, read_word, read_wrong, read_parts, read_part_fails, read_first, read_second, read_number}
use Rattle.xpath_grammar.specs.Reading.{read_refused, read_no_number, read_level, read_level_fails, read_too_deep, read_no_level, whole, Outcome}
use Rattle.xpath_grammar.proofs.Exact.{ends_so}

abbrev left_of : {X : Type 0} → Result (X × List Word) (Cause × List Word) → List Word
left_of (Ok r) = r.1
left_of (Err r) = r.1

-- an answer, which leaves no more words than there were
pub record Found (f : Limit) (d : ℕ) (v : Nonterminal) (p : Production v) (ws : List Word) : Type 0 where
  pub answer : Answer v
  pub is : Reads f d v p ws answer
  pub left : length (left_of answer) ≤ length ws

nothing_found : (f : Limit) (d : ℕ) (v : Nonterminal) (x : Tree v) (ws : List Word) → Found f d v (gives x) ws
nothing_found f d v x ws = record { answer = Ok (x, ws); is = read_nothing; left = omega arith }

wrong_found : (f : Limit) (d : ℕ) (v : Nonterminal) (t : Sign → Bool) (k : Word → Production v) (w : Word) (ws : List Word) → t w.sign ≡ false → Found f d v (word t k) (w ∷ ws)
wrong_found f d v t k w ws e = record { answer = Err (cause.Syntax, w ∷ ws); is = read_wrong e; left = omega arith }

none_found : (f : Limit) (d : ℕ) (v : Nonterminal) (t : Sign → Bool) (k : Word → Production v) → Found f d v (word t k) []
none_found f d v t k = record { answer = Err (cause.Syntax, []); is = read_wrong tt; left = omega arith }

word_found : (f : Limit) (d : ℕ) (v : Nonterminal) (t : Sign → Bool) (k : Word → Production v) (w : Word) (ws : List Word) → Found f d v (k w) ws → (b : Bool)
    → t w.sign ≡ b → Found f d v (word t k) (w ∷ ws)
word_found f d v t k w ws F true e = record { answer = F.answer; is = read_word e F.is; left = omega (arith, F.left) }
word_found f d v t k w ws F false e = wrong_found f d v t k w ws e

-- what is found behind a part's tree and no more words than there were
abbrev Then : Limit → ℕ → (v m : Nonterminal) → (Tree m → Production v) → List Word → Type 0
Then f d v m k ws = (y : Tree m) (rest : List Word) → length rest ≤ length ws → Found f d v (k y) rest

part_found : (f : Limit) (d : ℕ) (v m : Nonterminal) (k : Tree m → Production v) (ws : List Word) → Then f d v m k ws → (a : Answer m)
    → Reads f d m (production m) ws a → length (left_of a) ≤ length ws → Found f d v (part m k) ws
part_found f d v m k ws go (Ok (y, rest)) r h = let F = go y rest h in record { answer = F.answer; is = read_parts r F.is; left = omega (arith, h, F.left) }
part_found f d v m k ws go (Err e) r h = record { answer = Err e; is = read_part_fails r; left = h }

either_tested : (f : Limit) (d : ℕ) (v : Nonterminal) (t : Sign → Bool) (p q : Production v) (w : Word) (ws : List Word) → Found f d v p (w ∷ ws)
    → Found f d v q (w ∷ ws) → (b : Bool) → t w.sign ≡ b → Found f d v (either t p q) (w ∷ ws)
either_tested f d v t p q w ws P Q true e = record { answer = P.answer; is = read_first e P.is; left = P.left }
either_tested f d v t p q w ws P Q false e = record { answer = Q.answer; is = read_second e Q.is; left = Q.left }

either_found : (f : Limit) (d : ℕ) (v : Nonterminal) (t : Sign → Bool) (p q : Production v) (ws : List Word) → Found f d v p ws → Found f d v q ws → Found f d v (either t p q) ws
either_found f d v t p q [] P Q = record { answer = Q.answer; is = read_second tt Q.is; left = Q.left }
either_found f d v t p q (w ∷ ws) P Q = either_tested f d v t p q w ws P Q (t w.sign) refl

number_limited : (f : Limit) (d : ℕ) (v : Nonterminal) (k : Word → Production v) (q : Production v) (w : Word) (ws : List Word) → Found f d v (k w) ws
    → is_number w.sign ≡ true → (o : Option NumFault) → f w.text ≡ o → Found f d v (number k q) (w ∷ ws)
number_limited f d v k q w ws F e None n = record { answer = F.answer; is = read_number e n F.is; left = omega (arith, F.left) }
number_limited f d v k q w ws F e (Some m) n = record { answer = Err (cause.Literal m, w ∷ ws); is = read_refused e n; left = omega arith }

number_found : (f : Limit) (d : ℕ) (v : Nonterminal) (k : Word → Production v) (q : Production v) (w : Word) (ws : List Word) → Found f d v (k w) ws
    → Found f d v q (w ∷ ws) → (b : Bool) → is_number w.sign ≡ b → Found f d v (number k q) (w ∷ ws)
number_found f d v k q w ws F Q true e = number_limited f d v k q w ws F e (f w.text) refl
number_found f d v k q w ws F Q false e = record { answer = Q.answer; is = read_no_number e Q.is; left = Q.left }

no_number_found : (f : Limit) (d : ℕ) (v : Nonterminal) (k : Word → Production v) (q : Production v) → Found f d v q [] → Found f d v (number k q) []
no_number_found f d v k q Q = record { answer = Q.answer; is = read_no_number tt Q.is; left = Q.left }

level_read : (f : Limit) (d : ℕ) (v m : Nonterminal) (t : Sign → Bool) (k : Word → Tree m → Production v) (q : Production v) (w : Word) (ws : List Word)
    → t w.sign ≡ true → Then f (suc d) v m (k w) ws → (a : Answer m) → Reads f d m (production m) ws a → length (left_of a) ≤ length ws
    → Found f (suc d) v (nested t m k q) (w ∷ ws)
level_read f d v m t k q w ws e go (Ok (y, rest)) r h = let F = go y rest h in record { answer = F.answer; is = read_level e r F.is; left = omega (arith, h, F.left) }
level_read f d v m t k q w ws e go (Err x) r h = record { answer = Err x; is = read_level_fails e r; left = omega (arith, h) }

level_found : (f : Limit) (d : ℕ) (v m : Nonterminal) (t : Sign → Bool) (k : Word → Tree m → Production v) (q : Production v) (w : Word) (ws : List Word)
    → ((e : ℕ) → Found f e m (production m) ws) → Then f d v m (k w) ws → Found f d v q (w ∷ ws) → (b : Bool) → t w.sign ≡ b
    → Found f d v (nested t m k q) (w ∷ ws)
level_found f zero v m t k q w ws inner go Q true e = record { answer = Err (cause.TooDeep, w ∷ ws); is = read_too_deep e; left = omega arith }
level_found f (suc d) v m t k q w ws inner go Q true e = let F = inner d in level_read f d v m t k q w ws e go F.answer F.is F.left
level_found f d v m t k q w ws inner go Q false e = record { answer = Q.answer; is = read_no_level e Q.is; left = Q.left }

no_level_found : (f : Limit) (d : ℕ) (v m : Nonterminal) (t : Sign → Bool) (k : Word → Tree m → Production v) (q : Production v) → Found f d v q [] → Found f d v (nested t m k q) []
no_level_found f d v m t k q Q = record { answer = Q.answer; is = read_no_level tt Q.is; left = Q.left }

-- what a nonterminal begins with ranks below it; behind a word each may come
abbrev rank : Nonterminal → ℕ
rank (level p) = 5 + place p
rank (more p left) = 0
rank primary = 0
rank predicates = 0
rank relative_tail = 0
rank call = 0
rank arguments = 14
rank more_arguments = 0
rank location = 4
rank steps = 3
rank more_steps = 0
rank step = 2
rank (tested a) = 1
rank node_test = 0
rank pattern = 5
rank more_patterns = 0
rank pattern_path = 4
rank pattern_steps = 3
rank more_pattern_steps = 0
rank pattern_step = 2

-- the parts of a production before its first word rank below this
abbrev Ranked : ℕ → (v : Nonterminal) → Production v → Type 0
Ranked c v (gives x) = Unit {0}
Ranked c v (word t k) = Unit {0}
Ranked c v (part m k) = (nat_lt (rank m) c ≡ true) × ((x : Tree m) → Ranked c v (k x))
Ranked c v (either t p q) = Ranked c v p × Ranked c v q
Ranked c v (number k q) = Ranked c v q
Ranked c v (nested t m k q) = Ranked c v q

ranked : (v : Nonterminal) → Ranked (rank v) v (production v)
ranked (level precedence.Path) = ((refl, λ x. (refl, λ ps. (refl, λ t. tt))), (refl, λ p. tt))
ranked (level precedence.Union) = (refl, λ x. (refl, λ y. tt))
ranked (level precedence.Unary) = (refl, λ x. tt)
ranked (level precedence.Multiplicative) = (refl, λ x. (refl, λ y. tt))
ranked (level precedence.Additive) = (refl, λ x. (refl, λ y. tt))
ranked (level precedence.Relational) = (refl, λ x. (refl, λ y. tt))
ranked (level precedence.Equality) = (refl, λ x. (refl, λ y. tt))
ranked (level precedence.And) = (refl, λ x. (refl, λ y. tt))
ranked (level precedence.Or) = (refl, λ x. (refl, λ y. tt))
ranked (more p left) = (tt, tt)
ranked primary = (tt, tt)
ranked predicates = tt
ranked relative_tail = (tt, (tt, tt))
ranked call = tt
ranked arguments = ((refl, λ x. (refl, λ xs. tt)), tt)
ranked more_arguments = (tt, tt)
ranked location = (tt, (tt, (refl, λ ss. tt)))
ranked steps = (refl, λ s. (refl, λ ss. tt))
ranked more_steps = (tt, (tt, tt))
ranked step = (tt, (tt, (tt, (tt, (refl, λ s. tt)))))
ranked (tested a) = (refl, λ t. (refl, λ ps. tt))
ranked node_test = (tt, (tt, (tt, (tt, tt))))
ranked pattern = (refl, λ p. (refl, λ ps. tt))
ranked more_patterns = (tt, tt)
ranked pattern_path = (tt, (tt, (tt, (tt, (refl, λ ss. tt)))))
ranked pattern_steps = (refl, λ s. (refl, λ ss. tt))
ranked more_pattern_steps = (tt, (tt, tt))
ranked pattern_step = (tt, (tt, (refl, λ s. tt)))

highest : (v : Nonterminal) → nat_lt (rank v) 15 ≡ true
highest (level precedence.Path) = refl
highest (level precedence.Union) = refl
highest (level precedence.Unary) = refl
highest (level precedence.Multiplicative) = refl
highest (level precedence.Additive) = refl
highest (level precedence.Relational) = refl
highest (level precedence.Equality) = refl
highest (level precedence.And) = refl
highest (level precedence.Or) = refl
highest (more p left) = refl
highest primary = refl
highest predicates = refl
highest relative_tail = refl
highest call = refl
highest arguments = refl
highest more_arguments = refl
highest location = refl
highest steps = refl
highest more_steps = refl
highest step = refl
highest (tested a) = refl
highest node_test = refl
highest pattern = refl
highest more_patterns = refl
highest pattern_path = refl
highest pattern_steps = refl
highest more_pattern_steps = refl
highest pattern_step = refl

any_ranked : (v : Nonterminal) (p : Production v) → Ranked 15 v p
any_ranked v (gives x) = tt
any_ranked v (word t k) = tt
any_ranked v (part m k) = (highest m, λ x. any_ranked v (k x))
any_ranked v (either t p q) = (any_ranked v p, any_ranked v q)
any_ranked v (number k q) = any_ranked v q
any_ranked v (nested t m k q) = any_ranked v q

is_less : (m n : ℕ) → nat_lt m n ≡ true → m < n
is_less m n e = grind (arith, nat_tests)

-- what has fewer words, or as many and a lower rank, has an answer
abbrev Below : Limit → ℕ → Type 0
Below f most = (d : ℕ) (m : Nonterminal) (ws : List Word) → 15 * length ws + rank m < most → Found f d m (production m) ws

by_production : (f : Limit) (most : ℕ) → Below f most → (v : Nonterminal) (p : Production v) (c d : ℕ) (ws : List Word) → Ranked c v p → 15 * length ws + c ≤ most → Found f d v p ws
by_production f most below v (gives x) c d ws R h = nothing_found f d v x ws
by_production f most below v (word t k) c d [] R h = none_found f d v t k
by_production f most below v (word t k) c d (w ∷ ws) R h = word_found f d v t k w ws (by_production f most below v (k w) 15 d ws (any_ranked v (k w)) (omega arith)) (t w.sign) refl
by_production f most below v (part m k) c d ws R h =
    let less = is_less (rank m) c R.0 in
    let F = below d m ws (omega (arith, less, h)) in
    part_found f d v m k ws (λ y rest l. by_production f most below v (k y) c d rest (R.1 y) (omega (arith, l, h))) F.answer F.is F.left
by_production f most below v (either t p q) c d ws R h = either_found f d v t p q ws (by_production f most below v p c d ws R.0 h) (by_production f most below v q c d ws R.1 h)
by_production f most below v (number k q) c d [] R h = no_number_found f d v k q (by_production f most below v q c d [] R h)
by_production f most below v (number k q) c d (w ∷ ws) R h =
    number_found f d v k q w ws (by_production f most below v (k w) 15 d ws (any_ranked v (k w)) (omega arith)) (by_production f most below v q c d (w ∷ ws) R h) (is_number w.sign) refl
by_production f most below v (nested t m k q) c d [] R h = no_level_found f d v m t k q (by_production f most below v q c d [] R h)
by_production f most below v (nested t m k q) c d (w ∷ ws) R h =
    let less = is_less (rank m) 15 (highest m) in
    level_found f d v m t k q w ws (λ e. below e m ws (omega (arith, less, h)))
    (λ y rest l. by_production f most below v (k w y) 15 d rest (any_ranked v (k w y)) (omega (arith, l, h))) (by_production f most below v q c d (w ∷ ws) R h) (t w.sign) refl

below : (f : Limit) (most : ℕ) → Below f most
below f zero = λ d m ws h. absurd (omega (arith, h))
below f (suc most) = λ d m ws h. by_production f most (below f most) m (production m) (rank m) d ws (ranked m) (omega (arith, h))

pub found : (f : Limit) (d : ℕ) (v : Nonterminal) (ws : List Word) → Found f d v (production v) ws
found f d v ws = below f (suc (15 * length ws + rank v)) d v ws (omega arith)

-- the words are a tree, or they are refused somewhere
pub an_outcome : (f : Limit) (d : ℕ) (v : Nonterminal) (ws : List Word) → (r : Result (Tree v) (Cause × List Word)) × Outcome f d v ws r
an_outcome f d v ws = let F = found f d v ws in (whole F.answer, ends_so F.is)
