-- How a function's answer follows from that of a function that it calls.
use Rattle.std.proofs.Common.{◌≡◌, sym, ap, ◌∙◌, subst, ℕ, List, [], ◌++◌, append-nil, length, Result, Ok, Err, Bool, true, false, Bor}
use Rattle.std.proofs.lemmas.Bool.{false≢true}
use Rattle.xpath_syntax.specs.declared.expression.Expr.{Expr}
use Rattle.xpath_grammar.specs.declared.sign.Precedence.{Precedence}
use Rattle.xpath_grammar.specs.declared.sign.Cause.{Cause}
use Rattle.xpath_grammar.specs.declared.sign.Cause.TheVariants as cause
use Rattle.xpath_grammar.specs.Words as words
use Rattle.xpath_grammar.specs.Words.{whole_numbers}
use Rattle.xpath_grammar.specs.Productions as rule
use Rattle.xpath_grammar.specs.Productions.{Nonterminal, Production}
use Rattle.xpath_words.specs.declared.word.Word.{Word}
use Rattle.xpath_words.specs.declared.stop.ParseStop.{ParseStop}
use Rattle.xpath_words.specs.declared.stop.ParseStop.TheVariants as stop
use Rattle.xpath_words.specs.Seen.{Read, ReadsSo, Answered, seen}
use Rattle.xpath_words.proofs.Steps.{answered, failed, missing}
use Rattle.xpath_trees.proofs.ByGrammar.{add}

-- a tree with the words left, as the grammar sees them
abbrev pub view : {T : Type 0} → T × Bor (List Word) → T × List words.Word
view x = (x.0, seen x.1.now)

-- what the callee returned is returned
pub passed_on : {T : Type 0} (P : Read T → Type 0) (Q : Read T → Type 0) (r : Result (T × Bor (List Word)) ParseStop) → ((a : Read T) → P a → Q a)
    → Answered {X = T × Bor (List Word)} view P r → Answered {X = T × Bor (List Word)} view Q r
passed_on {T} P Q r f h = answered {X = T × Bor (List Word)} {P = P} view Q r f h

-- the callee's refusal is returned
pub exits : {T U : Type 0} (P : Read T → Type 0) (Q : Read U → Type 0) {r : Result (U × Bor (List Word)) ParseStop} {y e : ParseStop} → r ≡ Err y → y ≡ e
    → ((x : Cause × List words.Word) → P (Err x) → Q (Err x)) → Answered {X = T × Bor (List Word)} view P (Err e) → Answered {X = U × Bor (List Word)} view Q r
exits {T} {U} P Q {r} {y} {e} is same f h =
    subst (λ r. Answered {X = U × Bor (List Word)} view Q r) (sym (is ∙ ap (λ y. Err y) same)) (failed {X = T × Bor (List Word)} {Y = U × Bor (List Word)} view P view Q e f h)

-- the word that must come doesn't
pub misses : {U : Type 0} (Q : Read U → Type 0) (ws : List words.Word) {r : Result (U × Bor (List Word)) ParseStop} {y e : ParseStop} → r ≡ Err y → y ≡ e
    → e ≡ stop.Refused cause.Syntax (length ws) → Q (Err (cause.Syntax, ws)) → Answered {X = U × Bor (List Word)} view Q r
misses {U} Q ws {r} {y} {e} is same told q =
    subst (λ r. Answered {X = U × Bor (List Word)} view Q r) (sym (is ∙ ap (λ y. Err y) same)) (missing {Y = U × Bor (List Word)} view Q ws e told q)

-- another precedence that is the same
pub same_level : (d : ℕ) (p q : Precedence) (ws : List words.Word) (r : Result (Expr × Bor (List Word)) ParseStop) → p ≡ q
    → Answered {X = Expr × Bor (List Word)} view (ReadsSo d (rule.level q) ws) r → Answered {X = Expr × Bor (List Word)} view (ReadsSo d (rule.level p) ws) r
same_level d p q ws r e h = subst (λ p. Answered {X = Expr × Bor (List Word)} view (ReadsSo d (rule.level p) ws) r) (sym e) h

-- a list to which more was added
pub added : {X : Type 0} (P : Read (List X) → Type 0) (new old more : List X) (a : Read (List X)) → new ≡ old ++ more → P (add (old ++ more) a) → P (add new a)
added P new old more a e h = subst (λ l. P (add l a)) (sym e) h

-- a list to which nothing more is added
pub at_end : {X : Type 0} (P : Read (List X) → Type 0) (xs : List X) (ws : List words.Word) → P (add xs (Ok ([], ws))) → P (Ok (xs, ws))
at_end P xs ws h = subst (λ l. P (Ok (l, ws))) (append-nil xs) h

-- the first of a list
pub first_added : {X : Type 0} {new old more : List X} → new ≡ old ++ more → old ≡ [] → new ≡ more
first_added {more = more} e n = e ∙ ap (λ l. l ++ more) n

pub never : {X : Type 0} {b : Bool} → b ≡ true → b ≡ false → X
never t f = absurd (false≢true (sym f ∙ t))
