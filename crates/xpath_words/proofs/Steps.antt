-- Reading by a production, step by step, from what the functions tell of the next word.
use Rattle.std.proofs.Common.{◌≡◌, refl, sym, subst, ℕ, zero, suc, List, [], ◌∷◌, length, Some, None, Result, Ok, Err, Bool, Bor}
use Rattle.std.specs.Result.{IsErrAnd}
use Rattle.whole_num.specs.declared.number.NumFault.{NumFault}
use Rattle.xpath_grammar.specs.declared.sign.Sign.{Sign}
use Rattle.xpath_grammar.specs.declared.sign.Cause.{Cause}
use Rattle.xpath_grammar.specs.declared.sign.Cause.TheVariants as cause
use Rattle.xpath_grammar.specs.Words as words
use Rattle.xpath_grammar.specs.Words.{whole_numbers}
use Rattle.xpath_grammar.specs.Signs.{is_number}
use Rattle.xpath_grammar.specs.Productions.{Nonterminal, Tree, Production, gives, word, part, either, number, nested}
use Rattle.xpath_grammar.specs.Reading.{Answer, Starts, Skips, Reads, read_nothing, read_word, read_parts, read_first, read_number, read_refused, read_level, read_level_fails, read_too_deep}
use Rattle.xpath_words.specs.declared.stop.ParseStop.{ParseStop}
use Rattle.xpath_words.specs.declared.stop.ParseStop.TheVariants as stop
use Rattle.xpath_words.specs.declared.word.Word.{Word}
use Rattle.xpath_words.specs.Seen.{Read, ReadsSo, Passes, IsFlaw, Answered, seen}

pub took : {d : ℕ} {v : Nonterminal} {t : Sign → Bool} {k : words.Word
    → Production v} {ws : List words.Word} {w : words.Word} {rest : List words.Word} {a : Answer v} → Passes t ws w rest
    → Reads whole_numbers d v (k w) rest a → Reads whole_numbers d v (word t k) ws a
took {d} {v} {t} {k} {ws} {w} {rest} {a} p r = subst (λ ws. Reads whole_numbers d v (word t k) ws a) (sym p.is) (read_word p.passes r)

pub took_first : {d : ℕ} {v : Nonterminal} {t : Sign → Bool} {k : words.Word
    → Production v} {q : Production v} {ws : List words.Word} {w : words.Word} {rest : List words.Word} {a : Answer v} → Passes t ws w rest
    → Reads whole_numbers d v (k w) rest a → Reads whole_numbers d v (either t (word t k) q) ws a
took_first {d} {v} {t} {k} {q} {ws} {w} {rest} {a} p r = subst (λ ws. Reads whole_numbers d v (either t (word t k) q) ws a) (sym p.is) (read_first p.passes (read_word p.passes r))

pub took_number : {d : ℕ} {v : Nonterminal} {k : words.Word
    → Production v} {q : Production v} {ws : List words.Word} {w : words.Word} {rest : List words.Word} {a : Answer v} → Passes is_number ws w rest
    → whole_numbers w.text ≡ None → Reads whole_numbers d v (k w) rest a → Reads whole_numbers d v (number k q) ws a
took_number {d} {v} {k} {q} {ws} {w} {rest} {a} p n r = subst (λ ws. Reads whole_numbers d v (number k q) ws a) (sym p.is) (read_number p.passes n r)

pub number_refused : {d : ℕ} {v : Nonterminal} {k : words.Word
    → Production v} {q : Production v} {ws : List words.Word} {w : words.Word} {rest : List words.Word} (f : NumFault) → Passes is_number ws w rest
    → whole_numbers w.text ≡ Some f → Reads whole_numbers d v (number k q) ws (Err (cause.Literal f, ws))
number_refused {d} {v} {k} {q} {ws} {w} {rest} f p s = subst (λ ws. Reads whole_numbers d v (number k q) ws (Err (cause.Literal f, ws))) (sym p.is) (read_refused p.passes s)

pub took_level : {d e : ℕ} {v m : Nonterminal} {t : Sign → Bool} {k : words.Word → Tree m
    → Production v} {q : Production v} {ws : List words.Word} {w : words.Word} {rest : List words.Word} {y : Tree m} {behind : List words.Word}
    {a : Answer v} → suc e ≡ d → Passes t ws w rest → ReadsSo e m rest (Ok (y, behind)) → Reads whole_numbers d v (k w y) behind a
    → Reads whole_numbers d v (nested t m k q) ws a
took_level {d} {e} {v} {m} {t} {k} {q} {ws} {w} {rest} {y} {behind} {a} s p r u =
    subst (λ ws. Reads whole_numbers d v (nested t m k q) ws a) (sym p.is)
    (subst (λ d. Reads whole_numbers d v (nested t m k q) (w ∷ rest) a) s (read_level p.passes r (subst (λ d. Reads whole_numbers d v (k w y) behind a) (sym s) u)))

pub level_failed : {d e : ℕ} {v m : Nonterminal} {t : Sign → Bool} {k : words.Word → Tree m
    → Production v} {q : Production v} {ws : List words.Word} {w : words.Word} {rest : List words.Word} {r : Cause × List words.Word} → suc e ≡ d
    → Passes t ws w rest → ReadsSo e m rest (Err r) → Reads whole_numbers d v (nested t m k q) ws (Err r)
level_failed {d} {e} {v} {m} {t} {k} {q} {ws} {w} {rest} {r} s p u =
    subst (λ ws. Reads whole_numbers d v (nested t m k q) ws (Err r)) (sym p.is)
    (subst (λ d. Reads whole_numbers d v (nested t m k q) (w ∷ rest) (Err r)) s (read_level_fails p.passes u))

pub too_deep : {d : ℕ} {v m : Nonterminal} {t : Sign → Bool} {k : words.Word → Tree m
    → Production v} {q : Production v} {ws : List words.Word} {w : words.Word} {rest : List words.Word} → d ≡ zero → Passes t ws w rest
    → Reads whole_numbers d v (nested t m k q) ws (Err (cause.TooDeep, ws))
too_deep {d} {v} {m} {t} {k} {q} {ws} {w} {rest} z p =
    subst (λ ws. Reads whole_numbers d v (nested t m k q) ws (Err (cause.TooDeep, ws))) (sym p.is)
    (subst (λ d. Reads whole_numbers d v (nested t m k q) (w ∷ rest) (Err (cause.TooDeep, w ∷ rest))) (sym z) (read_too_deep p.passes))

pub starts_where : {t : Sign → Bool} {ws : List words.Word} {w : words.Word} {rest : List words.Word} → Passes t ws w rest → Starts t ws
starts_where {t} {ws} {w} {rest} p = subst (Starts t) (sym p.is) p.passes

-- a nonterminal alone
pub alone : {d : ℕ} {v m : Nonterminal} {f : Tree m → Tree v} {ws : List words.Word} {y : Tree m} {rest : List words.Word} → ReadsSo d m ws (Ok (y, rest))
    → Reads whole_numbers d v (part m (λ x. gives (f x))) ws (Ok (f y, rest))
alone r = read_parts r read_nothing

-- an answer of one kind is one of another
pub answered : {X T : Type 0} {P : Read T → Type 0} (view : X → T × List words.Word) (Q : Read T → Type 0) (r : Result X ParseStop) → ((a : Read T) → P a → Q a) → Answered view P r → Answered view Q r
answered view Q (Ok x) f h = f _ h
answered view Q (Err stop.Memory) f h = tt
answered view Q (Err (stop.Refused c n)) f h = (h.0, f _ h.1, h.2)

pub failed : {X Y T U : Type 0} (view : X → T × List words.Word) (P : Read T → Type 0) (see : Y → U × List words.Word) (Q : Read U
    → Type 0) (e : ParseStop) → ((r : Cause × List words.Word) → P (Err r) → Q (Err r)) → Answered view P (Err e) → Answered see Q (Err e)
failed view P see Q stop.Memory f h = tt
failed view P see Q (stop.Refused c n) f h = (h.0, f (c, h.0) h.1, h.2)

-- the word that must come doesn't
pub missing : {Y U : Type 0} (see : Y → U × List words.Word) (Q : Read U → Type 0) (ws : List words.Word) (e : ParseStop)
    → e ≡ stop.Refused cause.Syntax (length ws) → Q (Err (cause.Syntax, ws)) → Answered see Q (Err e)
missing see Q ws e is q = subst (λ e. Answered see Q (Err e)) (sym is) (ws, q, refl)

-- the tree that is given
pub gave : {d : ℕ} {v : Nonterminal} {x y : Tree v} {ws : List words.Word} → x ≡ y → Reads whole_numbers d v (gives y) ws (Ok (x, ws))
gave {d} {v} {x} {y} {ws} e = subst (λ x. Reads whole_numbers d v (gives y) ws (Ok (x, ws))) (sym e) read_nothing

-- a level begins where no level is left
pub no_level_left : {v m : Nonterminal} {t : Sign → Bool} {k : words.Word → Tree m → Production v} {q : Production v} (ws : List words.Word) → Starts t ws
    → Reads whole_numbers zero v (nested t m k q) ws (Err (cause.TooDeep, ws))
no_level_left [] s = absurd s
no_level_left (w ∷ ws) s = read_too_deep s

-- what goes out by `?` is the error that came
pub gone_out : {X T : Type 0} (view : X → T × List words.Word) (Q : Read T → Type 0) (r : Result X ParseStop) (e : ParseStop) → IsErrAnd r (λ y. y ≡ e) → Answered view Q (Err e) → Answered view Q r
gone_out view Q (Ok x) e h a = absurd h
gone_out view Q (Err y) e h a = subst (λ y. Answered view Q (Err y)) (sym h) a

-- a tree with the code's words behind it, as the grammar sees it
abbrev pub shown : {T : Type 0} → T × Bor (List Word) → T × List words.Word
shown x = (x.0, seen x.1.now)

-- the word that must come doesn't, and this goes out
pub missing_out : (d : ℕ) (v : Nonterminal) (p : Production v) (ws : List words.Word) (r : Result (Tree v × Bor (List Word)) ParseStop) (t : Sign
    → Bool) (us : List words.Word) (e : ParseStop) → IsErrAnd r (λ y. y ≡ e) → Skips t us × (e ≡ stop.Refused cause.Syntax (length us))
    → (Skips t us → Reads whole_numbers d v p ws (Err (cause.Syntax, us))) → Answered shown (Reads whole_numbers d v p ws) r
missing_out d v p ws r t us e o h q =
    gone_out shown (Reads whole_numbers d v p ws) r e o (missing shown (Reads whole_numbers d v p ws) us e h.1 (q h.0))

-- the number that comes is refused, and this goes out
pub flaw_out : (d : ℕ) (v : Nonterminal) (p : Production v) (ws : List words.Word) (r : Result (Tree v × Bor (List Word)) ParseStop) (text : List ℕ)
    (left : ℕ) (us : List words.Word) (e : ParseStop) → IsErrAnd r (λ y. y ≡ e) → left ≡ length us → IsFlaw text left e
    → ((f : NumFault) → whole_numbers text ≡ Some f → Reads whole_numbers d v p ws (Err (cause.Literal f, us))) → Answered shown (Reads whole_numbers d v p ws) r
flaw_out d v p ws r text left us e o n h q =
    gone_out shown (Reads whole_numbers d v p ws) r e o (subst (λ e. Answered shown (Reads whole_numbers d v p ws) (Err e)) (sym h.2) (us, q h.0 h.1, n))

-- what is read of the words behind answers for those before them
pub answered_on : (d : ℕ) (v : Nonterminal) (p q : Production v) (us ws : List words.Word) (r : Result (Tree v × Bor (List Word)) ParseStop)
    → ((a : Answer v) → Reads whole_numbers d v p us a → Reads whole_numbers d v q ws a) → Answered shown (Reads whole_numbers d v p us) r
    → Answered shown (Reads whole_numbers d v q ws) r
answered_on d v p q us ws r f h = answered shown (Reads whole_numbers d v q ws) r f h
