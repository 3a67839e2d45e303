-- What is in the grammar is read.
use Rattle.std.proofs.Common.{◌≡◌, refl, sym, subst, ℕ, suc, List, [], ◌∷◌, ◌++◌, append_assoc, append-nil, Ok, Bool, true, false}
use Rattle.std.specs.Prelude.{◌||◌, ◌&&◌}
use Rattle.xpath_grammar.specs.declared.sign.Sign.{Sign}
use Rattle.xpath_grammar.specs.Words.{Word}
use Rattle.xpath_grammar.specs.Signs.{is_number}
use Rattle.xpath_grammar.specs.Productions.{Nonterminal, Tree, Production, part, nested}
use Rattle.xpath_grammar.specs.Grammar.{production}
use Rattle.xpath_grammar.specs.Trees.{Limit, Derives, nothing, one_word, two_parts, first, second, one_number, no_number, in_level, no_level}
use Rattle.xpath_grammar.specs.Reading.{Starts, Skips, Reads, read_nothing, read_word, read_parts, read_first, read_second, read_number, read_no_number, read_level, read_no_level}
use Rattle.xpath_grammar.proofs.Fill.{implies, implied}
use Rattle.xpath_grammar.proofs.Firsts.{sample, starts, is_empty, eats, fades, begins, apart, Fits}
use Rattle.xpath_grammar.proofs.LookAhead.{fitting, begin_there, fade_there}

-- no words where there may be none, or words of which the first passes
abbrev Heads : Bool → (Sign → Bool) → List Word → Type 0
Heads f b [] = f ≡ true
Heads f b (w ∷ ws) = b w.sign ≡ true

heads_more : (f g : Bool) (b c : Sign → Bool) (ws : List Word) → (f ≡ true → g ≡ true) → ((s : Sign) → b s ≡ true → c s ≡ true) → Heads f b ws → Heads g c ws
heads_more f g b c [] h k e = h e
heads_more f g b c (w ∷ ws) h k e = k w.sign e

or_left : (a b : Bool) → a ≡ true → (a || b) ≡ true
or_left true b h = refl
or_left false b h = cc

or_right : (a b : Bool) → b ≡ true → (a || b) ≡ true
or_right true b h = refl
or_right false b h = h

and_both : (a b : Bool) → a ≡ true → b ≡ true → (a && b) ≡ true
and_both true b h k = k
and_both false b h k = cc

heads_append : (f g : Bool) (b c : Sign → Bool) (us ws : List Word) → Heads f b us → Heads g c ws → Heads (f && g) (λ s. b s || f && c s) (us ++ ws)
heads_append f g b c [] [] h k = and_both f g h k
heads_append f g b c [] (w ∷ ws) h k = or_right (b w.sign) (f && c w.sign) (and_both f (c w.sign) h k)
heads_append f g b c (u ∷ us) ws h k = or_left (b u.sign) (f && c u.sign) h

firsts : {f : Limit} {d : ℕ} {v : Nonterminal} {p : Production v} {ws : List Word} {x : Tree v} (e : Sign → Bool) → Fits v p e → Derives f d v p ws x → Heads (fades v p) (begins v p) ws
firsts e F nothing = refl
firsts e F (one_word w h i) = h
firsts {v = v} e F (two_parts {m = m} {k = k} {us = us} {ws = ws} {y = y} i j) =
    let a = heads_more (fades m (production m)) (is_empty m) (begins m (production m)) (starts m) us
    (λ h. implied (fades m (production m)) (is_empty m) (fade_there m) h)
    (λ s h. implied (begins m (production m) s) (starts m s) (begin_there m s) h) (firsts (eats m) (fitting m) i) in
    let S = F y in
    let b = heads_more (fades v (k y)) (fades v (k (sample m))) (begins v (k y)) (begins v (k (sample m))) ws
    (λ h. implied (fades v (k y)) (fades v (k (sample m))) S.2.1 h)
    (λ s h. implied (begins v (k y) s) (begins v (k (sample m)) s) (S.2.0 s) h) (firsts e S.0 j) in
    heads_append (is_empty m) (fades v (k (sample m))) (starts m) (begins v (k (sample m))) us ws a b
firsts {v = v} e F (first {p = p} {q = q} {ws = ws} i) =
    heads_more (fades v p) (fades v p || fades v q) (begins v p) (λ s. begins v p s || begins v q s) ws
    (λ h. or_left (fades v p) (fades v q) h) (λ s h. or_left (begins v p s) (begins v q s) h) (firsts e F.0 i)
firsts {v = v} e F (second {p = p} {q = q} {ws = ws} i) =
    heads_more (fades v q) (fades v p || fades v q) (begins v q) (λ s. begins v p s || begins v q s) ws
    (λ h. or_right (fades v p) (fades v q) h) (λ s h. or_right (begins v p s) (begins v q s) h) (firsts e F.1 i)
firsts {v = v} e F (one_number {q = q} w h n i) = or_left (is_number w.sign) (begins v q w.sign) h
firsts {v = v} e F (no_number {q = q} {ws = ws} i) =
    heads_more (fades v q) (fades v q) (begins v q) (λ s. is_number s || begins v q s) ws (λ h. h) (λ s h. or_right (is_number s) (begins v q s) h) (firsts e F.1 i)
firsts {v = v} e F (in_level {t = t} {q = q} w h i j) = or_left (t w.sign) (begins v q w.sign) h
firsts {v = v} e F (no_level {t = t} {q = q} {ws = ws} i) =
    heads_more (fades v q) (fades v q) (begins v q) (λ s. t s || begins v q s) ws (λ h. h) (λ s h. or_right (t s) (begins v q s) h) (firsts e F.1 i)

apart_begins : (a b f e : Bool) → apart a b f e ≡ true → b ≡ true → a ≡ false
apart_begins false b f e h k = refl
apart_begins true true f e h k = sym h
apart_begins true false f e h k = cc

apart_ends : (a b f e : Bool) → apart a b f e ≡ true → f ≡ true → e ≡ false → a ≡ false
apart_ends false b f e h k l = refl
apart_ends true true f e h k l = sym h
apart_ends true false true e h k l = cc
apart_ends true false false e h k l = cc

-- what doesn't go on behind both doesn't go on behind the one
skips_behind : (a b e : Sign → Bool) (f : Bool) → ((s : Sign) → apart (a s) (b s) f (e s) ≡ true) → (ws more : List Word) → Heads f b ws → Skips e more → Skips a (ws ++ more)
skips_behind a b e f h [] [] i s = tt
skips_behind a b e f h [] (w ∷ more) i s = apart_ends (a w.sign) (b w.sign) f (e w.sign) (h w.sign) i s
skips_behind a b e f h (w ∷ ws) more i s = apart_begins (a w.sign) (b w.sign) f (e w.sign) (h w.sign) i

starts_with : (f : Bool) (b t : Sign → Bool) → f ≡ false → ((s : Sign) → b s ≡ true → t s ≡ true) → (ws more : List Word) → Heads f b ws → Starts t (ws ++ more)
starts_with f b t n h [] more i = cc
starts_with f b t n h (w ∷ ws) more i = h w.sign i

and_first : (a b : Bool) → (a && b) ≡ true → a ≡ true
and_first true b h = refl
and_first false b h = h

and_second : (a b : Bool) → (a && b) ≡ true → b ≡ true
and_second true b h = h
and_second false b h = cc

pub reads : {f : Limit} {d : ℕ} {v : Nonterminal} {p : Production v} {ws : List Word} {x : Tree v} (e : Sign → Bool) → Fits v p e → Derives f d v p ws x
    → (more : List Word) → Skips e more → Reads f d v p (ws ++ more) (Ok (x, more))
reads e F nothing = λ more s. read_nothing
reads e F (one_word w h i) = λ more s. read_word h (reads e (F w) i more s)
reads {f = f} {d = d} {v = v} {x = x} e F (two_parts {m = m} {k = k} {us = us} {ws = ws} {y = y} i j) = λ more s.
    let S = F y in
    subst (λ l. Reads f d v (part m k) l (Ok (x, more))) (sym (append_assoc us ws more))
    (read_parts (reads (eats m) (fitting m) i (ws ++ more) (skips_behind (eats m) (begins v (k y)) e (fades v (k y)) S.1 ws more (firsts e S.0 j) s)) (reads e S.0 j more s))
reads {v = v} e F (first {t = t} {p = p} {q = q} {ws = ws} i) = λ more s.
    read_first (starts_with (fades v p) (begins v p) t F.2 (λ s h.
    implied (begins v p s) (t s) (and_first (implies (begins v p s) (t s)) (apart (t s) (begins v q s) (fades v q) (e s)) (F.3 s)) h) ws more
    (firsts e F.0 i)) (reads e F.0 i more s)
reads {v = v} e F (second {t = t} {p = p} {q = q} {ws = ws} i) = λ more s.
    read_second (skips_behind t (begins v q) e (fades v q) (λ s.
    and_second (implies (begins v p s) (t s)) (apart (t s) (begins v q s) (fades v q) (e s)) (F.3 s)) ws more (firsts e F.1 i) s) (reads e F.1 i more s)
reads e F (one_number w h n i) = λ more s. read_number h n (reads e (F.0 w) i more s)
reads {v = v} e F (no_number {q = q} {ws = ws} i) = λ more s.
    read_no_number (skips_behind is_number (begins v q) e (fades v q) F.2 ws more (firsts e F.1 i) s) (reads e F.1 i more s)
reads {f = f} {v = v} {x = x} e F (in_level {d = d} {m = m} {t = t} {k = k} {q = q} {us = us} {ws = ws} {y = y} w h i j) = λ more s.
    let S = F.0 w y in
    subst (λ l. Reads f (suc d) v (nested t m k q) (w ∷ l) (Ok (x, more))) (sym (append_assoc us ws more))
    (read_level h (reads (eats m) (fitting m) i (ws ++ more) (skips_behind (eats m) (begins v (k w y)) e (fades v (k w y)) S.1 ws more (firsts e S.0 j) s)) (reads e S.0 j more s))
reads {v = v} e F (no_level {t = t} {q = q} {ws = ws} i) = λ more s.
    read_no_level (skips_behind t (begins v q) e (fades v q) F.2 ws more (firsts e F.1 i) s) (reads e F.1 i more s)

-- all the words of a tree are read
pub reads_all : {f : Limit} {d : ℕ} {v : Nonterminal} {ws : List Word} {x : Tree v} → Derives f d v (production v) ws x → Reads f d v (production v) ws (Ok (x, []))
reads_all {f = f} {d = d} {v = v} {ws = ws} {x = x} i = subst (λ l. Reads f d v (production v) l (Ok (x, []))) (append-nil ws) (reads (eats v) (fitting v) i [] tt)
