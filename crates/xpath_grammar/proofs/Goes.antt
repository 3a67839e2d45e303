-- What is read is in the grammar, what is refused can be filled up, and only the next word was looked at.
use Rattle.std.proofs.Common.{◌≡◌, refl, sym, ap, ◌∙◌, subst, ℕ, zero, suc, List, [], ◌∷◌, ◌++◌, append_assoc, Some, Ok, Err, Bool, true}
use Rattle.whole_num.specs.declared.number.NumFault.{NumFault}
use Rattle.xpath_grammar.specs.declared.sign.Sign.{Sign}
use Rattle.xpath_grammar.specs.declared.sign.Cause.{Cause}
use Rattle.xpath_grammar.specs.declared.sign.Cause.TheVariants as cause
use Rattle.xpath_grammar.specs.Words.{Word}
use Rattle.xpath_grammar.specs.Signs.{is_number, opens_level}
use Rattle.xpath_grammar.specs.Productions.{Nonterminal, Tree, Production, word, part, either, number, nested}
use Rattle.xpath_grammar.specs.Grammar.{production}
use Rattle.xpath_grammar.specs.Trees.{Limit, Derives, nothing, one_word, two_parts, first, second, one_number, no_number, in_level, no_level}
use Rattle.xpath_grammar.specs.Refusal.{every}
use Rattle.xpath_grammar.specs.Reading.{Answer, Starts, Skips, Reads, read_nothing, read_word, read_wrong, read_parts, read_part_fails, read_first}
use Rattle.xpath_grammar.specs.Reading.{read_second, read_number, read_refused, read_no_number, read_level, read_level_fails, read_too_deep}
use Rattle.xpath_grammar.specs.Reading.{read_no_level}
use Rattle.xpath_grammar.proofs.Wider.{deeper, Lets, widen, Alike, alike_more, same_head, starts_alike, skips_alike, rest_of, put}
use Rattle.xpath_grammar.proofs.Fill.{Full, fill, quick, implied}
use Rattle.xpath_grammar.proofs.Filled.{has, full}

-- under which limits, and with which next words, a tree goes on where a fault is
pub data Allowed (f : Limit) : Cause → List Word → Limit → ℕ → List Word → Type 0 where
  as_is : {c : Cause} {rest : List Word} → Allowed f c rest f zero []
  any_number : {n : NumFault} {w : Word} {rest : List Word} → Allowed f (cause.Literal n) (w ∷ rest) every zero (w ∷ [])
  one_deeper : {w : Word} {rest : List Word} → Allowed f cause.TooDeep (w ∷ rest) f (suc zero) (w ∷ [])

allowed_lets : {f : Limit} {c : Cause} {rest : List Word} {g : Limit} {e : ℕ} {next : List Word} → Allowed f c rest g e next → Lets f g
allowed_lets as_is = λ text h. h
allowed_lets any_number = λ text h. refl
allowed_lets one_deeper = λ text h. h

allowed_none : {f : Limit} {rest : List Word} {g : Limit} {e : ℕ} {next : List Word} → Allowed f cause.Syntax rest g e next → next ≡ []
allowed_none as_is = refl

abbrev pub Completes : Limit → ℕ → (v : Nonterminal) → Production v → List Word → Type 0
Completes f d v p read = (more : List Word) × (x : Tree v) × Derives f d v p (read ++ more) x

-- the words that a cause is about
abbrev pub IsShape : Limit → Cause → List Word → Type 0
IsShape f cause.Syntax rest = Unit {0}
IsShape f (cause.Literal n) (w ∷ rest) = (is_number w.sign ≡ true) × (f w.text ≡ Some n)
IsShape f cause.TooDeep (w ∷ rest) = opens_level w.sign ≡ true
IsShape f c [] = ⊥

abbrev pub FitsAll : Limit → ℕ → (v : Nonterminal) → Production v → List Word → Cause → List Word → Type 0
FitsAll f d v p read c rest = (g : Limit) (e : ℕ) (next : List Word) → Allowed f c rest g e next → Completes g (deeper d e) v p (read ++ next)

abbrev pub FitsOf : Limit → ℕ → (v : Nonterminal) → Production v → List Word → Answer v → Type 0
FitsOf f d v p read (Ok r) = Derives f d v p read r.0
FitsOf f d v p read (Err r) = IsShape f r.0 r.1 × FitsAll f d v p read r.0 r.1

pub record Goes (f : Limit) (d : ℕ) (v : Nonterminal) (p : Production v) (ws : List Word) (a : Answer v) : Type 0 where
  pub read : List Word
  pub is : ws ≡ read ++ rest_of a
  pub fits : FitsOf f d v p read a
  pub again : (rest : List Word) → Alike (rest_of a) rest → Reads f d v p (read ++ rest) (put a rest)

-- a tree by q is one by p behind some words
abbrev Behind : Limit → ℕ → (v : Nonterminal) → Production v → Production v → List Word → Type 0
Behind f d v p q before = (ws : List Word) (x : Tree v) → Derives f d v q ws x → Derives f d v p (before ++ ws) x

fits_behind : (f : Limit) (d : ℕ) (v : Nonterminal) (p q : Production v) (before read : List Word) (a : Answer v) → FitsOf f d v q read a
    → Behind f d v p q before → ((g : Limit) (e : ℕ) → Lets f g → Behind g (deeper d e) v p q before) → FitsOf f d v p (before ++ read) a
fits_behind f d v p q before read (Ok r) h b w = b read r.0 h
fits_behind f d v p q before read (Err r) h b w = (
  h.0,
  λ g e next a. let c = h.1 g e next a in (
    c.0,
    c.1,
    subst (λ ws. Derives g (deeper d e) v p ws c.1) (sym (append_assoc before (read ++ next) c.0)
        ∙ ap (λ l. l ++ c.0) (sym (append_assoc before read next))) (w g e (allowed_lets a) ((read ++ next) ++ c.0) c.1 c.2),
  ),
)

-- what goes by q goes by p behind some words
goes_behind : (f : Limit) (d : ℕ) (v : Nonterminal) (p q : Production v) (before ws all : List Word) (a : Answer v) → (G : Goes f d v q ws a)
    → all ≡ before ++ ws → Behind f d v p q before → ((g : Limit) (e : ℕ) → Lets f g → Behind g (deeper d e) v p q before)
    → ((rest : List Word) → Alike (rest_of a) rest → Reads f d v q (G.read ++ rest) (put a rest)
    → Reads f d v p (before ++ (G.read ++ rest)) (put a rest)) → Goes f d v p all a
goes_behind f d v p q before ws all a G is b w r = record {
  read = before ++ G.read;
  is = is ∙ (ap (λ l. before ++ l) G.is ∙ sym (append_assoc before G.read (rest_of a)));
  fits = fits_behind f d v p q before G.read a G.fits b w;
  again = λ rest l. subst (λ ws. Reads f d v p ws (put a rest)) (sym (append_assoc before G.read rest)) (r rest l (G.again rest l));
}

-- the words that are read and what follows them go on like all the words
goes_alike : (ws read xs ys : List Word) → ws ≡ read ++ xs → Alike xs ys → Alike ws (read ++ ys)
goes_alike ws read xs ys is l = subst (λ ws. Alike ws (read ++ ys)) (sym is) (alike_more read xs ys l)

filled : (v : Nonterminal) (p : Production v) → Full v p → (f : Limit) (d : ℕ) → (ws : List Word) × (x : Tree v) × Derives f d v p ws x
filled v p F f d = fill v p (quick has v p F) f d

word_wrong : (f : Limit) (d : ℕ) (v : Nonterminal) (t : Sign → Bool) (k : Word → Production v) (ws : List Word) → Full v (word t k) → Skips t ws → Goes f d v (word t k) ws (Err (cause.Syntax, ws))
word_wrong f d v t k ws F s = record {
  read = [];
  is = refl;
  fits = (
    tt,
    λ g e next a. let c = filled v (word t k) F g (deeper d e) in
        (c.0, c.1, subst (λ n. Derives g (deeper d e) v (word t k) (n ++ c.0) c.1) (sym (allowed_none a)) c.2),
  );
  again = λ rest l. read_wrong (skips_alike t ws rest l s);
}

refused_allowed : {f : Limit} {n : NumFault} {w : Word} {rest : List Word} {g : Limit} {e : ℕ} {next : List Word} (d : ℕ) (v : Nonterminal) (k : Word
    → Production v) (q : Production v) → Full v (number k q) → is_number w.sign ≡ true → Allowed f (cause.Literal n) (w ∷ rest) g e next
    → Completes g d v (number k q) next
refused_allowed {f = f} d v k q F h as_is = let c = filled v (number k q) F f d in (c.0, c.1, c.2)
refused_allowed {w = w} d v k q F h any_number = let c = filled v (k w) (F.0 w) every d in (c.0, c.1, one_number w h refl c.2)

number_refused : (f : Limit) (d : ℕ) (v : Nonterminal) (k : Word → Production v) (q : Production v) (w : Word) (ws : List Word) (n : NumFault)
    → Full v (number k q) → is_number w.sign ≡ true → f w.text ≡ Some n → Goes f d v (number k q) (w ∷ ws) (Err (cause.Literal n, w ∷ ws))
number_refused f d v k q w ws n F h s = record {
  read = [];
  is = refl;
  fits = ((h, s), λ g e next a. refused_allowed (deeper d e) v k q F h a);
  again = λ rest l. same_head w ws rest l (λ rest. Reads f d v (number k q) rest (Err (cause.Literal n, rest))) (λ ys. read_refused h s);
}

deep_allowed : {f : Limit} {w : Word} {rest : List Word} {g : Limit} {e : ℕ} {next : List Word} (v m : Nonterminal) (t : Sign → Bool) (k : Word → Tree m
    → Production v) (q : Production v) → Full v (nested t m k q) → t w.sign ≡ true → Allowed f cause.TooDeep (w ∷ rest) g e next → Completes g e v (nested t m k q) next
deep_allowed {f = f} v m t k q F h as_is = let c = filled v (nested t m k q) F f zero in (c.0, c.1, c.2)
deep_allowed {f = f} {w = w} v m t k q F h one_deeper =
    let a = has m f zero in let c = filled v (k w a.1) (F.0 w a.1) f (suc zero) in (a.0 ++ c.0, c.1, in_level w h a.2 c.2)

too_deep : (f : Limit) (v m : Nonterminal) (t : Sign → Bool) (k : Word → Tree m → Production v) (q : Production v) (w : Word) (ws : List Word)
    → Full v (nested t m k q) → t w.sign ≡ true → Goes f zero v (nested t m k q) (w ∷ ws) (Err (cause.TooDeep, w ∷ ws))
too_deep f v m t k q w ws F h = record {
  read = [];
  is = refl;
  fits = (implied (t w.sign) (opens_level w.sign) (F.2 w.sign) h, λ g e next a. deep_allowed v m t k q F h a);
  again = λ rest l. same_head w ws rest l (λ rest. Reads f zero v (nested t m k q) rest (Err (cause.TooDeep, rest))) (λ ys. read_too_deep h);
}

part_fails : (f : Limit) (d : ℕ) (v m : Nonterminal) (k : Tree m → Production v) (ws : List Word) (e : Cause × List Word) → Full v (part m k)
    → Goes f d m (production m) ws (Err e) → Goes f d v (part m k) ws (Err e)
part_fails f d v m k ws e F G = record {
  read = G.read;
  is = G.is;
  fits = (
    G.fits.0,
    λ g i next a. let c = G.fits.1 g i next a in let r = filled v (k c.1) (F c.1) g (deeper d i) in
        (c.0 ++ r.0, r.1, subst (λ l. Derives g (deeper d i) v (part m k) l r.1) (append_assoc (G.read ++ next) c.0 r.0) (two_parts c.2 r.2)),
  );
  again = λ rest l. read_part_fails (G.again rest l);
}

level_fails : (f : Limit) (d : ℕ) (v m : Nonterminal) (t : Sign → Bool) (k : Word → Tree m
    → Production v) (q : Production v) (w : Word) (ws : List Word) (e : Cause × List Word) → Full v (nested t m k q) → t w.sign ≡ true
    → Goes f d m (production m) ws (Err e) → Goes f (suc d) v (nested t m k q) (w ∷ ws) (Err e)
level_fails f d v m t k q w ws e F h G = record {
  read = w ∷ G.read;
  is = ap (λ l. w ∷ l) G.is;
  fits = (
    G.fits.0,
    λ g i next a. let c = G.fits.1 g i next a in let r = filled v (k w c.1) (F.0 w c.1) g (suc (deeper d i)) in
        (c.0 ++ r.0, r.1, subst (λ l. Derives g (suc (deeper d i)) v (nested t m k q) (w ∷ l) r.1) (append_assoc (G.read ++ next) c.0 r.0) (in_level w h c.2 r.2)),
  );
  again = λ rest l. read_level_fails h (G.again rest l);
}

both_go : (f : Limit) (d : ℕ) (v m : Nonterminal) (k : Tree m → Production v) (ws : List Word) (y : Tree m) (after : List Word) (a : Answer v)
    → Goes f d m (production m) ws (Ok (y, after)) → Goes f d v (k y) after a → Goes f d v (part m k) ws a
both_go f d v m k ws y after a G H = goes_behind f d v (part m k) (k y) G.read after ws a H G.is
    (λ us x i. two_parts G.fits i) (λ g e l us x i. two_parts (widen g e l G.fits) i)
    (λ rest l r. read_parts (G.again (H.read ++ rest) (goes_alike after H.read (rest_of a) rest H.is l)) r)

level_goes : (f : Limit) (d : ℕ) (v m : Nonterminal) (t : Sign → Bool) (k : Word → Tree m
    → Production v) (q : Production v) (w : Word) (ws : List Word) (y : Tree m) (after : List Word) (a : Answer v) → t w.sign ≡ true
    → Goes f d m (production m) ws (Ok (y, after)) → Goes f (suc d) v (k w y) after a → Goes f (suc d) v (nested t m k q) (w ∷ ws) a
level_goes f d v m t k q w ws y after a h G H = goes_behind f (suc d) v (nested t m k q) (k w y) (w ∷ G.read) after (w ∷ ws) a H (ap (λ l. w ∷ l) G.is)
    (λ us x i. in_level w h G.fits i) (λ g e l us x i. in_level w h (widen g e l G.fits) i)
    (λ rest l r. read_level h (G.again (H.read ++ rest) (goes_alike after H.read (rest_of a) rest H.is l)) r)

starting : (t : Sign → Bool) (ws : List Word) → Starts t ws → (w : Word) × (t w.sign ≡ true)
starting t [] s = absurd s
starting t (w ∷ ws) s = (w, s)

pub goes : {f : Limit} {d : ℕ} {v : Nonterminal} {p : Production v} {ws : List Word} {a : Answer v} → Full v p → Reads f d v p ws a → Goes f d v p ws a
goes F read_nothing = record { read = []; is = refl; fits = nothing; again = λ rest l. read_nothing }
goes {f = f} {d = d} {v = v} {a = a} F (read_word {t = t} {k = k} {w = w} {ws = ws} h r) =
    goes_behind f d v (word t k) (k w) (w ∷ []) ws (w ∷ ws) a (goes (F.1 w) r) refl (λ us x i. one_word w h i) (λ g e l us x i. one_word w h i) (λ rest l r. read_word h r)
goes {f = f} {d = d} {v = v} {ws = ws} F (read_wrong {t = t} {k = k} s) = word_wrong f d v t k ws F s
goes {f = f} {d = d} {v = v} {ws = ws} {a = a} F (read_parts {m = m} {k = k} {y = y} {rest = rest} r s) = both_go f d v m k ws y rest a (goes (full m) r) (goes (F y) s)
goes {f = f} {d = d} {v = v} {ws = ws} F (read_part_fails {m = m} {k = k} {e = e} r) = part_fails f d v m k ws e F (goes (full m) r)
goes {f = f} {d = d} {v = v} {ws = ws} {a = a} F (read_first {t = t} {p = p} {q = q} s r) =
    let w = starting t ws s in let G = goes (F.0 w.0 w.1) r in
    goes_behind f d v (either t p q) p [] ws ws a G refl (λ us x i. first i) (λ g e l us x i. first i)
    (λ rest l r. read_first (starts_alike t ws (G.read ++ rest) (goes_alike ws G.read (rest_of a) rest G.is l) s) r)
goes {f = f} {d = d} {v = v} {ws = ws} {a = a} F (read_second {t = t} {p = p} {q = q} s r) =
    let G = goes F.1 r in
    goes_behind f d v (either t p q) q [] ws ws a G refl (λ us x i. second i) (λ g e l us x i. second i)
    (λ rest l r. read_second (skips_alike t ws (G.read ++ rest) (goes_alike ws G.read (rest_of a) rest G.is l) s) r)
goes {f = f} {d = d} {v = v} {a = a} F (read_number {k = k} {q = q} {w = w} {ws = ws} h n r) =
    goes_behind f d v (number k q) (k w) (w ∷ []) ws (w ∷ ws) a (goes (F.0 w) r) refl (λ us x i. one_number w h n i) (λ g e l us x i. one_number w h (l w.text n) i) (λ rest l r. read_number h n r)
goes {f = f} {d = d} {v = v} F (read_refused {k = k} {q = q} {w = w} {ws = ws} {f = n} h s) = number_refused f d v k q w ws n F h s
goes {f = f} {d = d} {v = v} {ws = ws} {a = a} F (read_no_number {k = k} {q = q} s r) =
    let G = goes F.1 r in
    goes_behind f d v (number k q) q [] ws ws a G refl (λ us x i. no_number i) (λ g e l us x i. no_number i)
    (λ rest l r. read_no_number (skips_alike is_number ws (G.read ++ rest) (goes_alike ws G.read (rest_of a) rest G.is l) s) r)
goes {f = f} {v = v} {a = a} F (read_level {d = d} {m = m} {t = t} {k = k} {q = q} {w = w} {ws = ws} {y = y} {rest = rest} h r s) =
    level_goes f d v m t k q w ws y rest a h (goes (full m) r) (goes (F.0 w y) s)
goes {f = f} {v = v} F (read_level_fails {d = d} {m = m} {t = t} {k = k} {q = q} {w = w} {ws = ws} {e = e} h r) = level_fails f d v m t k q w ws e F h (goes (full m) r)
goes {f = f} {v = v} F (read_too_deep {m = m} {t = t} {k = k} {q = q} {w = w} {ws = ws} h) = too_deep f v m t k q w ws F h
goes {f = f} {d = d} {v = v} {ws = ws} {a = a} F (read_no_level {m = m} {t = t} {k = k} {q = q} s r) =
    let G = goes F.1 r in
    goes_behind f d v (nested t m k q) q [] ws ws a G refl (λ us x i. no_level i) (λ g e l us x i. no_level i)
    (λ rest l r. read_no_level (skips_alike t ws (G.read ++ rest) (goes_alike ws G.read (rest_of a) rest G.is l) s) r)
