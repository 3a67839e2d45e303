-- Reading answers one thing.
use Rattle.std.proofs.Common.{◌≡◌, refl, sym, ap, subst, ℕ, suc, List, [], ◌∷◌, Option, Some, None, Result, Ok, Err, Bool, true, false}
use Rattle.whole_num.specs.declared.number.NumFault.{NumFault}
use Rattle.xpath_grammar.specs.declared.sign.Sign.{Sign}
use Rattle.xpath_grammar.specs.declared.sign.Cause.TheVariants as cause
use Rattle.xpath_grammar.specs.Words.{Word}
use Rattle.xpath_grammar.specs.Signs.{is_number}
use Rattle.xpath_grammar.specs.Productions.{Nonterminal, Production}
use Rattle.xpath_grammar.specs.Trees.{Limit}
use Rattle.xpath_grammar.specs.Reading.{Answer, Starts, Skips, Reads, read_nothing, read_word, read_wrong, read_parts, read_part_fails, read_first}
use Rattle.xpath_grammar.specs.Reading.{read_second, read_number, read_refused, read_no_number, read_level, read_level_fails, read_too_deep}
use Rattle.xpath_grammar.specs.Reading.{read_no_level}

abbrev ok_or : {X E : Type 0} → X → Result X E → X
ok_or x (Ok y) = y
ok_or x (Err e) = x

same_ok : {X E : Type 0} (x y : X) → ◌≡◌ {A = Result X E} (Ok x) (Ok y) → x ≡ y
same_ok x y e = ap (ok_or x) e

abbrev err_or : {X E : Type 0} → E → Result X E → E
err_or e (Ok x) = e
err_or e (Err f) = f

same_err : {X E : Type 0} (e f : E) → ◌≡◌ {A = Result X E} (Err e) (Err f) → e ≡ f
same_err e f h = ap (err_or e) h

ok_no_err : {X E : Type 0} (x : X) (e : E) → ◌≡◌ {A = Result X E} (Ok x) (Err e) → ⊥
ok_no_err x e h = cc

both_tests : (b : Bool) → b ≡ true → b ≡ false → ⊥
both_tests b t f = cc

starts_or_skips : (t : Sign → Bool) (ws : List Word) → Starts t ws → Skips t ws → ⊥
starts_or_skips t [] s k = s
starts_or_skips t (w ∷ ws) s k = both_tests (t w.sign) s k

flaw_or_none : (o : Option NumFault) (f : NumFault) → o ≡ None → o ≡ Some f → ⊥
flaw_or_none o f n s = cc

same_flaw : (o : Option NumFault) (f g : NumFault) → o ≡ Some f → o ≡ Some g → f ≡ g
same_flaw o f g s t = cc

pub same : {f : Limit} {d : ℕ} {v : Nonterminal} {p : Production v} {ws : List Word} {a b : Answer v} → Reads f d v p ws a → Reads f d v p ws b → a ≡ b
same read_nothing read_nothing = refl
same (read_word t r) (read_word t' s) = same r s
same (read_word {t = t} {w = w} h r) (read_wrong k) = absurd (both_tests (t w.sign) h k)
same (read_wrong k) (read_word {t = t} {w = w} h r) = absurd (both_tests (t w.sign) h k)
same (read_wrong k) (read_wrong k') = refl
same {f = f} {d = d} {v = v} {b = b} (read_parts {k = k} {y = y} {rest = rest} r s) (read_parts {y = z} {rest = after} r' s') =
    same s (subst (λ q. Reads f d v (k q.0) q.1 b) (sym (same_ok (y, rest) (z, after) (same r r'))) s')
same (read_parts {y = y} {rest = rest} r s) (read_part_fails {e = e} r') = absurd (ok_no_err (y, rest) e (same r r'))
same (read_part_fails {e = e} r) (read_parts {y = y} {rest = rest} r' s) = absurd (ok_no_err (y, rest) e (sym (same r r')))
same (read_part_fails {e = e} r) (read_part_fails {e = e'} r') = ap Err (same_err e e' (same r r'))
same (read_first s r) (read_first s' r') = same r r'
same {ws = ws} (read_first {t = t} s r) (read_second k r') = absurd (starts_or_skips t ws s k)
same {ws = ws} (read_second {t = t} k r) (read_first s r') = absurd (starts_or_skips t ws s k)
same (read_second s r) (read_second s' r') = same r r'
same (read_number t n r) (read_number t' n' s) = same r s
same {f = f} (read_number {w = w} t n r) (read_refused {f = g} t' s) = absurd (flaw_or_none (f w.text) g n s)
same (read_number {w = w} h n r) (read_no_number k s) = absurd (both_tests (is_number w.sign) h k)
same {f = f} (read_refused {w = w} {f = g} t s) (read_number t' n r) = absurd (flaw_or_none (f w.text) g n s)
same {f = f} (read_refused {w = w} {ws = ws} {f = g} t s) (read_refused {f = h} t' s') = ap (λ g. Err (cause.Literal g, w ∷ ws)) (same_flaw (f w.text) g h s s')
same (read_refused {w = w} h n) (read_no_number k s) = absurd (both_tests (is_number w.sign) h k)
same (read_no_number k r) (read_number {w = w} h n s) = absurd (both_tests (is_number w.sign) h k)
same (read_no_number k r) (read_refused {w = w} h n) = absurd (both_tests (is_number w.sign) h k)
same (read_no_number k r) (read_no_number k' s) = same r s
same {f = f} {v = v} {b = b} (read_level {d = d} {k = k} {w = w} {y = y} {rest = rest} t r s) (read_level {y = z} {rest = after} t' r' s') =
    same s (subst (λ q. Reads f (suc d) v (k w q.0) q.1 b) (sym (same_ok (y, rest) (z, after) (same r r'))) s')
same (read_level {y = y} {rest = rest} t r s) (read_level_fails {e = e} t' r') = absurd (ok_no_err (y, rest) e (same r r'))
same (read_level {t = t} {w = w} h r s) (read_no_level k r') = absurd (both_tests (t w.sign) h k)
same (read_level_fails {e = e} t r) (read_level {y = y} {rest = rest} t' r' s) = absurd (ok_no_err (y, rest) e (sym (same r r')))
same (read_level_fails {e = e} t r) (read_level_fails {e = e'} t' r') = ap Err (same_err e e' (same r r'))
same (read_level_fails {t = t} {w = w} h r) (read_no_level k r') = absurd (both_tests (t w.sign) h k)
same (read_too_deep t) (read_too_deep t') = refl
same (read_too_deep {t = t} {w = w} h) (read_no_level k r') = absurd (both_tests (t w.sign) h k)
same (read_no_level k r) (read_level {t = t} {w = w} h r' s) = absurd (both_tests (t w.sign) h k)
same (read_no_level k r) (read_level_fails {t = t} {w = w} h r') = absurd (both_tests (t w.sign) h k)
same (read_no_level k r) (read_too_deep {t = t} {w = w} h) = absurd (both_tests (t w.sign) h k)
same (read_no_level k r) (read_no_level k' r') = same r r'
