-- Operators from one precedence to a weaker one behind a left operand: the grammar reads those of one precedence after
-- those of another, the loop reads each as it comes.
use Rattle.std.proofs.Common.{◌≡◌, refl, sym, subst, ap, ◌∙◌, ℕ, zero, suc, ◌+◌, ◌-◌, ◌≤◌, ◌<◌, List, Ok, Err, true, false, arith}
use Rattle.std.proofs.lemmas.Bool.Decides.{nat_tests}
use Rattle.std.proofs.lemmas.Bool.{false≢true}
use Rattle.xpath_syntax.specs.declared.expression.Expr.{Expr}
use Rattle.xpath_syntax.specs.declared.expression.Expr.TheVariants as expr
use Rattle.xpath_syntax.specs.declared.expression.Op.{Op}
use Rattle.xpath_grammar.specs.declared.sign.Precedence.{Precedence}
use Rattle.xpath_grammar.specs.declared.sign.Precedence.TheVariants as precedence
use Rattle.xpath_grammar.specs.declared.sign.Sign.{Sign}
use Rattle.xpath_grammar.specs.declared.sign.Sign.TheVariants as sign
use Rattle.xpath_grammar.specs.declared.sign.Cause.{Cause}
use Rattle.xpath_grammar.specs.Words as words
use Rattle.xpath_grammar.specs.Words.{whole_numbers}
use Rattle.xpath_grammar.specs.Signs.{place, tighter, is_operator}
use Rattle.xpath_grammar.specs.Productions as rule
use Rattle.xpath_grammar.specs.Grammar.{production}
use Rattle.xpath_grammar.specs.Reading.{Skips, Reads}
use Rattle.xpath_words.specs.Seen.{Read, ReadsSo, IsOperator, NoOperator, Within}
use Rattle.xpath_trees.proofs.ByGrammar.{grouped, grouped_goes, grouped_fails, more_goes, more_fails, more_ends}

-- what reading the operators from q to p behind a left operand answers
pub data Climbs (d : ℕ) (q : Precedence) : Precedence → Expr → List words.Word → Read Expr → Type 0 where
  tightest : {left : Expr} {ws : List words.Word} {a : Read Expr} → ReadsSo d (rule.more q left) ws a → Climbs d q q left ws a
  weaker : {p : Precedence} {left x : Expr} {ws rest : List words.Word} {a : Read Expr} → place q < place p → Climbs d q (tighter p) left ws (Ok (x, rest))
      → ReadsSo d (rule.more p x) rest a → Climbs d q p left ws a
  fails : {p : Precedence} {left : Expr} {ws : List words.Word} {r : Cause × List words.Word} → place q < place p → Climbs d q (tighter p) left ws (Err r) → Climbs d q p left ws (Err r)

-- a precedence and its place
abbrev at_place : ℕ → Precedence
at_place zero = precedence.Path
at_place (suc zero) = precedence.Union
at_place (suc (suc zero)) = precedence.Unary
at_place (suc (suc (suc zero))) = precedence.Multiplicative
at_place (suc (suc (suc (suc zero)))) = precedence.Additive
at_place (suc (suc (suc (suc (suc zero))))) = precedence.Relational
at_place (suc (suc (suc (suc (suc (suc zero)))))) = precedence.Equality
at_place (suc (suc (suc (suc (suc (suc (suc zero))))))) = precedence.And
at_place (suc (suc (suc (suc (suc (suc (suc (suc n)))))))) = precedence.Or

at_its_place : (p : Precedence) → at_place (place p) ≡ p
at_its_place precedence.Path = refl
at_its_place precedence.Union = refl
at_its_place precedence.Unary = refl
at_its_place precedence.Multiplicative = refl
at_its_place precedence.Additive = refl
at_its_place precedence.Relational = refl
at_its_place precedence.Equality = refl
at_its_place precedence.And = refl
at_its_place precedence.Or = refl

pub same_place : (p q : Precedence) → place p ≡ place q → p ≡ q
same_place p q e = sym (at_its_place p) ∙ ap at_place e ∙ at_its_place q

pub tighter_place : (p : Precedence) → 0 < place p → place p ≡ suc (place (tighter p))
tighter_place precedence.Path l = absurd (omega (arith, l))
tighter_place precedence.Union l = refl
tighter_place precedence.Unary l = refl
tighter_place precedence.Multiplicative l = refl
tighter_place precedence.Additive l = refl
tighter_place precedence.Relational l = refl
tighter_place precedence.Equality l = refl
tighter_place precedence.And l = refl
tighter_place precedence.Or l = refl

-- a precedence weaker than that of the unary minus
is_grouped : (p : Precedence) → place precedence.Unary < place p → production (rule.level p) ≡ grouped p
is_grouped precedence.Path l = absurd (omega (arith, l))
is_grouped precedence.Union l = refl
is_grouped precedence.Unary l = absurd (omega (arith, l))
is_grouped precedence.Multiplicative l = refl
is_grouped precedence.Additive l = refl
is_grouped precedence.Relational l = refl
is_grouped precedence.Equality l = refl
is_grouped precedence.And l = refl
is_grouped precedence.Or l = refl

by_groups : (d : ℕ) (p : Precedence) (ws : List words.Word) (a : Read Expr) → place precedence.Unary < place p → Reads whole_numbers d (rule.level p) (grouped p) ws a → ReadsSo d (rule.level p) ws a
by_groups d p ws a l h = subst (λ x. Reads whole_numbers d (rule.level p) x ws a) (sym (is_grouped p l)) h

-- a left operand and the operators behind it are an expression
pub whole : {d : ℕ} {q p : Precedence} {ws rest : List words.Word} {left : Expr} {a : Read Expr} → place precedence.Unary < place q
    → ReadsSo d (rule.level (tighter q)) ws (Ok (left, rest)) → Climbs d q p left rest a → ReadsSo d (rule.level p) ws a
whole {d} {q} {p} {ws} {rest} {left} {a} l h (tightest m) = by_groups d q ws a l (grouped_goes d q ws rest left h a m)
whole {d} {q} {p} {ws} {rest} {left} {a} l h (weaker {x = x} {rest = behind} k c m) = by_groups d p ws a (omega (arith, l, k)) (grouped_goes d p ws behind x (whole l h c) a m)
whole {d} {q} {p} {ws} l h (fails {r = r} k c) = by_groups d p ws (Err r) (omega (arith, l, k)) (grouped_fails d p ws r (whole l h c))

-- a left operand that is refused
refused_so : (n d : ℕ) (p : Precedence) (ws : List words.Word) (r : Cause × List words.Word) → place p ≡ place precedence.Unary + n
    → ReadsSo d (rule.level precedence.Unary) ws (Err r) → ReadsSo d (rule.level p) ws (Err r)
refused_so zero d p ws r e h = subst (λ p. ReadsSo d (rule.level p) ws (Err r)) (same_place precedence.Unary p (omega (arith, e))) h
refused_so (suc n) d p ws r e h =
    let t = tighter_place p (omega (arith, e)) in by_groups d p ws (Err r) (omega (arith, e)) (grouped_fails d p ws r (refused_so n d (tighter p) ws r (omega (arith, e, t)) h))

pub left_fails : (d : ℕ) (p : Precedence) (ws : List words.Word) (r : Cause × List words.Word) → place precedence.Unary < place p
    → ReadsSo d (rule.level precedence.Unary) ws (Err r) → ReadsSo d (rule.level p) ws (Err r)
left_fails d p ws r l h = refused_so (place p - place precedence.Unary) d p ws r (omega (arith, l)) h

-- no operator comes
ends_so : (n d : ℕ) (q p : Precedence) (left : Expr) (ws : List words.Word) → place p ≡ place q + n → NoOperator q p ws → Climbs d q p left ws (Ok (left, ws))
ends_so zero d q p left ws e s =
    subst (λ p. Climbs d q p left ws (Ok (left, ws))) (same_place q p (omega (arith, e))) (tightest (more_ends d q left ws (s q (omega arith, omega (arith, e)))))
ends_so (suc n) d q p left ws e s =
    let t = tighter_place p (omega (arith, e)) in
    weaker (omega (arith, e)) (ends_so n d q (tighter p) left ws (omega (arith, e, t)) (λ r w. s r (w.0, omega (arith, w.1, t)))) (more_ends d p left ws (s p (omega (arith, e), omega arith)))

pub ends : (d : ℕ) (q p : Precedence) (left : Expr) (ws : List words.Word) → place q ≤ place p → NoOperator q p ws → Climbs d q p left ws (Ok (left, ws))
ends d q p left ws l s = ends_so (place p - place q) d q p left ws (omega (arith, l)) s

-- an operator comes: tighter ones end at once
other : (s : Sign) (p r : Precedence) → place p < place r → is_operator r s ≡ true → is_operator p s ≡ false
other (sign.Operator o) p r l h = grind (arith, nat_tests, l, h)
other s p r l h = absurd (false≢true h)

tighter_skips : (p r : Precedence) (ws next : List words.Word) (o : Op) → IsOperator r ws o next → place p < place r → Skips (is_operator p) ws
tighter_skips p r ws next o i l = subst (Skips (is_operator p)) (sym i.comes.is) (other i.at.sign p r l i.comes.passes)

comes_so : (n d : ℕ) (q r : Precedence) (left : Expr) (ws next : List words.Word) (o : Op) (a : Read Expr) → place r ≡ place q + n
    → IsOperator r ws o next → ReadsSo d (rule.more r left) ws a → Climbs d q r left ws a
comes_so zero d q r left ws next o a e i m =
    let s = same_place q r (omega (arith, e)) in
    subst (λ r. Climbs d q r left ws a) s (tightest (subst (λ r. ReadsSo d (rule.more r left) ws a) (sym s) m))
comes_so (suc n) d q r left ws next o a e i m =
    let t = tighter_place r (omega (arith, e)) in
    weaker (omega (arith, e)) (ends_so n d q (tighter r) left ws (omega (arith, e, t)) (λ p w. tighter_skips p r ws next o i (omega (arith, w.1, t)))) m

comes : (d : ℕ) (q r : Precedence) (left : Expr) (ws next : List words.Word) (o : Op) (a : Read Expr) → place q ≤ place r → IsOperator r ws o next
    → ReadsSo d (rule.more r left) ws a → Climbs d q r left ws a
comes d q r left ws next o a l i m = comes_so (place r - place q) d q r left ws next o a (omega (arith, l)) i m

-- with its right operand it is the left operand of what follows
pub goes : {d : ℕ} (q : Precedence) {r p : Precedence} (left right joined : Expr) (ws next behind : List words.Word) (o : Op) {a : Read Expr}
    → place q ≤ place r → IsOperator r ws o next → ReadsSo d (rule.level (tighter r)) next (Ok (right, behind)) → joined ≡ expr.Binary o left right
    → Climbs d r p joined behind a → Climbs d q p left ws a
goes {d} q {r} left right joined ws next behind o {a} l i h e (tightest m) =
    comes d q r left ws next o a l i (more_goes d r left right ws next behind o i h a (subst (λ x. ReadsSo d (rule.more r x) behind a) e m))
goes q left right joined ws next behind o l i h e (weaker k c m) = weaker (omega (arith, l, k)) (goes q left right joined ws next behind o l i h e c) m
goes q left right joined ws next behind o l i h e (fails k c) = fails (omega (arith, l, k)) (goes q left right joined ws next behind o l i h e c)

-- or that is refused
fails_so : (n d : ℕ) (q r p : Precedence) (left : Expr) (ws : List words.Word) (e : Cause × List words.Word) → place p ≡ place r + n → place q ≤ place r
    → Climbs d q r left ws (Err e) → Climbs d q p left ws (Err e)
fails_so zero d q r p left ws e is l c = subst (λ p. Climbs d q p left ws (Err e)) (same_place r p (omega (arith, is))) c
fails_so (suc n) d q r p left ws e is l c =
    let t = tighter_place p (omega (arith, is)) in fails (omega (arith, is, l)) (fails_so n d q r (tighter p) left ws e (omega (arith, is, t)) l c)

pub right_fails : (d : ℕ) (q r p : Precedence) (left : Expr) (ws next : List words.Word) (o : Op) (e : Cause × List words.Word) → place q ≤ place r
    → place r ≤ place p → IsOperator r ws o next → ReadsSo d (rule.level (tighter r)) next (Err e) → Climbs d q p left ws (Err e)
right_fails d q r p left ws next o e l k i h = fails_so (place p - place r) d q r p left ws e (omega (arith, k)) l (comes d q r left ws next o (Err e) l i (more_fails d r left ws next o e i h))

-- an operator of one precedence alone
pub of_one : (p r : Precedence) (ws next : List words.Word) (o : Op) → Within p p r → IsOperator r ws o next → IsOperator p ws o next
of_one p r ws next o w i = subst (λ p. IsOperator p ws o next) (same_place r p (omega (arith, w.0, w.1))) i
