-- The equations of which calls a tree has.
use Rattle.std.proofs.Common.{◌≡◌, refl, sym, ap, ◌∙◌, ℕ, zero, suc, ◌<◌, ◌≤◌, length, take, get_or, arith, ℤ, List, [], ◌∷◌, map, Bool, true, false, Option, Some, None}
use Rattle.std.specs.Prelude.{◌||◌, codes}
use Rattle.std.specs.List.{list_any}
use Rattle.xpath_syntax.specs.declared.expression.Op.{Op}
use Rattle.xpath_syntax.specs.declared.expression.NameRef.{NameRef}
use Rattle.xpath_syntax.specs.declared.expression.Expr.{Expr, out-Expr}
use Rattle.xpath_syntax.specs.declared.expression.Expr.TheFolds.{map-Expr, fold-Path, fold-StepExpr, fold_out-Expr, fold_out-Path, fold_out-StepExpr}
use Rattle.xpath_syntax.specs.declared.expression.Expr.TheOpen.{Expr-F}
use Rattle.xpath_syntax.specs.declared.expression.Expr.TheVariants as e
use Rattle.xpath_syntax.specs.declared.expression.Expr.TheVariants.{outs-Binary, outs-Minus, outs-Literal, outs-Number, outs-Variable, outs-Call, outs-Path, outs-Filter}
use Rattle.xpath_syntax.specs.declared.expression.Path.{Path, out-Path}
use Rattle.xpath_syntax.specs.declared.expression.StepExpr.{StepExpr, out-StepExpr}
use Rattle.xpath_chains.specs.Mentions.{any, is_function, has_call, path_has, step_has, mentions, path_mentions, step_mentions, tail_mentions}
use Rattle.xpath_chains.specs.Mentions.{has_last_outside, last_outside}

by_layer : (w : List ℕ) (x : Expr) (y : Expr-F Expr Path StepExpr) → out-Expr x ≡ y
    → mentions w x ≡ has_call w (map-Expr Expr Path StepExpr Bool Bool Bool (mentions w) (path_mentions w) (step_mentions w) y)
unfolding mentions path_mentions step_mentions
by_layer w x y is = fold_out-Expr Bool Bool Bool (has_call w) path_has step_has x
    ∙ ap (λ z. has_call w (map-Expr Expr Path StepExpr Bool Bool Bool (mentions w) (path_mentions w) (step_mentions w) z)) is

-- where neither of two holds, neither of the first and another holds that doesn't where the second doesn't
either_false : (a b : Bool) → (a || b) ≡ false → (c : Bool) → (b ≡ false → false ≡ c) → false ≡ (a || c)
either_false true b h c then = sym h
either_false false b h c then = then h

pub mentions-Binary : (w : List ℕ) (op : Op) (a b : Expr) → mentions w (e.Binary op a b) ≡ (mentions w a || mentions w b)
mentions-Binary w op a b = by_layer w _ _ (outs-Binary op a b)

pub mentions-Minus : (w : List ℕ) (a : Expr) → mentions w (e.Minus a) ≡ mentions w a
mentions-Minus w a = by_layer w _ _ (outs-Minus a)

pub mentions-Literal : (w text : List ℕ) → mentions w (e.Literal text) ≡ false
mentions-Literal w text = by_layer w _ _ (outs-Literal text)

pub mentions-Number : (w : List ℕ) (z : ℤ) → mentions w (e.Number z) ≡ false
mentions-Number w z = by_layer w _ _ (outs-Number z)

pub mentions-Variable : (w : List ℕ) (name : NameRef) → mentions w (e.Variable name) ≡ false
mentions-Variable w name = by_layer w _ _ (outs-Variable name)

pub any_map : {A : Type 0} (f : A → Bool) (xs : List A) → any (map f xs) ≡ list_any f xs
any_map f [] = refl
any_map f (x ∷ xs) = ap (λ b. f x || b) (any_map f xs)

pub or_false : (b : Bool) → (b || false) ≡ b
or_false true = refl
or_false false = refl

pub or_true : (b : Bool) → (b || true) ≡ true
or_true true = refl
or_true false = refl

-- one of the items holds, and none does
pub found_at : {A : Type 0} (f : A → Bool) (xs : List A) (i : ℕ) (x : A) → i < length xs → x ≡ get_or xs i x → true ≡ f x → true ≡ list_any f xs
found_at f [] i x within is holds = absurd (omega (arith, within))
found_at f (y ∷ ys) zero x within is holds = ap (λ b. b || list_any f ys) (holds ∙ ap f is)
found_at f (y ∷ ys) (suc i) x within is holds = sym (or_true (f y)) ∙ ap (λ b. f y || b) (found_at f ys i x (omega (arith, within)) is holds)

pub none_left : {A : Type 0} (f : A → Bool) (xs : List A) (i : ℕ) → list_any f (take i xs) ≡ false → length xs ≤ i → false ≡ list_any f xs
none_left f [] i none past = refl
none_left f (y ∷ ys) zero none past = absurd (omega (arith, past))
none_left f (y ∷ ys) (suc i) none past = either_false (f y) (list_any f (take i ys)) none (list_any f ys) (λ rest. none_left f ys i rest (omega (arith, past)))

pub mentions-Call : (w : List ℕ) (name : NameRef) (args : List Expr) → mentions w (e.Call name args) ≡ (is_function w name || list_any (mentions w) args)
mentions-Call w name args = by_layer w _ _ (outs-Call name args) ∙ ap (λ b. is_function w name || b) (any_map (mentions w) args)

pub mentions-Path : (w : List ℕ) (path : Path) → mentions w (e.Path path) ≡ path_mentions w path
mentions-Path w path = by_layer w _ _ (outs-Path path)

pub mentions-Filter : (w : List ℕ) (a : Expr) (ps : List Expr) (tail : Option Path)
    → mentions w (e.Filter a ps tail) ≡ (mentions w a || (list_any (mentions w) ps || tail_mentions w tail))
mentions-Filter w a ps None = by_layer w _ _ (outs-Filter a ps None) ∙ ap (λ b. mentions w a || b) (any_map (mentions w) ps ∙ sym (or_false _))
mentions-Filter w a ps (Some path) = by_layer w _ _ (outs-Filter a ps (Some path)) ∙ ap (λ b. mentions w a || (b || path_mentions w path)) (any_map (mentions w) ps)

pub path_mentions_is : (w : List ℕ) (path : Path) → path_mentions w path ≡ list_any (step_mentions w) (out-Path path).parts
unfolding mentions path_mentions step_mentions
path_mentions_is w path = fold_out-Path Bool Bool Bool (has_call w) path_has step_has path ∙ any_map (step_mentions w) (out-Path path).parts

pub step_mentions_is : (w : List ℕ) (s : StepExpr) → step_mentions w s ≡ list_any (mentions w) (out-StepExpr s).predicates
unfolding mentions path_mentions step_mentions
step_mentions_is w s = fold_out-StepExpr Bool Bool Bool (has_call w) path_has step_has s ∙ any_map (mentions w) (out-StepExpr s).predicates

outside_layer : (x : Expr) (y : Expr-F Expr Path StepExpr) → out-Expr x ≡ y
    → last_outside x ≡ has_last_outside (map-Expr Expr Path StepExpr Bool Bool Bool last_outside
    (fold-Path Bool Bool Bool has_last_outside (λ path. false) (λ step. false)) (fold-StepExpr Bool Bool Bool has_last_outside (λ path. false) (λ step. false)) y)
unfolding last_outside
outside_layer x y is = fold_out-Expr Bool Bool Bool has_last_outside (λ path. false) (λ step. false) x
    ∙ ap (λ z. has_last_outside (map-Expr Expr Path StepExpr Bool Bool Bool last_outside
    (fold-Path Bool Bool Bool has_last_outside (λ path. false) (λ step. false)) (fold-StepExpr Bool Bool Bool has_last_outside (λ path. false) (λ step. false)) z)) is

pub outside-Binary : (op : Op) (a b : Expr) → last_outside (e.Binary op a b) ≡ (last_outside a || last_outside b)
outside-Binary op a b = outside_layer _ _ (outs-Binary op a b)

pub outside-Minus : (a : Expr) → last_outside (e.Minus a) ≡ last_outside a
outside-Minus a = outside_layer _ _ (outs-Minus a)

pub outside-Literal : (text : List ℕ) → last_outside (e.Literal text) ≡ false
outside-Literal text = outside_layer _ _ (outs-Literal text)

pub outside-Number : (z : ℤ) → last_outside (e.Number z) ≡ false
outside-Number z = outside_layer _ _ (outs-Number z)

pub outside-Variable : (name : NameRef) → last_outside (e.Variable name) ≡ false
outside-Variable name = outside_layer _ _ (outs-Variable name)

pub outside-Path : (path : Path) → last_outside (e.Path path) ≡ false
outside-Path path = outside_layer _ _ (outs-Path path)

pub outside-Call : (name : NameRef) (args : List Expr) → last_outside (e.Call name args) ≡ (is_function (codes "last") name || list_any last_outside args)
outside-Call name args = outside_layer _ _ (outs-Call name args) ∙ ap (λ b. is_function (codes "last") name || b) (any_map last_outside args)

pub outside-Filter : (a : Expr) (ps : List Expr) (tail : Option Path) → last_outside (e.Filter a ps tail) ≡ last_outside a
outside-Filter a ps tail = outside_layer _ _ (outs-Filter a ps tail)
