-- What a tree has by what its parts have, at a tree that is known by an equation.
use Rattle.std.proofs.Common.{◌≡◌, sym, ap, ◌∙◌, ℕ, ℤ, List, Bool, true, false, Option, ◌⊎◌, inl, inr}
use Rattle.std.specs.Prelude.{◌||◌, codes}
use Rattle.std.specs.List.{list_any}
use Rattle.xpath_syntax.specs.declared.expression.Op.{Op}
use Rattle.xpath_syntax.specs.declared.expression.NameRef.{NameRef}
use Rattle.xpath_syntax.specs.declared.expression.Expr.{Expr}
use Rattle.xpath_syntax.specs.declared.expression.Expr.TheVariants as e
use Rattle.xpath_syntax.specs.declared.expression.Path.{Path}
use Rattle.xpath_chains.specs.Mentions.{is_function, mentions, path_mentions, tail_mentions, last_outside}
use Rattle.xpath_chains.proofs.Equations.{or_false, or_true, mentions-Binary, mentions-Minus, mentions-Literal, mentions-Number, mentions-Variable}
use Rattle.xpath_chains.proofs.Equations.{mentions-Call, mentions-Path, mentions-Filter}
use Rattle.xpath_chains.proofs.Equations.{outside-Binary, outside-Minus, outside-Call, outside-Filter, outside-Literal, outside-Number, outside-Variable, outside-Path}

pub right_holds : (w : List ℕ) (x y a b r : Expr) (op : Op) → x ≡ e.Binary op a b → mentions w x ≡ mentions w y → r ≡ b → true ≡ mentions w r → true ≡ mentions w y
right_holds w x y a b r op is left same holds =
    sym (or_true (mentions w a)) ∙ ap (λ t. mentions w a || t) (holds ∙ ap (mentions w) same) ∙ sym (ap (mentions w) is ∙ mentions-Binary w op a b) ∙ left

pub left_decides : (w : List ℕ) (x y a b r l : Expr) (op : Op) → x ≡ e.Binary op a b → mentions w x ≡ mentions w y → r ≡ b → false ≡ mentions w r → l ≡ a
    → mentions w l ≡ mentions w y
left_decides w x y a b r l op is left same fails next =
    ap (mentions w) next ∙ sym (or_false (mentions w a)) ∙ ap (λ t. mentions w a || t) (fails ∙ ap (mentions w) same)
    ∙ sym (ap (mentions w) is ∙ mentions-Binary w op a b) ∙ left

pub minus_decides : (w : List ℕ) (x y a l : Expr) → x ≡ e.Minus a → mentions w x ≡ mentions w y → l ≡ a → mentions w l ≡ mentions w y
minus_decides w x y a l is left next = ap (mentions w) next ∙ sym (ap (mentions w) is ∙ mentions-Minus w a) ∙ left

pub name_holds : (w : List ℕ) (x y : Expr) (name : NameRef) (args : List Expr) (r : Bool) → x ≡ e.Call name args → mentions w x ≡ mentions w y
    → r ≡ is_function w name → r ≡ true → r ≡ mentions w y
name_holds w x y name args r is left same holds =
    holds ∙ ap (λ t. t || list_any (mentions w) args) (sym holds ∙ same) ∙ sym (ap (mentions w) is ∙ mentions-Call w name args) ∙ left

pub arguments_decide : (w : List ℕ) (x y : Expr) (name : NameRef) (args : List Expr) (r : Bool) → x ≡ e.Call name args → mentions w x ≡ mentions w y
    → is_function w name ≡ false → r ≡ list_any (mentions w) args → r ≡ mentions w y
arguments_decide w x y name args r is left other same =
    same ∙ ap (λ t. t || list_any (mentions w) args) (sym other) ∙ sym (ap (mentions w) is ∙ mentions-Call w name args) ∙ left

pub path_decides : (w : List ℕ) (x y : Expr) (path : Path) (r : Bool) → x ≡ e.Path path → mentions w x ≡ mentions w y → r ≡ path_mentions w path → r ≡ mentions w y
path_decides w x y path r is left same = same ∙ sym (ap (mentions w) is ∙ mentions-Path w path) ∙ left

pub predicate_holds : (w : List ℕ) (x y a : Expr) (ps : List Expr) (tail : Option Path) → x ≡ e.Filter a ps tail → mentions w x ≡ mentions w y
    → list_any (mentions w) ps ≡ true → true ≡ mentions w y
predicate_holds w x y a ps tail is left holds =
    sym (or_true (mentions w a)) ∙ ap (λ t. mentions w a || (t || tail_mentions w tail)) (sym holds) ∙ sym (ap (mentions w) is ∙ mentions-Filter w a ps tail) ∙ left

pub tail_holds : (w : List ℕ) (x y a : Expr) (ps : List Expr) (tail : Option Path) → x ≡ e.Filter a ps tail → mentions w x ≡ mentions w y
    → tail_mentions w tail ≡ true → true ≡ mentions w y
tail_holds w x y a ps tail is left holds =
    sym (or_true (mentions w a)) ∙ ap (λ t. mentions w a || t) (sym (or_true (list_any (mentions w) ps)) ∙ ap (λ t. list_any (mentions w) ps || t) (sym holds))
    ∙ sym (ap (mentions w) is ∙ mentions-Filter w a ps tail) ∙ left

pub primary_decides : (w : List ℕ) (x y a l : Expr) (ps : List Expr) (tail : Option Path) → x ≡ e.Filter a ps tail → mentions w x ≡ mentions w y
    → list_any (mentions w) ps ≡ false → tail_mentions w tail ≡ false → l ≡ a → mentions w l ≡ mentions w y
primary_decides w x y a l ps tail is left none nothing next =
    ap (mentions w) next ∙ sym (or_false (mentions w a)) ∙ ap (λ t. mentions w a || t) (sym nothing ∙ ap (λ t. t || tail_mentions w tail) (sym none))
    ∙ sym (ap (mentions w) is ∙ mentions-Filter w a ps tail) ∙ left

pub leaf_has_none : (w : List ℕ) (x y : Expr) → mentions w x ≡ mentions w y
    → ((t : List ℕ) × (x ≡ e.Literal t)) ⊎ (((z : ℤ) × (x ≡ e.Number z)) ⊎ ((n : NameRef) × (x ≡ e.Variable n))) → false ≡ mentions w y
leaf_has_none w x y left (inl h) = sym (ap (mentions w) h.1 ∙ mentions-Literal w h.0) ∙ left
leaf_has_none w x y left (inr (inl h)) = sym (ap (mentions w) h.1 ∙ mentions-Number w h.0) ∙ left
leaf_has_none w x y left (inr (inr h)) = sym (ap (mentions w) h.1 ∙ mentions-Variable w h.0) ∙ left

-- the same of last() outside predicates
pub right_uses : (x y a b r : Expr) (op : Op) → x ≡ e.Binary op a b → last_outside x ≡ last_outside y → r ≡ b → true ≡ last_outside r → true ≡ last_outside y
right_uses x y a b r op is left same holds =
    sym (or_true (last_outside a)) ∙ ap (λ t. last_outside a || t) (holds ∙ ap last_outside same) ∙ sym (ap last_outside is ∙ outside-Binary op a b) ∙ left

pub left_uses : (x y a b r l : Expr) (op : Op) → x ≡ e.Binary op a b → last_outside x ≡ last_outside y → r ≡ b → false ≡ last_outside r → l ≡ a
    → last_outside l ≡ last_outside y
left_uses x y a b r l op is left same fails next =
    ap last_outside next ∙ sym (or_false (last_outside a)) ∙ ap (λ t. last_outside a || t) (fails ∙ ap last_outside same)
    ∙ sym (ap last_outside is ∙ outside-Binary op a b) ∙ left

pub minus_uses : (x y a l : Expr) → x ≡ e.Minus a → last_outside x ≡ last_outside y → l ≡ a → last_outside l ≡ last_outside y
minus_uses x y a l is left next = ap last_outside next ∙ sym (ap last_outside is ∙ outside-Minus a) ∙ left

pub filter_uses : (x y a l : Expr) (ps : List Expr) (tail : Option Path) → x ≡ e.Filter a ps tail → last_outside x ≡ last_outside y → l ≡ a → last_outside l ≡ last_outside y
filter_uses x y a l ps tail is left next = ap last_outside next ∙ sym (ap last_outside is ∙ outside-Filter a ps tail) ∙ left

pub name_uses : (x y : Expr) (name : NameRef) (args : List Expr) (r : Bool) → x ≡ e.Call name args → last_outside x ≡ last_outside y
    → r ≡ is_function (codes "last") name → r ≡ true → r ≡ last_outside y
name_uses x y name args r is left same holds =
    holds ∙ ap (λ t. t || list_any last_outside args) (sym holds ∙ same) ∙ sym (ap last_outside is ∙ outside-Call name args) ∙ left

pub arguments_use : (x y : Expr) (name : NameRef) (args : List Expr) (r : Bool) → x ≡ e.Call name args → last_outside x ≡ last_outside y
    → is_function (codes "last") name ≡ false → r ≡ list_any last_outside args → r ≡ last_outside y
arguments_use x y name args r is left other same =
    same ∙ ap (λ t. t || list_any last_outside args) (sym other) ∙ sym (ap last_outside is ∙ outside-Call name args) ∙ left

pub leaf_uses_none : (x y : Expr) → last_outside x ≡ last_outside y
    → ((t : List ℕ) × (x ≡ e.Literal t)) ⊎ (((z : ℤ) × (x ≡ e.Number z)) ⊎ (((n : NameRef) × (x ≡ e.Variable n)) ⊎ ((p : Path) × (x ≡ e.Path p))))
    → false ≡ last_outside y
leaf_uses_none x y left (inl h) = sym (ap last_outside h.1 ∙ outside-Literal h.0) ∙ left
leaf_uses_none x y left (inr (inl h)) = sym (ap last_outside h.1 ∙ outside-Number h.0) ∙ left
leaf_uses_none x y left (inr (inr (inl h))) = sym (ap last_outside h.1 ∙ outside-Variable h.0) ∙ left
leaf_uses_none x y left (inr (inr (inr h))) = sym (ap last_outside h.1 ∙ outside-Path h.0) ∙ left
