-- What a tree has with its slots, at a tree that is known by an equation.
use Rattle.std.proofs.Common.{◌≡◌, sym, ap, ◌∙◌, subst, ℕ, ℤ, List, map, Option, Result}
use Rattle.std.specs.Prelude.{IfOk}
use Rattle.xpath_syntax.specs.declared.expression.NameRef.{NameRef}
use Rattle.xpath_syntax.specs.declared.expression.Expr.{Expr}
use Rattle.xpath_syntax.specs.declared.expression.Expr.TheVariants as e
use Rattle.xpath_syntax.specs.declared.expression.Path.{Path}
use Rattle.sheet_names.specs.declared.placing.Operand.{Operand}
use Rattle.sheet_names.specs.Joining.{joined}
use Rattle.sheet_names.specs.Names.{Name}
use Rattle.sheet_names.specs.Slots.{placed_name}
use Rattle.sheet_names.specs.Placing.{placed, placed_path, placed_tail}
use Rattle.sheet_names.proofs.Equations.{placed-Minus, placed-Literal, placed-Number, placed-Variable, placed-Call, placed-Path, placed-Filter}

-- the operators over the innermost operand
pub finishes : {E : Type 0} (G L : List Name) (first x y : Expr) (above : List Operand) (r : Result Expr E) → joined (placed G L x) above ≡ placed G L y → first ≡ placed G L x
    → IfOk r (λ whole. whole ≡ joined first above) → IfOk r (λ copy. copy ≡ placed G L y)
finishes G L first x y above r left same h = subst (λ w. IfOk r (λ copy. copy ≡ w)) (ap (λ z. joined z above) same ∙ left) h

pub is_minus : (G L : List Name) (x a s copy inner : Expr) → x ≡ e.Minus a → s ≡ a → copy ≡ placed G L s → inner ≡ copy → e.Minus inner ≡ placed G L x
is_minus G L x a s copy inner is same h box = ap e.Minus (box ∙ h ∙ ap (placed G L) same) ∙ sym (ap (placed G L) is ∙ placed-Minus G L a)

pub is_literal : (G L : List Name) (x : Expr) (text copy : List ℕ) → x ≡ e.Literal text → copy ≡ text → e.Literal copy ≡ placed G L x
is_literal G L x text copy is h = ap e.Literal h ∙ sym (ap (placed G L) is ∙ placed-Literal G L text)

pub is_number : (G L : List Name) (x : Expr) (z : ℤ) → x ≡ e.Number z → e.Number z ≡ placed G L x
is_number G L x z is = sym (ap (placed G L) is ∙ placed-Number G L z)

pub is_variable : (G L : List Name) (x : Expr) (name copy : NameRef) → x ≡ e.Variable name → copy ≡ placed_name G L name → e.Variable copy ≡ placed G L x
is_variable G L x name copy is h = ap e.Variable h ∙ sym (ap (placed G L) is ∙ placed-Variable G L name)

pub is_call : (G L : List Name) (x : Expr) (name copy : NameRef) (args all : List Expr) → x ≡ e.Call name args → copy ≡ name → all ≡ map (placed G L) args
    → e.Call copy all ≡ placed G L x
is_call G L x name copy args all is h k = ap (λ n. e.Call n all) h ∙ ap (e.Call name) k ∙ sym (ap (placed G L) is ∙ placed-Call G L name args)

pub is_path : (G L : List Name) (x : Expr) (path copy : Path) → x ≡ e.Path path → copy ≡ placed_path G L path → e.Path copy ≡ placed G L x
is_path G L x path copy is h = ap e.Path h ∙ sym (ap (placed G L) is ∙ placed-Path G L path)

pub is_filter : (G L : List Name) (x a s copy primary : Expr) (ps qs : List Expr) (tail last : Option Path) → x ≡ e.Filter a ps tail → s ≡ a → copy ≡ placed G L s → primary ≡ copy
    → qs ≡ map (placed G L) ps → last ≡ placed_tail G L tail → e.Filter primary qs last ≡ placed G L x
is_filter G L x a s copy primary ps qs tail last is same h box k m =
    ap (λ z. e.Filter z qs last) (box ∙ h ∙ ap (placed G L) same) ∙ ap (λ z. e.Filter (placed G L a) z last) k ∙ ap (e.Filter (placed G L a) (map (placed G L) ps)) m
    ∙ sym (ap (placed G L) is ∙ placed-Filter G L a ps tail)
