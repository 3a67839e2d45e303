-- The equations of marks.
use Rattle.std.proofs.Common.{◌≡◌, sym, ap, ◌∙◌, ℕ, ℤ, List, map, Bool, Option, Some, None}
use Rattle.std.specs.Prelude.{◌&&◌}
use Rattle.xpath_syntax.specs.declared.expression.Op.{Op}
use Rattle.xpath_syntax.specs.declared.expression.NameRef.{NameRef}
use Rattle.xpath_syntax.specs.declared.expression.Expr.{Expr, out-Expr}
use Rattle.xpath_syntax.specs.declared.expression.Expr.TheVariants as e
use Rattle.xpath_syntax.specs.declared.expression.Expr.TheVariants.{outs-Binary, outs-Minus, outs-Literal, outs-Number, outs-Variable, outs-Call, outs-Path, outs-Filter}
use Rattle.xpath_syntax.specs.declared.expression.Expr.TheVariants.{rolls-Binary, rolls-Minus, rolls-Literal, rolls-Number, rolls-Variable, rolls-Call, rolls-Path, rolls-Filter}
use Rattle.xpath_syntax.specs.declared.expression.Expr.TheOpen.{Expr-F}
use Rattle.xpath_syntax.specs.declared.expression.Expr.TheFolds.{map-Expr, fold_out-Expr, fold_out-Path, fold_out-StepExpr}
use Rattle.xpath_syntax.specs.declared.expression.Path.{Path, out-Path, roll-Path}
use Rattle.xpath_syntax.specs.declared.expression.StepExpr.{StepExpr, roll-StepExpr}
use Rattle.xpath_binding.specs.Marks.{marked, marked_path, marked_step, marked_tail, mark_expr, mark_path, may_stream}

by_layer : (b : Bool) (x : Expr) (y : Expr-F Expr Path StepExpr) → out-Expr x ≡ y
    → marked b x ≡ mark_expr (map-Expr Expr Path StepExpr Expr Path StepExpr (marked b) (marked_path b) (marked_step b) y)
unfolding marked marked_path marked_step
by_layer b x y is = fold_out-Expr Expr Path StepExpr mark_expr (mark_path b) roll-StepExpr x
    ∙ ap (λ z. mark_expr (map-Expr Expr Path StepExpr Expr Path StepExpr (marked b) (marked_path b) (marked_step b) z)) is

pub marked-Binary : (b : Bool) (op : Op) (x y : Expr) → marked b (e.Binary op x y) ≡ e.Binary op (marked b x) (marked b y)
marked-Binary b op x y = by_layer b _ _ (outs-Binary op x y) ∙ rolls-Binary op (marked b x) (marked b y)

pub marked-Minus : (b : Bool) (a : Expr) → marked b (e.Minus a) ≡ e.Minus (marked b a)
marked-Minus b a = by_layer b _ _ (outs-Minus a) ∙ rolls-Minus (marked b a)

pub marked-Literal : (b : Bool) (t : List ℕ) → marked b (e.Literal t) ≡ e.Literal t
marked-Literal b t = by_layer b _ _ (outs-Literal t) ∙ rolls-Literal t

pub marked-Number : (b : Bool) (z : ℤ) → marked b (e.Number z) ≡ e.Number z
marked-Number b z = by_layer b _ _ (outs-Number z) ∙ rolls-Number z

pub marked-Variable : (b : Bool) (n : NameRef) → marked b (e.Variable n) ≡ e.Variable n
marked-Variable b n = by_layer b _ _ (outs-Variable n) ∙ rolls-Variable n

pub marked-Call : (b : Bool) (n : NameRef) (xs : List Expr) → marked b (e.Call n xs) ≡ e.Call n (map (marked b) xs)
marked-Call b n xs = by_layer b _ _ (outs-Call n xs) ∙ rolls-Call n (map (marked b) xs)

pub marked-Path : (b : Bool) (p : Path) → marked b (e.Path p) ≡ e.Path (marked_path b p)
marked-Path b p = by_layer b _ _ (outs-Path p) ∙ rolls-Path (marked_path b p)

pub marked-Filter : (b : Bool) (a : Expr) (ps : List Expr) (tail : Option Path) → marked b (e.Filter a ps tail) ≡ e.Filter (marked b a) (map (marked b) ps) (marked_tail b tail)
marked-Filter b a ps None = by_layer b _ _ (outs-Filter a ps None) ∙ rolls-Filter (marked b a) (map (marked b) ps) None
marked-Filter b a ps (Some path) = by_layer b _ _ (outs-Filter a ps (Some path))

pub marked_step_is : (b : Bool) (s : StepExpr) → marked_step b s ≡ roll-StepExpr (record { axis = s.axis; test = s.test; predicates = map (marked b) s.predicates })
unfolding marked marked_path marked_step
marked_step_is b s = fold_out-StepExpr Expr Path StepExpr mark_expr (mark_path b) roll-StepExpr s

pub marked_path_is : (b : Bool) (p : Path) → marked_path b p ≡ roll-Path (record {
  absolute = (out-Path p).absolute;
  parts = map (marked_step b) (out-Path p).parts;
  streams = b && may_stream (map (marked_step b) (out-Path p).parts);
})
unfolding marked marked_path marked_step
marked_path_is b p = fold_out-Path Expr Path StepExpr mark_expr (mark_path b) roll-StepExpr p

pub path_marked : (b : Bool) (p : Path) (parts : List StepExpr) (streams : Bool) → parts ≡ map (marked_step b) (out-Path p).parts → streams ≡ (b && may_stream parts)
    → roll-Path (record { absolute = (out-Path p).absolute; parts = parts; streams = streams }) ≡ marked_path b p
path_marked b p parts streams same is =
    ap (λ s. roll-Path (record { absolute = (out-Path p).absolute; parts = parts; streams = s })) is
    ∙ (ap (λ xs. roll-Path (record { absolute = (out-Path p).absolute; parts = xs; streams = b && may_stream xs })) same ∙ sym (marked_path_is b p))
