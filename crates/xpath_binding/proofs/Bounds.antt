-- The equations of what trees are bound to.
use Rattle.std.proofs.Common.{◌≡◌, refl, ap, ◌∙◌, ℕ, suc, ℤ, List, [], ◌∷◌, map, option_map, length, Option, Some, None, Result, Ok}
use Rattle.xpath_syntax.specs.declared.expression.Op.{Op}
use Rattle.xpath_syntax.specs.declared.expression.NameRef.{NameRef}
use Rattle.xpath_syntax.specs.declared.expression.Expr.{Expr, out-Expr}
use Rattle.xpath_syntax.specs.declared.expression.Expr.TheVariants as e
use Rattle.xpath_syntax.specs.declared.expression.Expr.TheVariants.{outs-Binary, outs-Minus, outs-Literal, outs-Number, outs-Variable, outs-Call, outs-Path, outs-Filter}
use Rattle.xpath_syntax.specs.declared.expression.Expr.TheOpen.{Expr-F}
use Rattle.xpath_syntax.specs.declared.expression.Expr.TheFolds.{map-Expr, fold_out-Expr, fold_out-Path, fold_out-StepExpr}
use Rattle.xpath_syntax.specs.declared.expression.Path.{Path, out-Path, roll-Path}
use Rattle.xpath_syntax.specs.declared.expression.StepExpr.{StepExpr, out-StepExpr, roll-StepExpr}
use Rattle.xpath_binding.specs.declared.error.BindError.{BindError}
use Rattle.xpath_binding.specs.Names.{◌>>=◌}
use Rattle.xpath_binding.specs.Scope.{Scope, bound_variable}
use Rattle.xpath_binding.specs.Binding.{Bound, in_order, trees, first_text, text_of_layer, first_literal, call_binds, bound_tail}
use Rattle.xpath_binding.specs.Binding.{binds, path_binds, step_binds, bound_test, bound_part, bound_path, bound_step, bound, bound_call}

abbrev Paths : Type 0
Paths = Result Path BindError

abbrev Steps : Type 0
Steps = Result StepExpr BindError

by_layer : (S : Scope) (x : Expr) (y : Expr-F Expr Path StepExpr) → out-Expr x ≡ y
    → bound_part S x ≡ binds S (map-Expr Expr Path StepExpr Bound Paths Steps (bound_part S) (bound_path S) (bound_step S) y)
unfolding bound_part bound_path bound_step
by_layer S x y is = fold_out-Expr Bound Paths Steps (binds S) path_binds (step_binds S) x
    ∙ ap (λ z. binds S (map-Expr Expr Path StepExpr Bound Paths Steps (bound_part S) (bound_path S) (bound_step S) z)) is

by_tree : (S : Scope) (x : Expr) (y : Expr-F Expr Path StepExpr) → out-Expr x ≡ y
    → bound S x ≡ (binds S (map-Expr Expr Path StepExpr Bound Paths Steps (bound_part S) (bound_path S) (bound_step S) y)).tree
by_tree S x y is = ap (λ (part : Bound). part.tree) (by_layer S x y is)

trees_map : (S : Scope) (xs : List Expr) → trees (map (bound_part S) xs) ≡ map (bound S) xs
trees_map S [] = refl
trees_map S (x ∷ xs) = ap (λ ys. bound S x ∷ ys) (trees_map S xs)

length_map : {A B : Type 0} (f : A → B) (xs : List A) → length (map f xs) ≡ length xs
length_map f [] = refl
length_map f (x ∷ xs) = ap suc (length_map f xs)

text_of_map : (S : Scope) (y : Expr-F Expr Path StepExpr)
    → text_of_layer (map-Expr Expr Path StepExpr Bound Paths Steps (bound_part S) (bound_path S) (bound_step S) y) ≡ text_of_layer y
text_of_map S (Expr-F.Binary op left right) = refl
text_of_map S (Expr-F.Minus inner) = refl
text_of_map S (Expr-F.Literal text) = refl
text_of_map S (Expr-F.Number whole) = refl
text_of_map S (Expr-F.Variable name) = refl
text_of_map S (Expr-F.Call name args) = refl
text_of_map S (Expr-F.Path path) = refl
text_of_map S (Expr-F.Filter primary predicates None) = refl
text_of_map S (Expr-F.Filter primary predicates (Some tail)) = refl

first_map : (S : Scope) (xs : List Expr) → first_text (map (bound_part S) xs) ≡ first_literal xs
first_map S [] = refl
first_map S (x ∷ xs) = ap (λ (part : Bound). part.text) (by_layer S x (out-Expr x) refl) ∙ text_of_map S (out-Expr x)

pub bound-Binary : (S : Scope) (op : Op) (x y : Expr) → bound S (e.Binary op x y) ≡ (bound S x >>= λ a. bound S y >>= λ b. Ok (e.Binary op a b))
bound-Binary S op x y = by_tree S _ _ (outs-Binary op x y)

pub bound-Minus : (S : Scope) (x : Expr) → bound S (e.Minus x) ≡ (bound S x >>= λ a. Ok (e.Minus a))
bound-Minus S x = by_tree S _ _ (outs-Minus x)

pub bound-Literal : (S : Scope) (t : List ℕ) → bound S (e.Literal t) ≡ Ok (e.Literal t)
bound-Literal S t = by_tree S _ _ (outs-Literal t)

pub bound-Number : (S : Scope) (z : ℤ) → bound S (e.Number z) ≡ Ok (e.Number z)
bound-Number S z = by_tree S _ _ (outs-Number z)

pub bound-Variable : (S : Scope) (n : NameRef) → bound S (e.Variable n) ≡ (bound_variable S n >>= λ b. Ok (e.Variable b))
bound-Variable S n = by_tree S _ _ (outs-Variable n)

pub bound-Call : (S : Scope) (n : NameRef) (xs : List Expr) → bound S (e.Call n xs) ≡ bound_call S n xs
bound-Call S n xs = by_tree S _ _ (outs-Call n xs)
    ∙ (ap (λ k. call_binds S n k (first_text (map (bound_part S) xs)) (in_order (trees (map (bound_part S) xs)))) (length_map (bound_part S) xs)
    ∙ (ap (λ t. call_binds S n (length xs) t (in_order (trees (map (bound_part S) xs)))) (first_map S xs)
    ∙ ap (λ ys. call_binds S n (length xs) (first_literal xs) (in_order ys)) (trees_map S xs)))

pub bound-Path : (S : Scope) (p : Path) → bound S (e.Path p) ≡ (bound_path S p >>= λ b. Ok (e.Path b))
bound-Path S p = by_tree S _ _ (outs-Path p)

abbrev filtered : Scope → Expr → List (Result Expr BindError) → Option Path → Result Expr BindError
filtered S a ps tail = bound S a >>= λ x. in_order ps >>= λ qs. bound_tail (option_map (bound_path S) tail) >>= λ path. Ok (e.Filter x qs path)

pub bound-Filter : (S : Scope) (a : Expr) (ps : List Expr) (tail : Option Path) → bound S (e.Filter a ps tail)
    ≡ (bound S a >>= λ x. in_order (map (bound S) ps) >>= λ qs. bound_tail (option_map (bound_path S) tail) >>= λ path. Ok (e.Filter x qs path))
bound-Filter S a ps None = by_tree S _ _ (outs-Filter a ps None) ∙ ap (λ ys. filtered S a ys None) (trees_map S ps)
bound-Filter S a ps (Some path) = by_tree S _ _ (outs-Filter a ps (Some path)) ∙ ap (λ ys. filtered S a ys (Some path)) (trees_map S ps)

pub bound_path_is : (S : Scope) (p : Path) → bound_path S p
    ≡ (in_order (map (bound_step S) (out-Path p).parts) >>= λ parts. Ok (roll-Path (record { absolute = (out-Path p).absolute; parts = parts; streams = (out-Path p).streams })))
unfolding bound_part bound_path bound_step
bound_path_is S p = fold_out-Path Bound Paths Steps (binds S) path_binds (step_binds S) p

pub bound_step_is : (S : Scope) (s : StepExpr) → bound_step S s
    ≡ (bound_test S.uris (out-StepExpr s).axis (out-StepExpr s).test >>= λ t. in_order (map (bound S) (out-StepExpr s).predicates) >>= λ ps.
    Ok (roll-StepExpr (record { axis = (out-StepExpr s).axis; test = t; predicates = ps })))
unfolding bound_part bound_path bound_step
bound_step_is S s = fold_out-StepExpr Bound Paths Steps (binds S) path_binds (step_binds S) s
    ∙ ap (λ ys. bound_test S.uris (out-StepExpr s).axis (out-StepExpr s).test >>= λ t. in_order ys >>= λ ps.
    Ok (roll-StepExpr (record { axis = (out-StepExpr s).axis; test = t; predicates = ps }))) (trees_map S (out-StepExpr s).predicates)
