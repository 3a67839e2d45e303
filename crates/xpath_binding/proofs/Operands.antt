-- What an operand, a path and a step answer, by what their parts answer.
use Rattle.std.proofs.Common.{◌≡◌, sym, ap, ◌∙◌, subst, List, map, option_map, Option, Result, Ok, Err}
use Rattle.xpath_syntax.specs.declared.expression.Expr.{Expr}
use Rattle.xpath_syntax.specs.declared.expression.Expr.TheVariants as e
use Rattle.xpath_syntax.specs.declared.expression.Op.{Op}
use Rattle.xpath_syntax.specs.declared.expression.Path.{Path}
use Rattle.xpath_binding.specs.declared.error.BindError.{BindError}
use Rattle.xpath_binding.specs.Names.{◌>>=◌, Answers}
use Rattle.xpath_binding.specs.Scope.{Scope}
use Rattle.xpath_binding.specs.Binding.{in_order, bound, bound_path, bound_tail}
use Rattle.xpath_binding.proofs.Answered.{stops, also}
use Rattle.xpath_binding.proofs.Bounds.{bound-Binary, bound-Minus, bound-Filter}

moved : (S : Scope) (y a : Expr) (r : Result Expr BindError) → y ≡ a → Answers (bound S y) r → Answers (bound S a) r
moved S y a r same h = subst (λ z. Answers (bound S z) r) same h

abbrev joined : Op → Expr → Result Expr BindError → Result Expr BindError
joined op x m = m >>= λ y. Ok (e.Binary op x y)

pub left_stops : (S : Scope) (x y a b : Expr) (op : Op) (err : BindError) → x ≡ e.Binary op a b → y ≡ a → Answers (bound S y) (Err err) → Answers (bound S x) (Err err)
left_stops S x y a b op err is same h = also (bound S x) (bound S a >>= λ z. joined op z (bound S b)) (Err err) (ap (bound S) is ∙ bound-Binary S op a b)
    (stops (bound S a) (λ z. joined op z (bound S b)) err (moved S y a (Err err) same h))

pub binary_answers : (S : Scope) (x y z a b l : Expr) (op : Op) (r : Result Expr BindError) → x ≡ e.Binary op a b → y ≡ a → z ≡ b → bound S y ≡ Ok l
    → Answers (joined op l (bound S z)) r → Answers (bound S x) r
binary_answers S x y z a b l op r is same also_same h rest = also (bound S x) (joined op l (bound S z)) r
    (ap (bound S) is ∙ (bound-Binary S op a b
    ∙ (ap (λ m. m >>= λ w. joined op w (bound S b)) (ap (bound S) (sym same) ∙ h) ∙ ap (λ w. joined op l (bound S w)) (sym also_same)))) rest

pub right_stops : (S : Scope) (x y z a b l : Expr) (op : Op) (err : BindError) → x ≡ e.Binary op a b → y ≡ a → z ≡ b → bound S y ≡ Ok l
    → Answers (bound S z) (Err err) → Answers (bound S x) (Err err)
right_stops S x y z a b l op err is same also_same h rest =
    binary_answers S x y z a b l op (Err err) is same also_same h (stops (bound S z) (λ w. Ok (e.Binary op l w)) err rest)

pub both_bound : (S : Scope) (x y z a b l r left right : Expr) (op : Op) → x ≡ e.Binary op a b → y ≡ a → z ≡ b → bound S y ≡ Ok l → bound S z ≡ Ok r
    → left ≡ l → right ≡ r → bound S x ≡ Ok (e.Binary op left right)
both_bound S x y z a b l r left right op is same also_same h k first second =
    binary_answers S x y z a b l op (Ok (e.Binary op left right)) is same also_same h
    (ap (joined op l) k ∙ (ap (λ w. Ok (e.Binary op w r)) (sym first) ∙ ap (λ w. Ok (e.Binary op left w)) (sym second)))

pub minus_stops : (S : Scope) (x y a : Expr) (err : BindError) → x ≡ e.Minus a → y ≡ a → Answers (bound S y) (Err err) → Answers (bound S x) (Err err)
minus_stops S x y a err is same h = also (bound S x) (bound S a >>= λ b. Ok (e.Minus b)) (Err err) (ap (bound S) is ∙ bound-Minus S a)
    (stops (bound S a) (λ b. Ok (e.Minus b)) err (moved S y a (Err err) same h))

pub minus_bound : (S : Scope) (x y a b inner : Expr) → x ≡ e.Minus a → y ≡ a → bound S y ≡ Ok b → inner ≡ b → bound S x ≡ Ok (e.Minus inner)
minus_bound S x y a b inner is same h last = ap (bound S) is ∙ (bound-Minus S a ∙ (ap (λ m. m >>= λ z. Ok (e.Minus z)) (ap (bound S) (sym same) ∙ h)
    ∙ ap (λ z. Ok (e.Minus z)) (sym last)))

-- a primary, its predicates and its tail, in their order
abbrev pub with_tail : Expr → List Expr → Result (Option Path) BindError → Result Expr BindError
with_tail a ps tail = tail >>= λ path. Ok (e.Filter a ps path)

abbrev pub with_predicates : Expr → Result (List Expr) BindError → Result (Option Path) BindError → Result Expr BindError
with_predicates a ps tail = ps >>= λ qs. with_tail a qs tail

pub filter_stops : (S : Scope) (x y a : Expr) (ps : List Expr) (tail : Option Path) (err : BindError) → x ≡ e.Filter a ps tail → y ≡ a
    → Answers (bound S y) (Err err) → Answers (bound S x) (Err err)
filter_stops S x y a ps tail err is same h =
    also (bound S x) (bound S a >>= λ z. with_predicates z (in_order (map (bound S) ps)) (bound_tail (option_map (bound_path S) tail))) (Err err)
    (ap (bound S) is ∙ bound-Filter S a ps tail)
    (stops (bound S a) (λ z. with_predicates z (in_order (map (bound S) ps)) (bound_tail (option_map (bound_path S) tail))) err (moved S y a (Err err) same h))

primary_bound : (S : Scope) (x y a b : Expr) (ps : List Expr) (tail : Option Path) → x ≡ e.Filter a ps tail → y ≡ a → bound S y ≡ Ok b
    → bound S x ≡ with_predicates b (in_order (map (bound S) ps)) (bound_tail (option_map (bound_path S) tail))
primary_bound S x y a b ps tail is same h = ap (bound S) is ∙ (bound-Filter S a ps tail
    ∙ ap (λ m. m >>= λ z. with_predicates z (in_order (map (bound S) ps)) (bound_tail (option_map (bound_path S) tail))) (ap (bound S) (sym same) ∙ h))

pub predicates_stop : (S : Scope) (x y a b : Expr) (ps : List Expr) (tail : Option Path) (err : BindError) → x ≡ e.Filter a ps tail → y ≡ a → bound S y ≡ Ok b
    → Answers (in_order (map (bound S) ps)) (Err err) → Answers (bound S x) (Err err)
predicates_stop S x y a b ps tail err is same h rest =
    also (bound S x) (with_predicates b (in_order (map (bound S) ps)) (bound_tail (option_map (bound_path S) tail))) (Err err) (primary_bound S x y a b ps tail is same h)
    (stops (in_order (map (bound S) ps)) (λ qs. with_tail b qs (bound_tail (option_map (bound_path S) tail))) err rest)

predicates_bound : (S : Scope) (x y a b : Expr) (ps qs : List Expr) (tail : Option Path) → x ≡ e.Filter a ps tail → y ≡ a → bound S y ≡ Ok b
    → in_order (map (bound S) ps) ≡ Ok qs → bound S x ≡ with_tail b qs (bound_tail (option_map (bound_path S) tail))
predicates_bound S x y a b ps qs tail is same h k = primary_bound S x y a b ps tail is same h
    ∙ ap (λ m. with_predicates b m (bound_tail (option_map (bound_path S) tail))) k

pub tail_stops : (S : Scope) (x y a b : Expr) (ps qs : List Expr) (tail : Option Path) (err : BindError) → x ≡ e.Filter a ps tail → y ≡ a → bound S y ≡ Ok b
    → in_order (map (bound S) ps) ≡ Ok qs → Answers (bound_tail (option_map (bound_path S) tail)) (Err err) → Answers (bound S x) (Err err)
tail_stops S x y a b ps qs tail err is same h k rest =
    also (bound S x) (with_tail b qs (bound_tail (option_map (bound_path S) tail))) (Err err) (predicates_bound S x y a b ps qs tail is same h k)
    (stops (bound_tail (option_map (bound_path S) tail)) (λ path. Ok (e.Filter b qs path)) err rest)

pub filter_bound : (S : Scope) (x y a b primary : Expr) (ps qs : List Expr) (tail path : Option Path) → x ≡ e.Filter a ps tail → y ≡ a → bound S y ≡ Ok b
    → in_order (map (bound S) ps) ≡ Ok qs → bound_tail (option_map (bound_path S) tail) ≡ Ok path → primary ≡ b → bound S x ≡ Ok (e.Filter primary qs path)
filter_bound S x y a b primary ps qs tail path is same h k last first = predicates_bound S x y a b ps qs tail is same h k
    ∙ (ap (with_tail b qs) last ∙ ap (λ z. Ok (e.Filter z qs path)) (sym first))
