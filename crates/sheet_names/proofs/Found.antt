-- What a tree has by what its parts have, at a tree that is known by an equation.
use Rattle.std.proofs.Common.{◌≡◌, sym, ap, ◌∙◌, subst, ℕ, ◌<◌, ◌≤◌, ℤ, List, length, take, get_or, Bool, true, false, Option, Result}
use Rattle.std.specs.Prelude.{◌||◌, IfOk}
use Rattle.std.specs.List.{list_any}
use Rattle.std.proofs.Math.Bool.{or-false, or-true}
use Rattle.std.proofs.lemmas.List.{take_all}
use Rattle.std.proofs.lemmas.List.Folds.{list_any_at}
use Rattle.xpath_syntax.specs.declared.expression.Op.{Op}
use Rattle.xpath_syntax.specs.declared.expression.NameRef.{NameRef}
use Rattle.xpath_syntax.specs.declared.expression.Expr.{Expr}
use Rattle.xpath_syntax.specs.declared.expression.Expr.TheVariants as e
use Rattle.xpath_syntax.specs.declared.expression.Path.{Path}
use Rattle.sheet_names.specs.Searching.{Search, has, path_has, call_has, behind_has, tail_has}
use Rattle.sheet_names.proofs.Equations.{has-Binary, has-Minus, has-Literal, has-Number, has-Variable, has-Call, has-Path, has-Filter}

-- an answer that is another one's
pub told : {E : Type 0} (r : Result Bool E) (a b : Bool) → a ≡ b → IfOk r (λ found. found ≡ a) → IfOk r (λ found. found ≡ b)
told r a b is h = subst (λ c. IfOk r (λ found. found ≡ c)) is h

-- one of two holds where the second does, and what the first does where the second doesn't
pub second_holds : (a b : Bool) → true ≡ b → true ≡ (a || b)
second_holds a b h = sym (or-true a) ∙ ap (λ t. a || t) h

pub second_fails : (a b : Bool) → false ≡ b → a ≡ (a || b)
second_fails a b h = sym (or-false a) ∙ ap (λ t. a || t) h

pub right_holds : (S : Search) (x y a b r : Expr) (op : Op) → x ≡ e.Binary op a b → has S x ≡ has S y → r ≡ b → true ≡ has S r → true ≡ has S y
right_holds S x y a b r op is left same holds = second_holds (has S a) (has S b) (holds ∙ ap (has S) same) ∙ sym (ap (has S) is ∙ has-Binary S op a b) ∙ left

pub left_decides : (S : Search) (x y a b r l : Expr) (op : Op) → x ≡ e.Binary op a b → has S x ≡ has S y → r ≡ b → false ≡ has S r → l ≡ a → has S l ≡ has S y
left_decides S x y a b r l op is left same fails next =
    ap (has S) next ∙ second_fails (has S a) (has S b) (fails ∙ ap (has S) same) ∙ sym (ap (has S) is ∙ has-Binary S op a b) ∙ left

pub minus_decides : (S : Search) (x y a l : Expr) → x ≡ e.Minus a → has S x ≡ has S y → l ≡ a → has S l ≡ has S y
minus_decides S x y a l is left next = ap (has S) next ∙ sym (ap (has S) is ∙ has-Minus S a) ∙ left

pub literal_fails : (S : Search) (x y : Expr) (text : List ℕ) → x ≡ e.Literal text → has S x ≡ has S y → false ≡ has S y
literal_fails S x y text is left = sym (ap (has S) is ∙ has-Literal S text) ∙ left

pub number_fails : (S : Search) (x y : Expr) (z : ℤ) → x ≡ e.Number z → has S x ≡ has S y → false ≡ has S y
number_fails S x y z is left = sym (ap (has S) is ∙ has-Number S z) ∙ left

pub variable_decides : {E : Type 0} (S : Search) (x y : Expr) (name : NameRef) (r : Result Bool E) → x ≡ e.Variable name → has S x ≡ has S y
    → IfOk r (λ found. found ≡ S.variable name) → IfOk r (λ found. found ≡ has S y)
variable_decides S x y name r is left h = told r (S.variable name) (has S y) (sym (ap (has S) is ∙ has-Variable S name) ∙ left) h

pub call_decides : {E : Type 0} (S : Search) (x y : Expr) (name : NameRef) (args : List Expr) (r : Result Bool E) → x ≡ e.Call name args → has S x ≡ has S y
    → IfOk r (λ found. found ≡ call_has S name args) → IfOk r (λ found. found ≡ has S y)
call_decides S x y name args r is left h = told r (call_has S name args) (has S y) (sym (ap (has S) is ∙ has-Call S name args) ∙ left) h

pub path_decides : {E : Type 0} (S : Search) (x y : Expr) (path : Path) (r : Result Bool E) → x ≡ e.Path path → has S x ≡ has S y
    → IfOk r (λ found. found ≡ path_has S path) → IfOk r (λ found. found ≡ has S y)
path_decides S x y path r is left h = told r (path_has S path) (has S y) (sym (ap (has S) is ∙ has-Path S path) ∙ left) h

behind_holds : (S : Search) (x y a : Expr) (ps : List Expr) (tail : Option Path) → x ≡ e.Filter a ps tail → has S x ≡ has S y
    → true ≡ behind_has S ps tail → true ≡ has S y
behind_holds S x y a ps tail is left h = second_holds (has S a) (behind_has S ps tail) h ∙ sym (ap (has S) is ∙ has-Filter S a ps tail) ∙ left

primary_decides : (S : Search) (x y a l : Expr) (ps : List Expr) (tail : Option Path) → x ≡ e.Filter a ps tail → has S x ≡ has S y
    → false ≡ behind_has S ps tail → l ≡ a → has S l ≡ has S y
primary_decides S x y a l ps tail is left fails next =
    ap (has S) next ∙ second_fails (has S a) (behind_has S ps tail) fails ∙ sym (ap (has S) is ∙ has-Filter S a ps tail) ∙ left

-- the predicates of a primary, the path behind it, or the primary itself
pub predicates_hold : (S : Search) (x y a : Expr) (ps : List Expr) (tail : Option Path) → x ≡ e.Filter a ps tail → has S x ≡ has S y → true ≡ list_any (has S) ps → true ≡ has S y
predicates_hold S x y a ps tail is left h = behind_holds S x y a ps tail is left (ap (λ b. b || tail_has S tail) h)

pub tail_holds : (S : Search) (x y a : Expr) (ps : List Expr) (tail : Option Path) → x ≡ e.Filter a ps tail → has S x ≡ has S y → true ≡ tail_has S tail → true ≡ has S y
tail_holds S x y a ps tail is left h = behind_holds S x y a ps tail is left (second_holds (list_any (has S) ps) (tail_has S tail) h)

pub primary_alone : (S : Search) (x y a l : Expr) (ps : List Expr) (tail : Option Path) → x ≡ e.Filter a ps tail → has S x ≡ has S y
    → false ≡ list_any (has S) ps → false ≡ tail_has S tail → l ≡ a → has S l ≡ has S y
primary_alone S x y a l ps tail is left h k next = primary_decides S x y a l ps tail is left (h ∙ second_fails (list_any (has S) ps) (tail_has S tail) k) next

-- one of the items holds, and none does
pub found_at : {A : Type 0} (f : A → Bool) (xs : List A) (i : ℕ) (x : A) → i < length xs → x ≡ get_or xs i x → true ≡ f x → true ≡ list_any f xs
found_at f xs i x within is holds = sym (list_any_at f xs i x within (sym (holds ∙ ap f is)))

pub none_left : {A : Type 0} (f : A → Bool) (xs : List A) (i : ℕ) → list_any f (take i xs) ≡ false → length xs ≤ i → false ≡ list_any f xs
none_left f xs i none past = sym none ∙ ap (list_any f) (take_all i xs past)
