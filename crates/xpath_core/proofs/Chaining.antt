-- A chain of operators: its innermost operation, and each operator on the value so far.
use Rattle.std.proofs.Common.{◌≡◌, refl, sym, ap, ◌∙◌, ℕ, suc, ◌+◌, ◌<◌, ◌≤◌, List, [], ◌∷◌, length, get_or, drop, ◌++◌, append_assoc, append-nil, map}
use Rattle.doc_model.specs.Answers.{Known, Fault, Open}
use Rattle.xpath_binding.specs.declared.functions.Function.{Function}
use Rattle.xpath_calls.specs.Taking.{argument, arguments, kind_at}
use Rattle.xpath_chains.specs.Chains.{chained}
use Rattle.xpath_chains.specs.declared.chain.Applied.{Applied}
use Rattle.xpath_laws.proofs.Equations.{binary_means}
use Rattle.xpath_meaning.specs.declared.context.Context.{Context}
use Rattle.xpath_meaning.specs.Evaluation.{meant}
use Rattle.xpath_meaning.specs.Meanings.{Meaning, Meant, plain}
use Rattle.xpath_meaning.specs.Operators.{binary}
use Rattle.xpath_meaning.specs.Outcome.{Outcome, ◌>>=◌}
use Rattle.xpath_meaning.specs.Reading.{Reading}
use Rattle.xpath_nodes.proofs.Turning.{rest_of, no_rest, then_then}
use Rattle.xpath_operations.proofs.Operating.{binary_is, plain_operand}
use Rattle.xpath_operations.specs.Operands.{applied, kind_of, operand_by}
use Rattle.xpath_operations.specs.declared.operand.Operand.{Operand}
use Rattle.xpath_syntax.specs.declared.expression.Expr.{Expr}
use Rattle.xpath_syntax.specs.declared.expression.Expr.TheVariants as expr
use Rattle.xpath_syntax.specs.declared.expression.Op.{Op}
use Rattle.xpath_values.specs.declared.value.Value.{Value}

-- an operator on a value
abbrev pub on_value : Op → Value → Expr → Meaning (Outcome Value)
on_value op v right = binary op (plain (λ R values c. Known v)) (meant right)

-- what operators make of a value, one after the other
abbrev pub going : List Applied → Value → Meaning (Outcome Value)
going [] v R values c = Known v
going (x ∷ xs) v R values c = on_value x.op v x.right.now R values c >>= λ w. going xs w R values c

-- an operator on a value: the value as an operand, and then the operator with the right one
pub on_value_is : (op : Op) (v : Value) (right : Expr) (R : Reading) (values : List Value) (c : Context)
    → on_value op v right R values c ≡ (operand_by (kind_of op) R v >>= λ x. applied op x (meant right) R values c)
on_value_is op v right R values c =
    binary_is op (plain (λ R values c. Known v)) (meant right) R values c ∙ ap (λ o. o >>= λ x. applied op x (meant right) R values c) (plain_operand op (λ R values c. Known v) R values c)

-- an operation on what is plain: its value, and then the operator on it
plain_left : (op : Op) (f : Meaning (Outcome Value)) (right : Expr) (R : Reading) (values : List Value) (c : Context)
    → binary op (plain f) (meant right) R values c ≡ (f R values c >>= λ v. on_value op v right R values c)
plain_left op f right R values c =
    binary_is op (plain f) (meant right) R values c
    ∙ ap (λ o. o >>= λ x. applied op x (meant right) R values c) (plain_operand op f R values c)
    ∙ then_then (f R values c) (λ v. operand_by (kind_of op) R v) (λ x. applied op x (meant right) R values c)
    ∙ each_value (f R values c)
  where
    each_value : (o : Outcome Value) → (o >>= λ v. operand_by (kind_of op) R v >>= λ x. applied op x (meant right) R values c) ≡ (o >>= λ v. on_value op v right R values c)
    each_value (Known v) = sym (on_value_is op v right R values c)
    each_value (Fault e) = refl
    each_value (Open m) = refl

no_more : (o : Outcome Value) → o ≡ (o >>= λ v. Known v)
no_more (Known v) = refl
no_more (Fault e) = refl
no_more (Open m) = refl

goes : (xs : List Applied) (e : Expr) (f : Meaning (Outcome Value)) (R : Reading) (values : List Value) (c : Context) → meant e ≡ plain f
    → (meant (chained e xs)).value R values c ≡ (f R values c >>= λ v. going xs v R values c)
goes [] e f R values c p = ap (λ (m : Meant). m.value R values c) p ∙ no_more (f R values c)
goes (x ∷ xs) e f R values c p =
    goes xs (expr.Binary x.op e x.right.now) (binary x.op (meant e) (meant x.right.now)) R values c (binary_means x.op e x.right.now)
    ∙ ap (λ (m : Meant). binary x.op m (meant x.right.now) R values c >>= λ v. going xs v R values c) p
    ∙ ap (λ o. o >>= λ v. going xs v R values c) (plain_left x.op f x.right.now R values c)
    ∙ then_then (f R values c) (λ v. on_value x.op v x.right.now R values c) (λ v. going xs v R values c)

-- an operation that is a chain of others on its innermost one
pub chain_goes : (xs ys : List Applied) (op o : Op) (left right a b : Expr) (R : Reading) (values : List Value) (c : Context) → chained (expr.Binary op left right) xs ≡ expr.Binary o a b → ys ≡ xs
    → binary o (meant a) (meant b) R values c ≡ (binary op (meant left) (meant right) R values c >>= λ v. going (drop 0 ys) v R values c)
chain_goes xs ys op o left right a b R values c e same =
    sym (ap (λ (m : Meant). m.value R values c) (ap meant e ∙ binary_means o a b))
    ∙ goes xs (expr.Binary op left right) (binary op (meant left) (meant right)) R values c (binary_means op left right)
    ∙ ap (λ zs. binary op (meant left) (meant right) R values c >>= λ v. going zs v R values c) (sym same)

pub going_turns : (xs : List Applied) (i : ℕ) (x : Applied) (v : Value) (R : Reading) (values : List Value) (c : Context) → i < length xs → x ≡ get_or xs i x
    → going (drop i xs) v R values c ≡ (on_value x.op v x.right.now R values c >>= λ w. going (drop (i + 1) xs) w R values c)
going_turns xs i x v R values c h e = ap (λ left. going left v R values c) (rest_of xs i x h ∙ ap (λ y. y ∷ drop (i + 1) xs) (sym e))

pub going_ends : (xs : List Applied) (i : ℕ) (v : Value) (R : Reading) (values : List Value) (c : Context) → length xs ≤ i → going (drop i xs) v R values c ≡ Known v
going_ends xs i v R values c h = ap (λ left. going left v R values c) (no_rest xs i h)

-- ---- arguments

-- what is left of taking arguments, behind these
abbrev pub taking : Function → ℕ → List Expr → List Operand → Meaning (Outcome (List Operand))
taking f at args taken R values c = arguments f at (map meant args) R values c >>= λ more. Known (taken ++ more)

again : (o : Outcome (List Operand)) (none : List Operand) → none ≡ [] → o ≡ (o >>= λ more. Known (none ++ more))
again (Known xs) none e = ap (λ n. Known (n ++ xs)) (sym e)
again (Fault f) none e = refl
again (Open m) none e = refl

pub taking_starts : (f : Function) (args : List Expr) (none : List Operand) (R : Reading) (values : List Value) (c : Context) → none ≡ []
    → arguments f 0 (map meant args) R values c ≡ taking f (length none) (drop 0 args) none R values c
taking_starts f args none R values c e = again (arguments f 0 (map meant args) R values c) none e ∙ ap (λ (at : ℕ). taking f at args none R values c) (sym (ap length e))

takes_one : (a : Outcome Operand) (o : Outcome (List Operand)) (taken : List Operand)
    → ((a >>= λ y. o >>= λ ys. Known (y ∷ ys)) >>= λ more. Known (taken ++ more)) ≡ (a >>= λ y. o >>= λ more. Known ((taken ++ y ∷ []) ++ more))
takes_one (Known y) (Known ys) taken = ap Known (sym (append_assoc taken (y ∷ []) ys))
takes_one (Known y) (Fault f) taken = refl
takes_one (Known y) (Open m) taken = refl
takes_one (Fault f) o taken = refl
takes_one (Open m) o taken = refl

pub taking_turns : (f : Function) (args : List Expr) (i : ℕ) (x : Expr) (at next : ℕ) (taken : List Operand) (R : Reading) (values : List Value) (c : Context) → i < length args
    → x ≡ get_or args i x → next ≡ suc at
    → taking f at (drop i args) taken R values c ≡ (argument (kind_at f at) (meant x) R values c >>= λ y. taking f next (drop (i + 1) args) (taken ++ y ∷ []) R values c)
taking_turns f args i x at next taken R values c h e n =
    ap (λ left. taking f at left taken R values c) (rest_of args i x h ∙ ap (λ y. y ∷ drop (i + 1) args) (sym e))
    ∙ takes_one (argument (kind_at f at) (meant x) R values c) (arguments f (suc at) (map meant (drop (i + 1) args)) R values c) taken
    ∙ ap (λ (k : ℕ). argument (kind_at f at) (meant x) R values c >>= λ y. taking f k (drop (i + 1) args) (taken ++ y ∷ []) R values c) (sym n)

pub taking_ends : (f : Function) (args : List Expr) (i at : ℕ) (taken : List Operand) (R : Reading) (values : List Value) (c : Context) → length args ≤ i
    → taking f at (drop i args) taken R values c ≡ Known taken
taking_ends f args i at taken R values c h = ap (λ left. taking f at left taken R values c) (no_rest args i h) ∙ ap Known (append-nil taken)
