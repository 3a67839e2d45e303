-- What calls on operands make the calls above them say.
use Rattle.std.proofs.Common.{◌≡◌, refl, sym, ap, ℕ, List, Result, Ok, Err}
use Rattle.doc_model.specs.View.{Seen, Moves}
use Rattle.key_sources.specs.Going.{Lookups, Fits, Says}
use Rattle.key_sources.proofs.Saying.{Keeps, says_same, says_then, says_stops}
use Rattle.xpath_core.proofs.Chaining.{on_value, on_value_is}
use Rattle.xpath_core.proofs.Keeping.{kept}
use Rattle.xpath_core.proofs.Operands.{constant_sound}
use Rattle.xpath_core.proofs.Ready.{told_there}
use Rattle.xpath_core.specs.Ready.{IsReady}
use Rattle.xpath_laws.proofs.Expressions.{expr_keeps}
use Rattle.xpath_laws.proofs.Keeping.{MeantKeeps}
use Rattle.xpath_laws.proofs.Operating.{binary_keeps}
use Rattle.xpath_laws.proofs.Ops.{binary_sound}
use Rattle.xpath_laws.proofs.Trees.{expr_sound}
use Rattle.xpath_laws.specs.Sound.{IsThere, IsOpen, IsValue}
use Rattle.xpath_meaning.specs.declared.context.Context.{Context}
use Rattle.xpath_meaning.specs.declared.stop.EvalStop.{EvalStop}
use Rattle.xpath_meaning.specs.Evaluation.{meant}
use Rattle.xpath_meaning.specs.Meanings.{plain}
use Rattle.doc_model.specs.Answers.{Known}
use Rattle.xpath_meaning.specs.Operators.{binary}
use Rattle.xpath_operations.proofs.Operating.{binary_is}
use Rattle.xpath_operations.proofs.Standing.{Held, operand_keeps, operand_sound, operand_by_kept, held_joined}
use Rattle.xpath_operations.specs.Operands.{IsHeld, applied, kind_of, operand_as, operand_by}
use Rattle.xpath_operations.specs.declared.operand.Operand.{Operand}
use Rattle.xpath_operations.specs.declared.operand.OperandKind.{OperandKind}
use Rattle.xpath_syntax.specs.declared.expression.Expr.{Expr}
use Rattle.xpath_syntax.specs.declared.expression.Op.{Op}
use Rattle.xpath_values.specs.declared.value.Value.{Value}

-- ---- what operators mean stays

pub operand_kept : (k : OperandKind) (e : Expr) (values : List Value) (c : Context) → Keeps (λ R. operand_as k (meant e) R values c)
operand_kept k e values c = kept (operand_as k (meant e)) (operand_keeps k (meant e) (expr_keeps e)) values c

pub value_kept : (e : Expr) (values : List Value) (c : Context) → Keeps (λ R. (meant e).value R values c)
value_kept e values c = kept (meant e).value (expr_keeps e).value values c

pub binary_kept : (op : Op) (l r : Expr) (values : List Value) (c : Context) → Keeps (λ R. binary op (meant l) (meant r) R values c)
binary_kept op l r values c = kept (binary op (meant l) (meant r)) (binary_keeps op (meant l) (meant r) (expr_keeps l) (expr_keeps r)) values c

constant_keeps : (v : Value) → MeantKeeps (plain (λ R values c. Known v))
constant_keeps v = record { value = λ R Q x values c. refl; items = tt }

pub on_value_kept : (op : Op) (v : Value) (r : Expr) (values : List Value) (c : Context) → Keeps (λ R. on_value op v r R values c)
on_value_kept op v r values c = kept (on_value op v r) (binary_keeps op (plain (λ R values c. Known v)) (meant r) (constant_keeps v) (expr_keeps r)) values c

-- ---- an operation: its left operand, and what the operator gives behind it

pub says_operation : {M : Type 0} {lookups : Lookups} {s t u : Seen M} {k : OperandKind} {x : Operand} {result : Result Value EvalStop} (op : Op) (l r : Expr) (values : List Value) (c : Context)
    → k ≡ kind_of op → Moves s t → Says lookups (λ R. operand_as k (meant l) R values c) s t (Ok x) → Moves t u
    → Says lookups (λ R. applied op x (meant r) R values c) t u result → Says lookups (λ R. binary op (meant l) (meant r) R values c) s u result
says_operation {k = k} op l r values c e m a n b =
    says_same (λ R. binary_is op (meant l) (meant r) R values c)
    (says_then (λ R x. applied op x (meant r) R values c) (operand_kept (kind_of op) l values c) m (says_same (λ R. ap (λ k. operand_as k (meant l) R values c) (sym e)) a) n b)

pub says_no_operation : {M : Type 0} {lookups : Lookups} {s t : Seen M} {k : OperandKind} {e : EvalStop} (op : Op) (l r : Expr) (values : List Value) (c : Context)
    → k ≡ kind_of op → Says {A = Operand} lookups (λ R. operand_as k (meant l) R values c) s t (Err e) → Says {A = Value} lookups (λ R. binary op (meant l) (meant r) R values c) s t (Err e)
says_no_operation op l r values c e a =
    says_same (λ R. binary_is op (meant l) (meant r) R values c)
    (says_stops (λ R x. applied op x (meant r) R values c) (says_same (λ R. ap (λ k. operand_as k (meant l) R values c) (sym e)) a))

-- ---- an operator on a value

pub says_on_value : {M : Type 0} {lookups : Lookups} {s t u : Seen M} {k : OperandKind} {x : Operand} {result : Result Value EvalStop} (op : Op) (v : Value) (r : Expr)
    (values : List Value) (c : Context)
    → k ≡ kind_of op → Moves s t → Says lookups (λ R. operand_by k R v) s t (Ok x) → Moves t u
    → Says lookups (λ R. applied op x (meant r) R values c) t u result → Says lookups (λ R. on_value op v r R values c) s u result
says_on_value op v r values c e m a n b =
    says_same (λ R. on_value_is op v r R values c)
    (says_then (λ R x. applied op x (meant r) R values c) (operand_by_kept (kind_of op) v) m (says_same (λ R. ap (λ k. operand_by k R v) (sym e)) a) n b)

pub says_not_on_value : {M : Type 0} {lookups : Lookups} {s t : Seen M} {k : OperandKind} {e : EvalStop} (op : Op) (v : Value) (r : Expr) (values : List Value) (c : Context)
    → k ≡ kind_of op → Says {A = Operand} lookups (λ R. operand_by k R v) s t (Err e) → Says {A = Value} lookups (λ R. on_value op v r R values c) s t (Err e)
says_not_on_value op v r values c e a =
    says_same (λ R. on_value_is op v r R values c) (says_stops (λ R x. applied op x (meant r) R values c) (says_same (λ R. ap (λ k. operand_by k R v) (sym e)) a))

-- ---- what was told is there

pub operand_held : {M : Type 0} {lookups : Lookups} {s t : Seen M} {fits : Fits} {values : List Value} {c : Context} {x : Operand} (k : OperandKind) (e : Expr) → IsReady t fits values c
    → Says lookups (λ R. operand_as k (meant e) R values c) s t (Ok x) → IsHeld t.steps x
operand_held {t = t} {x = x} k e r a =
    held_joined t.rules t.steps x (told_there (Held (IsThere t.rules t.steps)) (operand_as k (meant e))
    (operand_sound (IsThere t.rules t.steps) (IsOpen t.steps) k (meant e) (expr_sound (IsThere t.rules t.steps) (IsOpen t.steps) e)) r a)

pub value_told : {M : Type 0} {lookups : Lookups} {s t : Seen M} {fits : Fits} {values : List Value} {c : Context} {v : Value} (e : Expr) → IsReady t fits values c
    → Says lookups (λ R. (meant e).value R values c) s t (Ok v) → IsValue (IsThere t.rules t.steps) v
value_told {t = t} e r a = told_there (IsValue (IsThere t.rules t.steps)) (meant e).value (expr_sound (IsThere t.rules t.steps) (IsOpen t.steps) e).value r a

pub operation_told : {M : Type 0} {lookups : Lookups} {s t : Seen M} {fits : Fits} {values : List Value} {c : Context} {v : Value} (op : Op) (l r : Expr) → IsReady t fits values c
    → Says lookups (λ R. binary op (meant l) (meant r) R values c) s t (Ok v) → IsValue (IsThere t.rules t.steps) v
operation_told {t = t} op l r h a =
    let T : ℕ → Type 0 = IsThere t.rules t.steps in
    let O : ℕ → Type 0 = IsOpen t.steps in
    told_there (IsValue T) (binary op (meant l) (meant r)) (binary_sound T O op (meant l) (meant r) (expr_sound T O l) (expr_sound T O r)) h a

pub on_value_told : {M : Type 0} {lookups : Lookups} {s t : Seen M} {fits : Fits} {values : List Value} {c : Context} {v : Value} (op : Op) (w : Value) (r : Expr)
    → IsReady t fits values c → IsValue (IsThere t.rules t.steps) w
    → Says lookups (λ R. on_value op w r R values c) s t (Ok v) → IsValue (IsThere t.rules t.steps) v
on_value_told {t = t} op w r h i a =
    let T : ℕ → Type 0 = IsThere t.rules t.steps in
    let O : ℕ → Type 0 = IsOpen t.steps in
    told_there (IsValue T) (on_value op w r) (binary_sound T O op (plain (λ R values c. Known w)) (meant r) (constant_sound T O w i) (expr_sound T O r)) h a
