-- The first item of a path stays told and is there; what the left operand decides; arguments of functions.
use Rattle.std.proofs.Common.{◌≡◌, sym, ap, ◌∙◌, ℕ, List, length, map, Option, Some, None, Ok}
use Rattle.std.proofs.lemmas.List.{length-map}
use Rattle.doc_model.specs.declared.step.Step.{Step}
use Rattle.doc_model.specs.declared.strip_rule.StripRule.{StripRule}
use Rattle.doc_model.specs.View.{Seen}
use Rattle.key_sources.specs.Going.{Lookups, Fits, Says}
use Rattle.key_sources.proofs.Saying as saying
use Rattle.key_sources.proofs.Saying.{says_known}
use Rattle.xpath_binding.specs.declared.functions.Function.{Function}
use Rattle.xpath_calls.specs.Taking.{argument, arguments, call_of}
use Rattle.xpath_core.proofs.Keeping.{all_keep, all_sound, kept}
use Rattle.xpath_core.proofs.Operands.{argument_keeps, arguments_keep, arguments_sound, all_held}
use Rattle.xpath_core.proofs.Ready.{told_there}
use Rattle.xpath_core.specs.Ready.{IsReady}
use Rattle.xpath_laws.proofs.Expressions.{expr_keeps, path_items_go_on}
use Rattle.xpath_laws.proofs.Going.{first_stays}
use Rattle.xpath_laws.proofs.Sounding.{Sound}
use Rattle.xpath_laws.proofs.Tells.{Perhaps, first_tells}
use Rattle.xpath_laws.proofs.Trees.{path_sound}
use Rattle.xpath_laws.proofs.Ways.{path_items_sound}
use Rattle.xpath_laws.specs.Sound.{Rows, Each, IsThere, IsOpen, IsValue}
use Rattle.xpath_meaning.specs.declared.context.Context.{Context}
use Rattle.xpath_meaning.specs.Evaluation.{meant, meant_path, path_items_of}
use Rattle.xpath_meaning.specs.Streams.{first_item}
use Rattle.xpath_nodes.specs.Held.{HasJoined, IsJoinedIf}
use Rattle.xpath_operations.proofs.Standing.{Held, held_joined}
use Rattle.xpath_operations.specs.Operands.{IsHeld, applied, combined, decided, kind_of, operand_as, unless_decided}
use Rattle.xpath_operations.specs.declared.operand.Operand.{Operand}
use Rattle.xpath_operations.specs.declared.operand.Operand.TheVariants.{Whole}
use Rattle.xpath_operations.specs.declared.operand.OperandKind.{OperandKind}
use Rattle.xpath_meaning.specs.Outcome.{◌>>=◌}
use Rattle.xpath_meaning.specs.Reading.{Reading}
use Rattle.xpath_syntax.specs.declared.expression.Expr.{Expr}
use Rattle.xpath_syntax.specs.declared.expression.NameRef.{NameRef}
use Rattle.xpath_syntax.specs.declared.expression.Op.{Op}
use Rattle.xpath_syntax.specs.declared.expression.Path.{Path}
use Rattle.xpath_values.specs.declared.value.Value.{Value}

-- ---- the first item

pub first_kept : (path : Path) (values : List Value) (c : Context) → saying.Keeps (λ R. first_item (path_items_of R path values c))
first_kept path values c = record { stays = λ R Q x. first_stays (path_items_of R path values c) (path_items_of Q path values c) (path_items_go_on R Q x path values c) }

perhaps_joined : (rules : List StripRule) (steps : List Step) (first : Option ℕ) → Perhaps (IsThere rules steps) first → IsJoinedIf steps first
perhaps_joined rules steps None h = tt
perhaps_joined rules steps (Some n) h = h.0

first_sound : (T O : Rows) (path : Path) → Sound T O (Perhaps T) (λ R values c. first_item (path_items_of R path values c))
first_sound T O path R values c g = first_tells O T (path_items_of R path values c) (path_items_sound T O (meant_path path) (path_sound T O path) R values c g)

pub first_there : {M : Type 0} {lookups : Lookups} {s t : Seen M} {fits : Fits} {values : List Value} {c : Context} {first : Option ℕ} (path : Path) → IsReady t fits values c
    → Says lookups (λ R. first_item (path_items_of R path values c)) s t (Ok first) → IsJoinedIf t.steps first
first_there {t = t} {first = first} path r a =
    perhaps_joined t.rules t.steps first
    (told_there (Perhaps (IsThere t.rules t.steps)) (λ R values c. first_item (path_items_of R path values c)) (first_sound (IsThere t.rules t.steps) (IsOpen t.steps) path) r a)

-- a value that is there
pub value_joined : (rules : List StripRule) (steps : List Step) (v : Value) → IsValue (IsThere rules steps) v → HasJoined steps v
value_joined rules steps v i = held_joined rules steps (Whole v) i

-- ---- what the left operand decides

pub says_decided : {M : Type 0} {lookups : Lookups} {s t : Seen M} {v : Value} (op : Op) (x : Operand) (right : Expr) (values : List Value) (c : Context) → decided op x ≡ Some v
    → Says lookups (λ R. applied op x (meant right) R values c) s t (Ok v)
says_decided op x right values c e = says_known (λ R. ap (λ d. unless_decided d (operand_as (kind_of op) (meant right) R values c >>= λ y. combined op R x y)) e)

pub undecided : (op : Op) (x : Operand) (right : Expr) (R : Reading) (values : List Value) (c : Context) → decided op x ≡ None
    → applied op x (meant right) R values c ≡ (operand_as (kind_of op) (meant right) R values c >>= λ y. combined op R x y)
undecided op x right R values c e = ap (λ d. unless_decided d (operand_as (kind_of op) (meant right) R values c >>= λ y. combined op R x y)) e

-- ---- arguments

pub function_of_meant : (name : NameRef) (es : List Expr) (count : ℕ) (o : Option Function) → count ≡ length es → o ≡ call_of name count → call_of name (length (map meant es)) ≡ o
function_of_meant name es count o long made = ap (call_of name) (length-map es meant ∙ sym long) ∙ sym made

pub argument_kept : (k : Option OperandKind) (e : Expr) (values : List Value) (c : Context) → saying.Keeps (λ R. argument k (meant e) R values c)
argument_kept k e values c = kept (argument k (meant e)) (argument_keeps k (meant e) (expr_keeps e)) values c

pub arguments_kept : (f : Function) (es : List Expr) (values : List Value) (c : Context) → saying.Keeps (λ R. arguments f 0 (map meant es) R values c)
arguments_kept f es values c = kept (arguments f 0 (map meant es)) (arguments_keep f 0 (map meant es) (all_keep es)) values c

pub taken_held : {M : Type 0} {lookups : Lookups} {s t : Seen M} {fits : Fits} {values : List Value} {c : Context} {taken : List Operand} (f : Function) (es : List Expr) → IsReady t fits values c
    → Says lookups (λ R. arguments f 0 (map meant es) R values c) s t (Ok taken) → Each (IsHeld t.steps) taken
taken_held {t = t} {taken = taken} f es r a =
    let T : ℕ → Type 0 = IsThere t.rules t.steps in
    let O : ℕ → Type 0 = IsOpen t.steps in
    all_held t.rules t.steps taken (told_there (Each (Held T)) (arguments f 0 (map meant es)) (arguments_sound T O f 0 (map meant es) (all_sound T O es)) r a)
