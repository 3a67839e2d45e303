-- What comes next at a place leaves what is left, and weighs no more.
use Rattle.std.proofs.Common.{◌≡◌, sym, ap, ◌∙◌, subst, ℕ, zero, suc, ◌<◌, ◌≤◌, List, [], ◌∷◌, length, map, get_or, arith, Result, Ok, Err, Option, Some, None, inl, inr}
use Rattle.std.specs.Prelude.{IsErrAnd, slice_get}
use Rattle.doc_laws.proofs.Growth.{Grows-refl, Grows-trans}
use Rattle.doc_model.specs.Answers as answer
use Rattle.doc_model.specs.declared.node_test.Test.{Test}
use Rattle.doc_model.specs.declared.step.Step.{Step}
use Rattle.doc_model.specs.declared.strip_rule.StripRule.{StripRule}
use Rattle.doc_model.specs.Lawful.{IsLawful, Grows}
use Rattle.doc_model.specs.View.{Seen, Moves}
use Rattle.key_sources.specs.Going.{Lookups, Made, reading_by, Says}
use Rattle.xpath_core.specs.declared.levels.Child.{Child}
use Rattle.xpath_core.specs.declared.levels.Level.{Level}
use Rattle.xpath_core.specs.declared.levels.Place.{Place}
use Rattle.xpath_core.specs.declared.levels.Turn.TheVariants as turn
use Rattle.xpath_core.specs.Left.{Comes, Follows, IsLeft, IsLevel, IsPlace, IsChild, IsReached, IsWentOn, StopsLevel, left_at, left_of, levels_after, test_in}
use Rattle.xpath_core.proofs.Left.{inside_at, left_first, rest_first}
use Rattle.xpath_core.proofs.Placing.{each_get, left_enters, left_takes, map_get, place_enters}
use Rattle.key_sources.proofs.Saying.{says_after, says_same, says_stops}
use Rattle.xpath_core.proofs.Standing.{says_steps}
use Rattle.xpath_core.proofs.Weighing.{weight, weight_enters, weight_goes_on}
use Rattle.xpath_meaning.specs.declared.context.Context.{Context}
use Rattle.xpath_meaning.specs.declared.stop.EvalStop.{EvalStop}
use Rattle.xpath_meaning.specs.Evaluation.{meant_step}
use Rattle.xpath_meaning.specs.Meanings.{MeantStep}
use Rattle.xpath_meaning.specs.Reading.{Reading}
use Rattle.xpath_meaning.specs.Streams.{all_of, then_stream, first_item}
use Rattle.xpath_syntax.specs.declared.expression.StepExpr.{StepExpr}
use Rattle.xpath_values.specs.declared.value.Value.{Value}

-- ---- places

pub item_place : (rules : List StripRule) (steps : List Step) (parts : List StepExpr) (n : ℕ) (old new : Place) → IsPlace rules steps parts old
    → Comes (length parts) (turn.Item n) old new → IsPlace rules steps parts new
item_place rules steps parts n old new p k = subst (IsPlace rules steps parts) (sym k.2) (record { tests = p.tests; few = p.few; levels = p.levels; entering = tt })

reached_place : (rules : List StripRule) (steps : List Step) (parts : List StepExpr) (old new : Place) → IsPlace rules steps parts old → IsReached (length parts) old new
    → IsPlace rules steps parts new
reached_place rules steps parts old new p (inl k) = subst (IsPlace rules steps parts) (sym k.1) p
reached_place rules steps parts old new p (inr k) = place_enters rules steps parts k.0 old new p k.1.passed k.1.more k.1.placed

pub child_place : (rules : List StripRule) (steps : List Step) (parts : List StepExpr) (at : ℕ) (old new : Place) → IsPlace rules steps parts old
    → Comes (length parts) (turn.Child at) old new → IsPlace rules steps parts new
child_place rules steps parts at old new p k = reached_place rules steps parts old new p k.1

pub child_inside : (rules : List StripRule) (steps : List Step) (parts : List StepExpr) (at : ℕ) (old new : Place) → IsPlace rules steps parts old
    → Comes (length parts) (turn.Child at) old new → at < length parts
child_inside rules steps parts at old new p k = let few = (child_place rules steps parts at old new p k).few in let e = k.0 in omega (arith, e, few)

reached_none : (steps : ℕ) (old new : Place) → IsReached steps old new → new.entering ≡ None
reached_none steps old new (inl k) = ap (λ (place : Place). place.entering) k.1 ∙ k.0
reached_none steps old new (inr k) = ap (λ (place : Place). place.entering) k.1.placed

pub child_none : (steps at : ℕ) (old new : Place) → Comes steps (turn.Child at) old new → new.entering ≡ None
child_none steps at old new k = reached_none steps old new k.1

-- ---- what is left

pub item_left : (parts : List StepExpr) (n : ℕ) (old new : Place) (R : Reading) (values : List Value) (c : Context) → Comes (length parts) (turn.Item n) old new
    → left_at parts old R values c ≡ then_stream (all_of (n ∷ [])) (left_at parts new R values c)
item_left parts n old new R values c k =
    left_takes parts n old R values c k.0 k.1 ∙ ap (λ (place : Place). then_stream (all_of (n ∷ [])) (left_at parts place R values c)) (sym k.2)

pub end_left : (parts : List StepExpr) (old new : Place) (R : Reading) (values : List Value) (c : Context) → Comes (length parts) turn.End old new → left_at parts old R values c ≡ all_of []
end_left parts old new R values c k =
    ap (λ entering. left_of (map meant_step parts) old.levels entering R values c) k.0 ∙ ap (λ levels. left_of (map meant_step parts) levels None R values c) k.1

reached_left : (parts : List StepExpr) (old new : Place) (R : Reading) (values : List Value) (c : Context) → IsReached (length parts) old new
    → left_at parts old R values c ≡ left_at parts new R values c
reached_left parts old new R values c (inl k) = ap (λ (place : Place). left_at parts place R values c) (sym k.1)
reached_left parts old new R values c (inr k) = left_enters parts k.0 old new R values c k.1.passed k.1.more k.1.placed

pub child_left_same : (parts : List StepExpr) (at : ℕ) (old new : Place) (R : Reading) (values : List Value) (c : Context) → Comes (length parts) (turn.Child at) old new
    → left_at parts old R values c ≡ left_at parts new R values c
child_left_same parts at old new R values c k = reached_left parts old new R values c k.1

-- a call that stopped took nothing
pub left_exit : (P : EvalStop → Type 0) (lookups : Lookups) (rules : List StripRule) (steps : List Step) (parts : List StepExpr) (values : List Value) (c : Context)
    (old new : Place) (result : Result (Option ℕ) EvalStop) → IsErrAnd result P
    → ((q : List Step) → Grows steps q → IsLawful q → left_at parts old (reading_by lookups rules q) values c ≡ left_at parts new (reading_by lookups rules q) values c)
    → IsLeft lookups rules steps parts values c old new result
left_exit P lookups rules steps parts values c old new (Ok x) is h = absurd is
left_exit P lookups rules steps parts values c old new (Err e) is h = record { left = h }

-- ---- what the first item is

pub gave : {M : Type 0} {lookups : Lookups} {s t : Seen M} (values : List Value) (c : Context) (parts : List StepExpr) (start place : Place) (first : Option ℕ) → Moves s t
    → ((q : List Step) → Grows t.steps q → IsLawful q → left_at parts start (reading_by lookups t.rules q) values c ≡ left_at parts place (reading_by lookups t.rules q) values c)
    → first_item (left_at parts place (reading_by lookups t.rules t.steps) values c) ≡ answer.Known first
    → Says lookups (λ R. first_item (left_at parts start R values c)) s t (Ok first)
gave {t = t} values c parts start place first m h e = record { answers = ap first_item (h t.steps (Grows-refl t.steps) m.seen.lawful) ∙ e }

-- the innermost level that came to no child says why there is no item
pub level_stops : {M : Type 0} {lookups : Lookups} {s t : Seen M} {e : EvalStop} (values : List Value) (c : Context) (parts : List StepExpr) (part : StepExpr) (at : ℕ) (level : Level) (place : Place)
    → place.entering ≡ None → suc at ≡ length place.levels → slice_get place.levels at ≡ Some level → slice_get parts at ≡ Some part
    → StopsLevel lookups (meant_step part) level values c s t (Err e)
    → Says {A = Option ℕ} lookups (λ R. first_item (left_at parts place R values c)) s t (Err e)
level_stops values c parts part at level place n h l p a =
    says_same
    (λ R. ap (λ entering. first_item (left_of (map meant_step parts) place.levels entering R values c)) n
    ∙ left_first R values c (map meant_step parts) place.levels at (meant_step part) level h l (map_get meant_step parts at part p))
    (says_stops (λ R. rest_first R values c (map meant_step parts) place.levels) (a (λ R. inside_at R values c (map meant_step parts) at)))

-- ---- each turn weighs less

reached_weight : (steps : ℕ) (old new : Place) → IsReached steps old new → weight steps new.levels new.entering ≤ weight steps old.levels old.entering
reached_weight steps old new (inl k) = let e = ap (λ (place : Place). weight steps place.levels place.entering) k.1 in omega (arith, e)
reached_weight steps old new (inr k) =
    let e = ap (λ (place : Place). weight steps place.levels place.entering) k.1.placed in
    let f = ap (λ entering. weight steps old.levels entering) k.1.passed in
    let w = weight_enters steps old.levels k.0 k.1.more in
    omega (arith, e, f, w)

pub turn_weight : (rules : List StripRule) (seen : List Step) (parts : List StepExpr) (at : ℕ) (level : Level) (x : Child) (start here next : Place) → IsLawful seen → IsPlace rules seen parts here
    → Comes (length parts) (turn.Child at) start here → slice_get here.levels at ≡ Some level → IsChild rules seen level x → IsWentOn at x here next
    → weight (length parts) next.levels next.entering < weight (length parts) start.levels start.entering
turn_weight rules seen parts at level x start here next l p k g i w =
    let n = child_none (length parts) at start here k in
    let a = reached_weight (length parts) start here k.1 in
    let b = weight_goes_on rules seen (length parts) here.levels at level x l k.0 p.few g (each_get (IsLevel rules seen) here.levels at level p.levels g) i in
    let d = ap (λ levels. weight (length parts) levels next.entering) (w.levels level g) ∙ ap (λ entering. weight (length parts) (levels_after at level x here.levels) entering) (w.entering n) in
    let f = ap (λ entering. weight (length parts) here.levels entering) n in
    omega (arith, a, b, d, f)

some_same : {A : Type 0} (a b : A) → Some a ≡ Some b → a ≡ b
some_same a b e = let same : Some a ≡ Some b = e in let is : a ≡ b = cc in is

-- the node test of the innermost level is that of its step
pub test_at : (rules : List StripRule) (steps : List Step) (parts : List StepExpr) (place : Place) (at : ℕ) (part : StepExpr) (test : Test) → IsPlace rules steps parts place
    → slice_get parts at ≡ Some part → slice_get place.tests at ≡ Some test → test ≡ test_in part
test_at rules steps parts place at part test p s t = some_same _ _ (sym t ∙ ap (λ tests. slice_get tests at) p.tests ∙ map_get test_in parts at part s)

-- ---- elements

pub get_some : {A : Type 0} (xs : List A) (i : ℕ) (x : A) → i < length xs → x ≡ get_or xs i x → slice_get xs i ≡ Some x
get_some [] i x h e = absurd (omega (arith, h))
get_some (y ∷ ys) zero x h e = ap Some (sym e)
get_some (y ∷ ys) (suc i) x h e = get_some ys i x (omega (arith, h)) e

-- ---- behind a call

-- what is left of two places stays the same
pub left_later : {M : Type 0} {s t : Seen M} (lookups : Lookups) (values : List Value) (c : Context) (parts : List StepExpr) (start here : Place) → Moves s t
    → ((q : List Step) → Grows s.steps q → IsLawful q → left_at parts start (reading_by lookups s.rules q) values c ≡ left_at parts here (reading_by lookups s.rules q) values c)
    → (q : List Step) → Grows t.steps q → IsLawful q → left_at parts start (reading_by lookups t.rules q) values c ≡ left_at parts here (reading_by lookups t.rules q) values c
left_later {s = s} {t} lookups values c parts start here m h q g l =
    subst (λ rules. left_at parts start (reading_by lookups rules q) values c ≡ left_at parts here (reading_by lookups rules q) values c) (sym m.rules_stay)
    (h q (Grows-trans s.steps t.steps q m.grows g) l)

-- why there is no item at the place where the call began
pub stopped : {M : Type 0} {lookups : Lookups} {r s t : Seen M} {e : EvalStop} (values : List Value) (c : Context) (parts : List StepExpr) (start here : Place) → Moves r s → Moves s t
    → ((q : List Step) → Grows s.steps q → IsLawful q → left_at parts start (reading_by lookups s.rules q) values c ≡ left_at parts here (reading_by lookups s.rules q) values c)
    → Says {A = Option ℕ} lookups (λ R. first_item (left_at parts here R values c)) s t (Err e) → Says {A = Option ℕ} lookups (λ R. first_item (left_at parts start R values c)) r t (Err e)
stopped {lookups = lookups} {s = s} {t} {e} values c parts start here m n h a =
    says_after m (says_steps (Err e) n
    (λ q g l. ap first_item (subst (λ rules. left_at parts start (reading_by lookups rules q) values c ≡ left_at parts here (reading_by lookups rules q) values c) (sym n.rules_stay) (h q g l))) a)

-- by what the source was made for at first
pub follows_by : {N : Type 0} {made now : Made N} (rules : List StripRule) (steps : List Step) (step : MeantStep) (level : Level) (values : List Value) (c : Context) (x : Child) → now ≡ made
    → Follows now.lookups rules steps step level values c x → Follows made.lookups rules steps step level values c x
follows_by rules steps step level values c x e f = subst (λ (m : Made _). Follows m.lookups rules steps step level values c x) e f
