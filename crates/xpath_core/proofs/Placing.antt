-- A place in child steps moves on.
use Rattle.std.proofs.Common.{◌≡◌, refl, sym, ap, ◌∙◌, subst, ℕ, zero, suc, ◌<◌, ◌≤◌, List, [], ◌∷◌, ◌++◌, length, length-append, take, map, arith, Option, Some, None}
use Rattle.std.proofs.lemmas.List.{length-map}
use Rattle.std.specs.Prelude.{slice_get, slice_set}
use Rattle.doc_model.specs.declared.step.Step.{Step}
use Rattle.doc_model.specs.declared.strip_rule.StripRule.{StripRule}
use Rattle.doc_model.specs.Lawful.{IsLawful, Grows}
use Rattle.key_sources.specs.Going.{Lookups, reading_by}
use Rattle.xpath_core.specs.declared.levels.Child.{Child}
use Rattle.xpath_core.specs.declared.levels.Child.TheVariants as child
use Rattle.xpath_core.specs.declared.levels.Level.{Level}
use Rattle.xpath_core.specs.declared.levels.Place.{Place}
use Rattle.xpath_core.specs.Left.{IsLevel, IsEntered, IsPlace, left_at, left_of, fresh_level, after_child, entered_by, IsChild, Follows, levels_after, IsWentOn}
use Rattle.xpath_core.proofs.Left.{left_enter, left_item, left_goes_on, inside_at}
use Rattle.xpath_laws.specs.Sound.{Each}
use Rattle.xpath_laws.proofs.Tells.{each_append}
use Rattle.xpath_meaning.specs.declared.context.Context.{Context}
use Rattle.xpath_meaning.specs.Evaluation.{meant_step}
use Rattle.xpath_meaning.specs.Reading.{Reading}
use Rattle.xpath_meaning.specs.Streams.{all_of, then_stream}
use Rattle.xpath_syntax.specs.declared.expression.StepExpr.{StepExpr}
use Rattle.xpath_values.specs.declared.value.Value.{Value}

pub map_get : {A B : Type 0} (f : A → B) (xs : List A) (i : ℕ) (x : A) → slice_get xs i ≡ Some x → slice_get (map f xs) i ≡ Some (f x)
map_get f [] i x e = absurd (let no : ◌≡◌ {A = Option _} None (Some x) = e in cc)
map_get f (y ∷ ys) zero x e = ap (λ z. Some (f z)) (let same : Some y ≡ Some x = e in let is : y ≡ x = cc in is)
map_get f (y ∷ ys) (suc i) x e = map_get f ys i x e

pub each_get : {A : Type 0} (V : A → Type 0) (xs : List A) (i : ℕ) (x : A) → Each V xs → slice_get xs i ≡ Some x → V x
each_get V [] i x a e = absurd (let no : ◌≡◌ {A = Option _} None (Some x) = e in cc)
each_get V (y ∷ ys) zero x a e = subst V (let same : Some y ≡ Some x = e in let is : y ≡ x = cc in is) a.0
each_get V (y ∷ ys) (suc i) x a e = each_get V ys i x a.1 e

each_taken : {A : Type 0} (V : A → Type 0) (xs : List A) (i : ℕ) → Each V xs → Each V (take i xs)
each_taken V [] zero a = tt
each_taken V [] (suc i) a = tt
each_taken V (x ∷ xs) zero a = tt
each_taken V (x ∷ xs) (suc i) a = (a.0, each_taken V xs i a.1)

each_set : {A : Type 0} (V : A → Type 0) (xs : List A) (i : ℕ) (x : A) → Each V xs → V x → Each V (slice_set xs i x)
each_set V [] i x a v = tt
each_set V (y ∷ ys) zero x a v = (v, a.1)
each_set V (y ∷ ys) (suc i) x a v = (a.0, each_set V ys i x a.1 v)

long_taken : {A : Type 0} (xs : List A) (i : ℕ) → length (take i xs) ≤ length xs
long_taken [] zero = omega arith
long_taken [] (suc i) = omega arith
long_taken (x ∷ xs) zero = omega arith
long_taken (x ∷ xs) (suc i) = let l = long_taken xs i in omega (arith, l)

long_set : {A : Type 0} (xs : List A) (i : ℕ) (x : A) → length (slice_set xs i x) ≤ length xs
long_set [] i x = omega arith
long_set (y ∷ ys) zero x = omega arith
long_set (y ∷ ys) (suc i) x = let l = long_set ys i x in omega (arith, l)

levels_within : (at : ℕ) (level : Level) (x : Child) (levels : List Level) → length (levels_after at level x levels) ≤ length levels
levels_within at level child.None levels = long_taken levels at
levels_within at level (child.Other n children) levels = long_set levels at (after_child level (child.Other n children))
levels_within at level (child.Tested n children tested) levels = long_set levels at (after_child level (child.Tested n children tested))

levels_stand : (rules : List StripRule) (steps : List Step) (at : ℕ) (level : Level) (x : Child) (levels : List Level) → Each (IsLevel rules steps) levels
    → IsChild rules steps level x → Each (IsLevel rules steps) (levels_after at level x levels)
levels_stand rules steps at level child.None levels a k = each_taken (IsLevel rules steps) levels at a
levels_stand rules steps at level (child.Other n children) levels a k = each_set (IsLevel rules steps) levels at _ a k.level
levels_stand rules steps at level (child.Tested n children tested) levels a k = each_set (IsLevel rules steps) levels at _ a k.level

child_entered : (rules : List StripRule) (steps : List Step) (level : Level) (x : Child) → IsChild rules steps level x → IsEntered rules steps (entered_by x)
child_entered rules steps level child.None k = tt
child_entered rules steps level (child.Other n children) k = tt
child_entered rules steps level (child.Tested n children tested) k = k.entered

-- the innermost level came to a child
pub place_goes_on : (rules : List StripRule) (steps : List Step) (parts : List StepExpr) (at : ℕ) (level : Level) (x : Child) (old new : Place) → IsPlace rules steps parts old
    → old.entering ≡ None → slice_get old.levels at ≡ Some level → IsChild rules steps level x → IsWentOn at x old new
    → IsPlace rules steps parts new
place_goes_on rules steps parts at level x old new p n l k w = record {
  tests = w.tests ∙ p.tests;
  few = let e = ap length (w.levels level l) in let m = levels_within at level x old.levels in let f = p.few in omega (arith, e, m, f);
  levels = subst (Each (IsLevel rules steps)) (sym (w.levels level l)) (levels_stand rules steps at level x old.levels p.levels k);
  entering = subst (IsEntered rules steps) (sym (w.entering n)) (child_entered rules steps level x k);
}

pub left_moves_on : (lookups : Lookups) (rules : List StripRule) (steps : List Step) (parts : List StepExpr) (values : List Value) (c : Context) (at : ℕ) (part : StepExpr)
    (level : Level) (x : Child) (old new : Place) → old.entering ≡ None → suc at ≡ length old.levels → slice_get old.levels at ≡ Some level
    → slice_get parts at ≡ Some part → Follows lookups rules steps (meant_step part) level values c x → IsWentOn at x old new
    → (q : List Step) → Grows steps q → IsLawful q → left_at parts old (reading_by lookups rules q) values c ≡ left_at parts new (reading_by lookups rules q) values c
left_moves_on lookups rules steps parts values c at part level x old new n h l s f w q g d =
    let R = reading_by lookups rules q in
    ap (λ o. left_of (map meant_step parts) old.levels o R values c) n
    ∙ left_goes_on R values c (map meant_step parts) old.levels at (meant_step part) level x h l (map_get meant_step parts at part s) (f.left (inside_at R values c (map meant_step parts) at) q g d)
    ∙ ap (λ levels. left_of (map meant_step parts) levels (entered_by x) R values c) (sym (w.levels level l))
    ∙ ap (λ o. left_of (map meant_step parts) new.levels o R values c) (sym (w.entering n))

-- the children of a node that passed
pub place_enters : (rules : List StripRule) (steps : List Step) (parts : List StepExpr) (n : ℕ) (old new : Place) → IsPlace rules steps parts old → old.entering ≡ Some n
    → length old.levels < length parts → new ≡ record { tests = old.tests; levels = old.levels ++ fresh_level n ∷ []; entering = None }
    → IsPlace rules steps parts new
place_enters rules steps parts n old new p e l w =
    let there = subst (IsEntered rules steps) e p.entering in
    subst (IsPlace rules steps parts) (sym w) (record {
      tests = p.tests;
      few = let a = length-append old.levels (fresh_level n ∷ []) in omega (arith, a, l);
      levels = each_append (IsLevel rules steps) old.levels (fresh_level n ∷ []) p.levels (record { node = refl; joined = there.0; stands = tt; counts = tt }, tt);
      entering = tt;
    })

pub left_enters : (parts : List StepExpr) (n : ℕ) (old new : Place) (R : Reading) (values : List Value) (c : Context) → old.entering ≡ Some n → length old.levels < length parts
    → new ≡ record { tests = old.tests; levels = old.levels ++ fresh_level n ∷ []; entering = None }
    → left_at parts old R values c ≡ left_at parts new R values c
left_enters parts n old new R values c e l w =
    ap (λ o. left_of (map meant_step parts) old.levels o R values c) e
    ∙ left_enter R values c (map meant_step parts) old.levels n (let m = length-map parts meant_step in omega (arith, m, l))
    ∙ ap (λ (place : Place). left_at parts place R values c) (sym w)

-- an item
pub left_takes : (parts : List StepExpr) (n : ℕ) (place : Place) (R : Reading) (values : List Value) (c : Context) → place.entering ≡ Some n → length place.levels ≡ length parts
    → left_at parts place R values c ≡ then_stream (all_of (n ∷ [])) (left_of (map meant_step parts) place.levels None R values c)
left_takes parts n place R values c e l =
    ap (λ o. left_of (map meant_step parts) place.levels o R values c) e ∙ left_item R values c (map meant_step parts) place.levels n (let m = length-map parts meant_step in omega (arith, m, l))
