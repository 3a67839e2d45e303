-- A walk through child steps ends: what is left of it weighs less with each move.
use Rattle.std.proofs.Common.{◌≡◌, sym, subst, ℕ, zero, suc, ◌+◌, ◌-◌, ◌*◌, ◌^◌, ◌<◌, ◌≤◌, List, [], ◌∷◌, ◌++◌, length, arith, Option, Some, None}
use Rattle.std.proofs.lemmas.Nat.{mul-le}
use Rattle.std.specs.Prelude.{slice_get}
use Rattle.doc_model.specs.declared.step.Step.{Step}
use Rattle.doc_model.specs.declared.strip_rule.StripRule.{StripRule}
use Rattle.doc_model.specs.Lawful.{IsLawful}
use Rattle.doc_model.specs.Rows.{rows_of}
use Rattle.axis_walkers.specs.Streams.{StandsTo}
use Rattle.xpath_core.specs.declared.levels.Child.{Child}
use Rattle.xpath_core.specs.declared.levels.Child.TheVariants as child
use Rattle.xpath_core.specs.declared.levels.Level.{Level}
use Rattle.xpath_core.specs.Left.{most_of, fresh_level, after_child, entered_by, levels_after, IsLevel, IsLater, IsChild}

-- how many children a level may still come to, and one more
abbrev pub room : Level → ℕ
room level = (2 ^ 32 + 1) - most_of level.children.last

-- more than all that a level of one step may come to
abbrev pub power : ℕ → ℕ
power zero = 1
power (suc left) = (2 ^ 32 + 3) * power left

abbrev pub weight : ℕ → List Level → Option ℕ → ℕ
weight left [] None = 0
weight left [] (Some n) = (2 ^ 32 + 2) * power left
weight zero (level ∷ levels) entering = 0
weight (suc left) (level ∷ levels) entering = room level * power (suc left) + weight left levels entering

power_some : (left : ℕ) → 1 ≤ power left
power_some zero = omega arith
power_some (suc left) = let p = power_some left in let q = mul-le 1 1 (2 ^ 32 + 3) (power left) (omega arith) p in omega (arith, q)

pub weight_enters : (left : ℕ) (levels : List Level) (n : ℕ) → length levels < left → weight left (levels ++ fresh_level n ∷ []) None < weight left levels (Some n)
weight_enters zero levels n h = absurd (omega arith)
weight_enters (suc left) [] n h = let p = power_some (suc left) in omega (arith, p)
weight_enters (suc left) (level ∷ levels) n h = let r = weight_enters left levels n (omega arith) in omega (arith, r)

most_few : (rules : List StripRule) (steps : List Step) (n : ℕ) (last : Option ℕ) → IsLawful steps → StandsTo rules (rows_of steps) n last → most_of last ≤ 2 ^ 32
most_few rules steps n None l s = omega arith
most_few rules steps n (Some k) l s = let a = s.0 in let b = l.few in omega (arith, a, b)

-- a number of rows fewer, and what is entered
less : (a b p x : ℕ) → suc b ≤ a → x < p → b * p + x < a * p
less a b p x l h = let m = mul-le (suc b) p a p l (omega arith) in let e : suc b * p ≡ b * p + p = omega arith in omega (arith, m, e)

entered_weight : (left : ℕ) (entering : Option ℕ) → weight left [] entering < power (suc left)
entered_weight left None = power_some (suc left)
entered_weight left (Some n) = let p = power_some left in omega (arith, p)

pub weight_goes_on : (rules : List StripRule) (steps : List Step) (left : ℕ) (levels : List Level) (i : ℕ) (level : Level) (x : Child) → IsLawful steps → suc i ≡ length levels
    → length levels ≤ left → slice_get levels i ≡ Some level → IsLevel rules steps level → IsChild rules steps level x
    → weight left (levels_after i level x levels) (entered_by x) < weight left levels None
weight_goes_on rules steps left [] i level x w h f l s k = absurd (omega arith)
weight_goes_on rules steps zero (here ∷ levels) i level x w h f l s k = absurd (omega arith)
weight_goes_on rules steps (suc left) (here ∷ []) zero level x w h f l s k = one x k
  where
    same : here ≡ level
    same = let is : ◌≡◌ {A = Option Level} (Some here) (Some level) = l in cc

    few : most_of level.children.last ≤ 2 ^ 32
    few = most_few rules steps level.node level.children.last w s.stands

    moved : (new : Level) (entering : Option ℕ) → IsLater rules steps level new entering → weight (suc left) (new ∷ []) entering < room level * power (suc left)
    moved new entering k =
        let b = k.behind in
        let f = most_few rules steps new.node new.children.last w k.level.stands in
        less (room level) (room new) (power (suc left)) (weight left [] entering) (omega (arith, b, f, few)) (entered_weight left entering)

    one : (x : Child) → IsChild rules steps level x → weight (suc left) (levels_after zero level x (here ∷ [])) (entered_by x) < weight (suc left) (here ∷ []) None
    one child.None k = subst (λ z. 0 < room z * power (suc left) + 0) (sym same) (let r = less (room level) 0 (power (suc left)) 0 (omega (arith, few)) (power_some (suc left)) in omega (arith, r))
    one (child.Other n children) k =
        subst (λ z. room (after_child level (child.Other n children)) * power (suc left) + 0 < room z * power (suc left) + 0) (sym same) (let r = moved _ None k in omega (arith, r))
    one (child.Tested n children tested) k =
        subst (λ z. weight (suc left) (after_child level (child.Tested n children tested) ∷ []) (entered_by (child.Tested n children tested)) < room z * power (suc left) + 0)
        (sym same) (let r = moved _ (entered_by (child.Tested n children tested)) k in omega (arith, r))
weight_goes_on rules steps (suc left) (here ∷ []) (suc i) level x w h f l s k = absurd (omega arith)
weight_goes_on rules steps (suc left) (here ∷ next ∷ levels) zero level x w h f l s k = absurd (omega arith)
weight_goes_on rules steps (suc left) (here ∷ next ∷ levels) (suc i) level x w h f l s k = outer x (weight_goes_on rules steps left (next ∷ levels) i level x w (omega arith) (omega arith) l s k)
  where
    outer : (x : Child) → weight left (levels_after i level x (next ∷ levels)) (entered_by x) < weight left (next ∷ levels) None
        → weight (suc left) (levels_after (suc i) level x (here ∷ next ∷ levels)) (entered_by x) < weight (suc left) (here ∷ next ∷ levels) None
    outer child.None r = omega (arith, r)
    outer (child.Other n children) r = omega (arith, r)
    outer (child.Tested n children tested) r = omega (arith, r)
