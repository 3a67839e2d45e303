use Rattle.std.proofs.Common.{rules, ℕ, ◌≡◌, ◌++◌, ◌∷◌, [], length, Some, sym, ap, ◌∙◌, subst, List}
use Rattle.std.specs.BTreeMap as tree
use Rattle.std.specs.Global.{Vec}
use Rattle.std.specs.Cmp.Lexicographic.{slice_cmp}
use Rattle.std.specs.Ordering.{nat_cmp}
use Rattle.name_pool.specs.Numbers.{Numbers, IsNew, text_number}
use Rattle.name_pool.proofs.Numbering.{Puts, numbers_push}
use Rattle.name_pool.proofs.Lookups.{puts_text}
use Rattle.name_pool.proofs.text_numbers.TextNumbers.add.Goals as goal

number_is : (c : goal.After-push_reserved) → c.in-Ok.number ≡ length c.self.inside.texts.items
number_is c = let ok = c.self.inside.texts.ok.0 in search rules

pushed : (c : goal.After-push_reserved) → c.push_reserved.new.self.items ≡ c.self.inside.texts.items ++ c.args.text.now ∷ []
pushed c = c.push_reserved.ensures.items ∙ ap (λ xs. xs ++ c.in_ok-copy.copy ∷ []) c.reserve.ensures.items ∙ ap (λ x. c.self.inside.texts.items ++ x ∷ []) c.in_ok-copy.ensures

pub invariant_of-self-2 : goal.invariant_of-self-2
invariant_of-self-2 c =
    let old : List (List ℕ) = c.self.inside.texts.items in
    let text : List ℕ = c.args.text.now in
    let before = c.self.inside.numbers in
    let after = c.insert.new.self in
    let key : Vec ℕ = c.in_ok-key.key in
    let update : tree.Updates (λ (x y : Vec ℕ). slice_cmp nat_cmp x.items y.items) before after key (Some (length old)) =
    subst (λ n. tree.Updates (λ (x y : Vec ℕ). slice_cmp nat_cmp x.items y.items) before after key (Some n)) (number_is c) c.in_ok-insert.ensures.updates in
    let puts = subst (λ y. Puts (text_number before) (text_number after) y (length old)) c.in_ok-key.ensures.items (puts_text before after key (length old) update) in
    let new = subst (λ xs. IsNew xs text) (sym c.self.view_is) c.requires in
    subst (λ xs. Numbers (text_number after) xs) (sym (pushed c)) (numbers_push (text_number before) (text_number after) old text c.self.invariant new puts)

pub returns-clause-number : goal.returns-clause-number
returns-clause-number c = subst (λ (xs : List (List ℕ)). c.in-Ok.number ≡ length xs) c.self.view_is (number_is c)

pub returns-clause-ok : goal.returns-clause-ok
returns-clause-ok c = pushed c ∙ ap (λ (xs : List (List ℕ)). xs ++ c.args.text.now ∷ []) c.self.view_is
