-- Top-level nodes from the left.
use Rattle.std.proofs.Common.{◌≡◌, refl, sym, ap, ◌∙◌, append_assoc, Bool, ℕ, ◌+◌, ◌<◌, ◌≤◌, List, ◌∷◌, ◌++◌, length, get_or, drop, Option, Some, None}
use Rattle.std.specs.Option.{option_or}
use Rattle.std.proofs.lemmas.List.{append-nil, at_drop_more, at_drop_all}
use Rattle.sheet_ast.specs.declared.sheet.Rule.{Rule}
use Rattle.sheet_names.specs.declared.declaring.Names.{Names}
use Rattle.sheet_reading.specs.declared.tree.Item.{Item}
use Rattle.sheet_making.specs.Sheets.{by_element, last_method, method_in, place_behind, rules_at, rules_from}

or_or : {A : Type 0} (a b c : Option A) → option_or (option_or a b) c ≡ option_or a (option_or b c)
or_or None b c = refl
or_or (Some x) b c = refl

-- the method of one node more
pub method_goes_on : (items : List Item) (i : ℕ) (x : Item) (last later whole : Option Bool) → i < length items → x ≡ get_or items i x
    → whole ≡ option_or (last_method (drop i items)) last → later ≡ option_or (method_in x) last → whole ≡ option_or (last_method (drop (i + 1) items)) later
method_goes_on items i x last later whole within is left added =
    left
    ∙ ap (λ (m : Option Bool). option_or m last) (at_drop_more last_method items i x within ∙ ap (λ (y : Item). last_method (y ∷ drop (i + 1) items)) (sym is))
    ∙ or_or (last_method (drop (i + 1) items)) (method_in x) last ∙ ap (option_or (last_method (drop (i + 1) items))) (sym added)

pub method_ends : (items : List Item) (i : ℕ) (last whole : Option Bool) → length items ≤ i → whole ≡ option_or (last_method (drop i items)) last → last ≡ whole
method_ends items i last whole past left = sym (left ∙ ap (λ (m : Option Bool). option_or m last) (at_drop_all last_method items i past))

-- the rules of one node more
pub rules_go_on : (names : Names) (streams : Bool) (items : List Item) (i : ℕ) (x : Item) (place next : ℕ) (all more whole : List Rule) → i < length items → x ≡ get_or items i x
    → whole ≡ all ++ rules_from names streams place (drop i items) → more ≡ all ++ by_element (rules_at names streams place) x → next ≡ place_behind place x
    → whole ≡ more ++ rules_from names streams next (drop (i + 1) items)
rules_go_on names streams items i x place next all more whole within is left added stepped =
    left
    ∙ ap (λ (rules : List Rule). all ++ rules)
    (at_drop_more (rules_from names streams place) items i x within ∙ ap (λ (y : Item). rules_from names streams place (y ∷ drop (i + 1) items)) (sym is))
    ∙ sym (append_assoc all (by_element (rules_at names streams place) x) (rules_from names streams (place_behind place x) (drop (i + 1) items)))
    ∙ ap (λ (rules : List Rule). rules ++ rules_from names streams (place_behind place x) (drop (i + 1) items)) (sym added)
    ∙ ap (λ (k : ℕ). more ++ rules_from names streams k (drop (i + 1) items)) (sym stepped)

pub rules_end : (names : Names) (streams : Bool) (items : List Item) (i place : ℕ) (all whole : List Rule) → length items ≤ i → whole ≡ all ++ rules_from names streams place (drop i items)
    → all ≡ whole
rules_end names streams items i place all whole past left =
    sym (left ∙ ap (λ (rules : List Rule). all ++ rules) (at_drop_all (rules_from names streams place) items i past) ∙ append-nil all)
