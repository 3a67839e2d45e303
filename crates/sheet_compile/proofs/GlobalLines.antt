-- The line of a global where nodes are passed over.
use Rattle.std.proofs.Common.{◌≡◌, refl, sym, ap, ◌∙◌, ℕ, zero, suc, ◌+◌, ◌-◌, ◌<◌, ◌≤◌, arith, List, ◌∷◌, length, get_or, drop, Option, Some, None}
use Rattle.std.specs.Prelude.{slice_get, unwrap_or}
use Rattle.std.specs.List.{cons_option}
use Rattle.std.proofs.lemmas.List.{at_drop_more, at_drop_all}
use Rattle.sheet_reading.specs.declared.tree.Item.{Item}
use Rattle.sheet_compile.specs.Lines.{line_of_global, line_of_item, lines_of_globals}

-- what is found where the first node gives this
with_first : Option ℕ → List Item → ℕ → ℕ
with_first first is place = unwrap_or (slice_get (cons_option first (lines_of_globals is)) place) 0

-- the first of the nodes that are left
at_next : (items : List Item) (i : ℕ) (x : Item) (first : Option ℕ) (place left : ℕ) → i < length items → x ≡ get_or items i x
    → line_of_global items place ≡ line_of_global (drop i items) left → line_of_item x ≡ first → line_of_global items place ≡ with_first first (drop (i + 1) items) left
unfolding with_first
at_next items i x first place left within is so_far gives =
    so_far ∙ at_drop_more (λ (xs : List Item). line_of_global xs left) items i x within ∙ ap (λ (y : Item). line_of_global (y ∷ drop (i + 1) items) left) (sym is)
    ∙ ap (λ (o : Option ℕ). unwrap_or (slice_get (cons_option o (lines_of_globals (drop (i + 1) items))) left) 0) gives

pub passes : (items : List Item) (i : ℕ) (x : Item) (place left : ℕ) → i < length items → x ≡ get_or items i x → line_of_global items place ≡ line_of_global (drop i items) left
    → line_of_item x ≡ None → line_of_global items place ≡ line_of_global (drop (i + 1) items) left
unfolding with_first
passes items i x place left within is so_far gives = at_next items i x None place left within is so_far gives

pub is_here : (items : List Item) (i : ℕ) (x : Item) (line place left : ℕ) → i < length items → x ≡ get_or items i x → line_of_global items place ≡ line_of_global (drop i items) left
    → line_of_item x ≡ Some line → left ≡ 0 → line ≡ line_of_global items place
unfolding with_first
is_here items i x line place left within is so_far gives none =
    sym (at_next items i x (Some line) place 0 within is (so_far ∙ ap (line_of_global (drop i items)) none) gives)

pub is_later : (items : List Item) (i : ℕ) (x : Item) (line place left next : ℕ) → i < length items → x ≡ get_or items i x
    → line_of_global items place ≡ line_of_global (drop i items) left → line_of_item x ≡ Some line → (left ≡ 0 → ⊥) → next ≡ left - 1
    → line_of_global items place ≡ line_of_global (drop (i + 1) items) next
unfolding with_first
is_later items i x line place zero next within is so_far gives some step = absurd (some refl)
is_later items i x line place (suc left) next within is so_far gives some step =
    let same : left ≡ next = omega arith in
    at_next items i x (Some line) place (suc left) within is so_far gives ∙ ap (line_of_global (drop (i + 1) items)) same

pub ends : (items : List Item) (i place left : ℕ) → length items ≤ i → line_of_global items place ≡ line_of_global (drop i items) left → 0 ≡ line_of_global items place
ends items i place left past so_far = sym (so_far ∙ at_drop_all (λ (xs : List Item). line_of_global xs left) items i past)
