-- The relations of the rows that are visible under strip rules; with no rules, those of all rows.
use Rattle.std.specs.Prelude.{ℕ, Bool, ◌&&◌, nat_lt, List, length, Option, Some, None, filter}
use Rattle.doc_model.specs.declared.row.Row.{Row}
use Rattle.doc_model.specs.declared.strip_rule.StripRule.{StripRule}
use Rattle.doc_model.specs.Relations.{numbers, first_of, last_of, is_child, sibling_parent}
use Rattle.doc_model.specs.Strip.{is_visible}

-- row k is a child of row n and is visible
abbrev pub is_shown : List StripRule → List Row → ℕ → ℕ → Bool
is_shown rules rows n k = is_visible rules rows k && is_child rows n k

-- the visible children of row n among the first rows
abbrev pub shown_below : List StripRule → List Row → ℕ → ℕ → List ℕ
shown_below rules rows n count = filter (is_shown rules rows n) (numbers 0 count)

abbrev pub shown_of : List StripRule → List Row → ℕ → List ℕ
shown_of rules rows n = shown_below rules rows n (length rows)

abbrev pub first_shown : List StripRule → List Row → ℕ → Option ℕ
first_shown rules rows n = first_of (shown_of rules rows n)

abbrev pub next_shown_in : List StripRule → List Row → ℕ → Option ℕ → Option ℕ
next_shown_in rules rows m None = None
next_shown_in rules rows m (Some n) = first_of (filter (nat_lt m) (shown_of rules rows n))

-- the first visible sibling after row m
abbrev pub next_shown : List StripRule → List Row → ℕ → Option ℕ
next_shown rules rows m = next_shown_in rules rows m (sibling_parent rows m)

abbrev pub prev_shown_in : List StripRule → List Row → ℕ → Option ℕ → Option ℕ
prev_shown_in rules rows m None = None
prev_shown_in rules rows m (Some n) = last_of (shown_below rules rows n m)

-- the last visible sibling before row m
abbrev pub prev_shown : List StripRule → List Row → ℕ → Option ℕ
prev_shown rules rows m = prev_shown_in rules rows m (sibling_parent rows m)
