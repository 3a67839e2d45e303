-- The relations of rows, by kinds and depths alone.
use Rattle.std.specs.Prelude.{ℕ, zero, suc, ◌+◌, Bool, false, not, ◌&&◌, ◌==◌, nat_lt, if◌then◌else◌, List, [], ◌∷◌, length, Option, Some, None, filter, take, drop}
use Rattle.doc_model.specs.declared.row.Row.{Row}
use Rattle.doc_model.specs.Document.{is_attribute, is_parent}
use Rattle.doc_model.specs.Rows.{row_at}

-- so many numbers from a
abbrev pub numbers : ℕ → ℕ → List ℕ
numbers a zero = []
numbers a (suc count) = a ∷ numbers (suc a) count

abbrev pub first_of : List ℕ → Option ℕ
first_of [] = None
first_of (n ∷ ns) = Some n

abbrev pub last_from : ℕ → List ℕ → ℕ
last_from n [] = n
last_from n (m ∷ ms) = last_from m ms

abbrev pub last_of : List ℕ → Option ℕ
last_of [] = None
last_of (n ∷ ns) = Some (last_from n ns)

-- whether the row can be the parent of a row of this depth: an element or the root of depth one less
abbrev pub is_above : ℕ → Row → Bool
is_above depth row = is_parent row.kind && (suc row.depth == depth)

-- the last of the rows, which are numbered from n, that can be the parent of a row of this depth; else what was found before
abbrev pub last_above_from : ℕ → ℕ → List Row → Option ℕ → Option ℕ
last_above_from depth n [] found = found
last_above_from depth n (row ∷ rows) found = last_above_from depth (suc n) rows (if is_above depth row then Some n else found)

-- the parent of row m: the greatest earlier element or root of depth one less
abbrev pub parent_of : List Row → ℕ → Option ℕ
parent_of rows m = last_above_from (row_at rows m).depth 0 (take m rows) None

abbrev pub is_some_of : Option ℕ → ℕ → Bool
is_some_of None n = false
is_some_of (Some m) n = m == n

-- row k is a child of row n: no attribute, and n is its parent
abbrev pub is_child : List Row → ℕ → ℕ → Bool
is_child rows n k = not (is_attribute (row_at rows k).kind) && is_some_of (parent_of rows k) n

-- the children of row n among the first rows
abbrev pub children_below : List Row → ℕ → ℕ → List ℕ
children_below rows n count = filter (is_child rows n) (numbers 0 count)

abbrev pub children_of : List Row → ℕ → List ℕ
children_of rows n = children_below rows n (length rows)

abbrev pub first_child : List Row → ℕ → Option ℕ
first_child rows n = first_of (children_of rows n)

-- the row whose children are the siblings of row m: its parent. The root and attributes have no siblings
abbrev pub sibling_parent : List Row → ℕ → Option ℕ
sibling_parent rows m = if is_attribute (row_at rows m).kind then None else parent_of rows m

abbrev pub next_among : List Row → ℕ → Option ℕ → Option ℕ
next_among rows m None = None
next_among rows m (Some n) = first_of (filter (nat_lt m) (children_of rows n))

-- the first sibling after row m
abbrev pub next_sibling : List Row → ℕ → Option ℕ
next_sibling rows m = next_among rows m (sibling_parent rows m)

-- how many rows at the front are deeper
abbrev pub deeper : ℕ → List Row → ℕ
deeper depth [] = 0
deeper depth (row ∷ rows) = if nat_lt depth row.depth then suc (deeper depth rows) else 0

-- the extent of row n: 1 plus the greatest row number in its subtree, which is the run of deeper rows after it
abbrev pub extent_of : List Row → ℕ → ℕ
extent_of rows n = suc n + deeper (row_at rows n).depth (drop (suc n) rows)

-- how many rows at the front are attributes
abbrev pub attribute_run : List Row → ℕ
attribute_run [] = 0
attribute_run (row ∷ rows) = if is_attribute row.kind then suc (attribute_run rows) else 0

-- the number of attributes of row n, which are the rows right after it
abbrev pub attr_count_of : List Row → ℕ → ℕ
attr_count_of rows n = if is_attribute (row_at rows n).kind then 0 else attribute_run (drop (suc n) rows)
