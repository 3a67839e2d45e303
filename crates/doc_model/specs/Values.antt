-- The string-values of nodes (XPath 1.0, section 5).
use Rattle.std.specs.Prelude.{ℕ, Bool, ◌&&◌, nat_lt, if◌then◌else◌, List, length, Option, Some, None, filter, flat_map}
use Rattle.doc_model.specs.declared.row.Row.{Row}
use Rattle.doc_model.specs.declared.step.Step.{Step}
use Rattle.doc_model.specs.declared.strip_rule.StripRule.{StripRule}
use Rattle.doc_model.specs.Answers.{Answer, once_shut, once_joined}
use Rattle.doc_model.specs.Document.{is_parent}
use Rattle.doc_model.specs.Relations.{numbers, extent_of}
use Rattle.doc_model.specs.Rows.{rows_of, row_at}
use Rattle.doc_model.specs.Strip.{is_text, is_visible}

-- row k is a text that the strip rules leave visible
abbrev pub is_shown_text : List StripRule → List Row → ℕ → Bool
is_shown_text rules rows k = is_visible rules rows k && is_text (row_at rows k).kind

-- row k is a visible text descendant of row n
abbrev pub is_text_below : List StripRule → List Row → ℕ → ℕ → Bool
is_text_below rules rows n k = is_shown_text rules rows k && (nat_lt n k && nat_lt k (extent_of rows n))

abbrev pub value_at : List Row → ℕ → List ℕ
value_at rows k = (row_at rows k).value

-- the values of the visible text descendants of row n, joined in document order
abbrev pub texts_below : List StripRule → List Row → ℕ → List ℕ
texts_below rules rows n = flat_map (value_at rows) (filter (is_text_below rules rows n) (numbers 0 (length rows)))

-- the string-value of row n: of the root or an element the joined texts, of another row its own value
abbrev pub value_in : List StripRule → List Row → ℕ → List ℕ
value_in rules rows n = if is_parent (row_at rows n).kind then texts_below rules rows n else value_at rows n

-- the row that must be shut before the string-value of row n is known
abbrev pub value_need : List Row → ℕ → Option ℕ
value_need rows n = if is_parent (row_at rows n).kind then Some n else None

-- the string-value of row n, once it is known
abbrev pub string_value_of : List StripRule → List Step → ℕ → Answer ⊥ (List ℕ)
string_value_of rules steps n = once_joined steps n (once_shut steps (value_need (rows_of steps) n) (value_in rules (rows_of steps) n))
