-- What is selected of a row that a walk comes to.
use Rattle.std.specs.Prelude.{◌≡◌, ℕ, ◌<◌, Bool, ◌&&◌, ◌==◌, if◌then◌else◌, List, [], ◌∷◌, length, Option, Some, None, slice_index}
use Rattle.std.specs.BTreeMap.{BTreeMap, get}
use Rattle.std.specs.Ordering.{nat_cmp}
use Rattle.doc_model.specs.declared.node_test.Test.{Test}
use Rattle.doc_model.specs.declared.row.Kind.TheVariants.{Element}
use Rattle.doc_model.specs.declared.row.Row.{Row}
use Rattle.doc_model.specs.declared.strip_rule.StripRule.{StripRule}
use Rattle.doc_model.specs.Axes.{is_node}
use Rattle.doc_model.specs.NodeTests.{meets}
use Rattle.doc_model.specs.Rows.{rows_of, row_at}
use Rattle.doc_model.specs.Strip.{is_visible}
use Rattle.doc_model.specs.View.{Seen}

-- whether the rows of a type meet a test, by the type's number
abbrev pub Judged : Type 0
Judged = BTreeMap ℕ Bool

abbrev pub judged_at : Judged → ℕ → Option Bool
judged_at types id = get nat_cmp types id

pub record KnowsNothing (types : Judged) : Type 0 where
  pub none : (id : ℕ) → judged_at types id ≡ None

-- one more type is judged
abbrev pub with_judged : Judged → ℕ → Bool → ℕ → Option Bool
with_judged types id passes k = if k == id then Some passes else judged_at types k

-- each type that is judged is that of some row, which meets the test or not as is said
pub record IsMet {M : Type 0} (seen : Seen M) (test : Row → Bool) (types : Judged) : Type 0 where
  pub row : (id : ℕ) (passes : Bool) → judged_at types id ≡ Some passes → (j : ℕ) × (j < length (rows_of seen.steps)) × (slice_index seen.types j ≡ id) × (test (row_at (rows_of seen.steps) j) ≡ passes)

-- row k alone, if it passes
abbrev pub only_if : Bool → ℕ → List ℕ
only_if passes k = if passes then k ∷ [] else []

-- row k is visible, meets the test on an axis of elements, and is no attribute
abbrev pub is_plain : List StripRule → List Row → Test → ℕ → Bool
is_plain rules rows test k = is_visible rules rows k && (meets Element test (row_at rows k) && is_node rows k)
