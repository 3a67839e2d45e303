-- The lines that have been taken, as they stand in what is kept of them.
use Rattle.std.specs.Prelude.{◌≡◌, ℕ, ◌+◌, ◌≤◌, List, length, count_by, reverse, slice_get, drop, Option, Some, None}
use Rattle.doc_model.specs.declared.limits.Limits.{Limits}
use Rattle.pyx_lines.specs.declared.line.Line.{Line}
use Rattle.xml_names.specs.declared.scopes.Binding.{Binding}
use Rattle.xml_names.specs.Bindings.{all_bindings, bound_in}
use Rattle.pyx_events.specs.declared.nesting.Nesting.{Nesting}
use Rattle.pyx_events.specs.Before.{innermost, is_start, is_end, bindings, uris_to, has_root, row_count, value_bytes}

-- the scopes with one more binding, if there is one
abbrev pub with_binding : Option Binding → List (List Binding) → List (List Binding)
with_binding None scopes = scopes
with_binding (Some binding) scopes = bound_in scopes binding

-- the open elements, the scopes and the counts are those after these lines, of which none had a flaw
pub record IsNested (given : Limits) (nesting : Nesting) (before : List Line) : Type 0 where
  pub limits : nesting.limits ≡ given
  pub names : (k : ℕ) → innermost k before ≡ slice_get (reverse nesting.open_names) k
  pub deep : length nesting.open_names + count_by is_end before ≡ count_by is_start before
  pub shallow : length nesting.open_names ≤ 1000
  pub bound : (k : ℕ) → bindings k before ≡ all_bindings (drop k nesting.scopes.scopes)
  pub uris : nesting.scopes.uris ≡ uris_to before
  pub scoped : length nesting.scopes.scopes ≡ length nesting.open_names + 1
  pub rooted : nesting.rooted ≡ has_root before
  pub lines : nesting.lines ≡ length before
  pub rows : nesting.rows ≡ row_count before
  pub room : nesting.rows ≤ nesting.limits.rows
  pub bytes : nesting.bytes ≡ value_bytes before
  pub space : nesting.bytes ≤ nesting.limits.text
