-- What the steps tell the seat that makes them.
use Rattle.std.specs.Prelude.{◌≡◌, ℕ, List, [], ◌∷◌, ◌++◌}
use mathlib.Core.List.{IsPrefix}
use Rattle.atomic_table.specs.Table.{Me, Step}
use Rattle.link_cells.specs.declared.entry.Entry.{Entry}
use Rattle.link_cells.specs.declared.layout.Layout.{Layout}
use Rattle.link_cells.specs.declared.view.View.{View}
use Rattle.link_cells.specs.Log.{put, value_at, IsOnce}
use Rattle.link_cells.specs.Views.{has_seen, has_met}

module _ {S : Type 0} where
  -- a set: the log is one set longer, and no word of it is set twice
  abbrev pub Sets : Step S → Me S View → ℕ → Me S View → Type 0
  Sets st m n m' = (m' ≡ (has_seen m.0 (m.0.seen ++ put st.word st.first ∷ []), m.1)) × IsOnce m'.0.seen

  -- a get: what is seen afterwards goes on from what was seen before, the number found is the word's value in it,
  -- no word of it is set twice, and it keeps the discipline
  abbrev pub Gets : (Layout → List Entry → Type 0) → Step S → Me S View → ℕ → Me S View → Type 0
  Gets keeps st m n m' =
      (m' ≡ (has_seen m.0 m'.0.seen, m.1))
      × IsPrefix m.0.seen m'.0.seen
      × (n ≡ value_at st.word m'.0.seen)
      × IsOnce m'.0.seen
      × keeps m.0.layout m'.0.seen

  -- the writer's load after a join: what it was told is a beginning of what it has seen
  abbrev pub Meets : Step S → Me S View → ℕ → Me S View → Type 0
  Meets st m n m' = (m' ≡ (has_met m.0 [], m.1)) × IsPrefix m.0.met m.0.seen
