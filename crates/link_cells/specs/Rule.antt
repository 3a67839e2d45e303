-- The rule that holds between any two atomic steps.
use Rattle.std.specs.Prelude.{◌≡◌, ℕ, ◌<◌, true, List, length, slice_index}
use mathlib.Core.Option.{some}
use mathlib.Core.List.{IsPrefix}
use lib.ListN.{get_elem?}
use Rattle.atomic_table.specs.Table.{State}
use Rattle.link_cells.specs.declared.entry.Entry.{Entry}
use Rattle.link_cells.specs.declared.layout.Layout.{Layout}
use Rattle.link_cells.specs.declared.plan.Plan.{Plan}
use Rattle.link_cells.specs.declared.view.View.{View}
use Rattle.link_cells.specs.Log.{value_at, IsOnce}
use Rattle.link_cells.specs.Views.{IsWriter}

-- What a live seat knows, beside the log: the list that it has seen and the one that it was told are beginnings of the
-- log, its layout is the one of the cells, and if it writes it is the writer's seat and has seen the whole log
pub record Fits (log : List Entry) (layout : Layout) (writer id : ℕ) (v : View) : Type 0 where
  pub seen : IsPrefix v.seen log
  pub met : IsPrefix v.met log
  pub laid : v.layout ≡ layout
  pub one : v.writes ≡ true → id ≡ writer
  pub whole : v.writes ≡ true → v.seen ≡ log

-- Each live seat fits the log, and the seat `writer` is live and writes. Nothing is said of a spent seat
pub record Seated (log : List Entry) (layout : Layout) (writer : ℕ) (views : List View) : Type 0 where
  pub each : (id : ℕ) (v : View) → get_elem? views id ≡ some v → v.live ≡ true → Fits log layout writer id v
  pub pen : (w : View) × (get_elem? views writer ≡ some w) × IsWriter w

-- The rule: each word is its value in the log, or 0 where the log has no set of it; no word is set twice; the log keeps
-- the discipline; the live seats fit the log
pub record Kept {S : Type 0} (keeps : Layout → List Entry → Type 0) (plan : Plan) (s : State S View) : Type 0 where
  pub log : List Entry
  pub writer : ℕ
  pub wide : length s.words ≡ plan.words
  pub words : (at : ℕ) → at < plan.words → slice_index s.words at ≡ value_at at log
  pub once : IsOnce log
  pub lawful : keeps plan.layout log
  pub seats : Seated log plan.layout writer s.views
