-- What the seats at the table know, and how it changes.
use Rattle.std.specs.Prelude.{◌≡◌, true, false, List, []}
use Rattle.atomic_table.specs.Table.{Me}
use Rattle.link_cells.specs.declared.entry.Entry.{Entry}
use Rattle.link_cells.specs.declared.layout.Layout.{Layout}
use Rattle.link_cells.specs.declared.view.View.{View}
use Rattle.link_cells.specs.Log.{IsOnce}

-- the writer's view, when nothing was joined into it
abbrev pub writer_view : Layout → List Entry → View
writer_view layout log = record { live = true; writes = true; layout = layout; seen = log; met = [] }

-- a pass's view, when nothing was joined into it
abbrev pub pass_view : Layout → List Entry → View
pass_view layout log = record { live = true; writes = false; layout = layout; seen = log; met = [] }

-- what is left of a pass that was joined into another seat
abbrev pub spent_view : View
spent_view =
    let nothing : Layout = record { first = 0; second = 0; third = 0 } in
    record { live = false; writes = false; layout = nothing; seen = []; met = [] }

-- the same seat, which has now seen this list
abbrev pub has_seen : View → List Entry → View
has_seen v log = record { live = v.live; writes = v.writes; layout = v.layout; seen = log; met = v.met }

-- the same seat, which was told this list
abbrev pub has_met : View → List Entry → View
has_met v log = record { live = v.live; writes = v.writes; layout = v.layout; seen = v.seen; met = log }

-- a new pass that has seen what this seat has
abbrev pub pass_of : View → View
pass_of v = pass_view v.layout v.seen

-- the first seat is told what the second has seen
abbrev pub hears : View → View → View
hears v w = has_met v w.seen

-- the first seat has seen what the second has, in place of its own list
abbrev pub is_shown : View → View → View
is_shown v w = has_seen v w.seen

abbrev pub IsWriter : View → Type 0
IsWriter v = (v.live ≡ true) × (v.writes ≡ true)

abbrev pub IsPass : View → Type 0
IsPass v = (v.live ≡ true) × (v.writes ≡ false)

-- a seat holds no slot, as the table has none, no word of its list is set twice, and the list keeps the discipline
abbrev pub IsLawful : {S : Type 0} → (Layout → List Entry → Type 0) → Me S View → Type 0
IsLawful keeps me = (me.1 ≡ []) × IsOnce me.0.seen × keeps me.0.layout me.0.seen
