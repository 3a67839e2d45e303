-- The puts that a drawer over memory keeps one after another in one list of bytes.
use Rattle.std.specs.Prelude.{ℕ, ◌≤◌, List, map, slice_range}
use Rattle.edge.specs.declared.place.Place.{Place}

-- the name and the bytes of the put at this place
abbrev pub put_at : List ℕ → Place → List ℕ × List ℕ
put_at kept place = (slice_range kept place.start place.middle, slice_range kept place.middle place.end)

-- the puts at these places
abbrev pub puts_at : List ℕ → List Place → List (List ℕ × List ℕ)
puts_at kept places = map (put_at kept) places

-- a place lies in a list of this length
pub record IsPlaceIn (len : ℕ) (place : Place) : Type 0 where
  pub name_ends : place.start ≤ place.middle
  pub bytes_end : place.middle ≤ place.end
  pub inside : place.end ≤ len
