-- A put that is added behind the others is told behind them, and leaves them as they were.
use Rattle.std.proofs.Common.{◌≡◌, ◌-◌, ◌≤◌, ◌<◌, ℕ, List, [], ◌∷◌, ◌++◌, length, drop, map, refl, arith, append_assoc, length-append, length-drop, All, get_or, Some}
use Rattle.std.proofs.lemmas.List.{take-append-le, drop-append-le, map-append, length-map}
use Rattle.std.proofs.lemmas.List.Elements.{All-tail}
use Rattle.std.proofs.Math.Seq.{drop-append_seam, take-length}
use Rattle.std.proofs.lemmas.Option.{slice_get-map, slice_get_read}
use Rattle.std.specs.Prelude.{slice_range, slice_get}
use Rattle.edge.specs.Places.{put_at, puts_at, IsPlaceIn}
use Rattle.edge.specs.declared.place.Place.{Place}

-- a range of a list is not changed by what is appended
slice_range-append : (xs more : List ℕ) (i j : ℕ) → i ≤ j → j ≤ length xs → slice_range (xs ++ more) i j ≡ slice_range xs i j
slice_range-append xs more i j le within =
    let start : i ≤ length xs = omega arith in
    let long : j - i ≤ length (drop i xs) = omega (arith, length-drop i xs) in
    rw (drop-append-le i xs more start) (take-append-le (j - i) (drop i xs) more long)

put_at-append : (kept more : List ℕ) (place : Place) → IsPlaceIn (length kept) place → put_at (kept ++ more) place ≡ put_at kept place
put_at-append kept more place is =
    let within : place.middle ≤ length kept = omega arith in
    rw (
      slice_range-append kept more place.start place.middle is.name_ends within,
      slice_range-append kept more place.middle place.end is.bytes_end is.inside,
    ) refl

puts_at-append : (kept more : List ℕ) (places : List Place) → All (IsPlaceIn (length kept)) places → puts_at (kept ++ more) places ≡ puts_at kept places
puts_at-append kept more [] all = refl
puts_at-append kept more (place ∷ places) all =
    let first : IsPlaceIn (length kept) place = all 0 place (omega arith) in
    rw (put_at-append kept more place first, puts_at-append kept more places (All-tail (IsPlaceIn (length kept)) place places all)) refl

-- what stands at the new place
put_at-new : (kept name bytes : List ℕ) (place : Place) → place.start ≡ length kept → place.middle ≡ length (kept ++ name) →
    place.end ≡ length ((kept ++ name) ++ bytes) → put_at ((kept ++ name) ++ bytes) place ≡ (name, bytes)
put_at-new kept name bytes place start middle end =
    let in_name : place.middle ≤ length (kept ++ name) = omega arith in
    let le : place.start ≤ place.middle = omega (arith, length-append kept name) in
    let name_len : place.middle - place.start ≡ length name = omega (arith, length-append kept name) in
    let bytes_len : place.end - place.middle ≡ length bytes = omega (arith, length-append (kept ++ name) bytes) in
    let first : slice_range ((kept ++ name) ++ bytes) place.start place.middle ≡ name =
    rw (slice_range-append (kept ++ name) bytes place.start place.middle le in_name, name_len, start, drop-append_seam kept name) (take-length name) in
    let second : slice_range ((kept ++ name) ++ bytes) place.middle place.end ≡ bytes =
    rw (bytes_len, middle, drop-append_seam (kept ++ name) bytes) (take-length bytes) in
    rw (first, second) refl

-- the puts after one more
pub puts_at-add : (kept name bytes : List ℕ) (places : List Place) (place : Place) → All (IsPlaceIn (length kept)) places →
    place.start ≡ length kept → place.middle ≡ length (kept ++ name) → place.end ≡ length ((kept ++ name) ++ bytes) →
    puts_at ((kept ++ name) ++ bytes) (places ++ place ∷ []) ≡ puts_at kept places ++ (name, bytes) ∷ []
puts_at-add kept name bytes places place all start middle end =
    let before : puts_at ((kept ++ name) ++ bytes) places ≡ puts_at kept places =
    rw (append_assoc kept name bytes) (puts_at-append kept (name ++ bytes) places all) in
    rw (map-append (put_at ((kept ++ name) ++ bytes)) places (place ∷ []), before, put_at-new kept name bytes place start middle end) refl

-- the name of a put, and its bytes
pub name_at : (kept : List ℕ) (places : List Place) (i : ℕ) (place : Place) → i < length (puts_at kept places) → place ≡ get_or places i place →
    slice_get (map (λ (put : List ℕ × List ℕ). put.0) (puts_at kept places)) i ≡ Some (slice_range kept place.start place.middle)
name_at kept places i place inside is =
    let within : i < length places = rw length-map at inside in
    rw (slice_get-map, slice_get-map, slice_get_read places (length places) i place refl within is) refl

pub bytes_at : (kept : List ℕ) (places : List Place) (i : ℕ) (place : Place) → i < length (puts_at kept places) → place ≡ get_or places i place →
    slice_get (map (λ (put : List ℕ × List ℕ). put.1) (puts_at kept places)) i ≡ Some (slice_range kept place.middle place.end)
bytes_at kept places i place inside is =
    let within : i < length places = rw length-map at inside in
    rw (slice_get-map, slice_get-map, slice_get_read places (length places) i place refl within is) refl
