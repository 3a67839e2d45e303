-- The turns that readers have among the feeds of a source: over the list of items alone.
use Rattle.std.specs.Prelude.{ℕ, zero, suc, ◌+◌, List, [], ◌∷◌, ◌++◌, Bool, true, false, nat_lt, if◌then◌else◌, map}
use Rattle.std.specs.List.{list_any, range_with_len}
use Rattle.cmd_words.specs.declared.item.Item.{Item}
use Rattle.cmd_words.specs.declared.item.Item.TheVariants.{Lines, Reader}

-- a turn of a reader, and how many result events it has made by its end
pub record Run : Type 0 where
  pub reader : ℕ
  pub made : ℕ

abbrev pub feeds : Item → Bool
feeds (Lines count) = true
feeds (Reader i) = false

-- the items so many times over
abbrev pub repeated : ℕ → List Item → List Item
repeated zero items = []
repeated (suc n) items = items ++ repeated n items

-- the items that are gone through, where the source ends with its feed `last`: a list that feeds begins again, which it can't more often than the source has feeds; any other is gone through once
abbrev pub passes : ℕ → List Item → List Item
passes last items = if list_any feeds items then repeated last items else items

-- the turns that these items give after so many feeds: an item comes only while the source's last feed is still to come, and what a reader has made is told by it and by the feeds before it
abbrev pub runs : (ℕ → ℕ → ℕ) → ℕ → ℕ → List Item → List Run
runs made last fed [] = []
runs made last fed (Lines count ∷ items) = runs made last (fed + count) items
runs made last fed (Reader i ∷ items) =
    (if nat_lt fed last then record { reader = i; made = made i fed } ∷ [] else []) ++ runs made last fed items

-- one more turn of each reader in order, which has made what this tells of it
abbrev pub last_runs : ℕ → (ℕ → ℕ) → List Run
last_runs readers made = map (λ i. record { reader = i; made = made i }) (range_with_len 0 readers)

-- how many lines these items ask for
abbrev pub total : List Item → ℕ
total [] = 0
total (Lines count ∷ items) = count + total items
total (Reader i ∷ items) = total items
