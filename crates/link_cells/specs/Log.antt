-- Lists of sets: which word was set to which value, the oldest set first.
use Rattle.std.specs.Prelude.{◌≡◌, ◌≢◌, ℕ, ◌==◌, List, [], ◌∷◌, ◌++◌, if◌then◌else◌}
use Rattle.link_cells.specs.declared.entry.Entry.{Entry}

-- the set of one word to a value
abbrev pub put : ℕ → ℕ → Entry
put at value = record { at = at; value = value }

-- the value of a word after these sets, and 0 where none is of this word
abbrev pub value_at : ℕ → List Entry → ℕ
value_at at [] = 0
value_at at (e ∷ es) = if e.at == at then e.value else value_at at es

-- no set is of this word
abbrev pub IsUnset : ℕ → List Entry → Type 0
IsUnset at [] = Unit {0}
IsUnset at (e ∷ es) = (e.at ≢ at) × IsUnset at es

-- each set gives a value other than 0 to a word of which there is no other set
abbrev pub IsOnce : List Entry → Type 0
IsOnce [] = Unit {0}
IsOnce (e ∷ es) = (e.value ≢ 0) × IsUnset e.at es × IsOnce es

-- one set gives this word this value, and no other is of this word
abbrev pub IsTheSet : ℕ → ℕ → List Entry → Type 0
IsTheSet at value log =
    (before after : List Entry) × (log ≡ before ++ put at value ∷ after) × IsUnset at before × IsUnset at after
