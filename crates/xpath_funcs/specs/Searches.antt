-- Where a text stands in another, and what stands before it and behind it (XPath 1.0, section 4.2).
use Rattle.std.specs.Prelude.{ℕ, ◌+◌, Bool, if◌then◌else◌, List, [], ◌∷◌, Option, Some, None, length, take, drop}
use Rattle.std.specs.Option.{is_some}
use Rattle.std.specs.Str.{bytes_eq}

-- a text begins with another
abbrev pub begins_with : List ℕ → List ℕ → Bool
begins_with text part = bytes_eq part (take (length part) text)

-- the first of the numbers from `at` on, for this text and its ends, at which the text that is left begins with the part
abbrev pub place_from : ℕ → List ℕ → List ℕ → Option ℕ
place_from at [] part = if begins_with [] part then Some at else None
place_from at (byte ∷ bytes) part = if begins_with (byte ∷ bytes) part then Some at else place_from (at + 1) bytes part

-- where the part stands first
abbrev pub place_of : List ℕ → List ℕ → Option ℕ
place_of text part = place_from 0 text part

abbrev pub contains : List ℕ → List ℕ → Bool
contains text part = is_some (place_of text part)

abbrev pub front_at : List ℕ → Option ℕ → List ℕ
front_at text None = []
front_at text (Some at) = take at text

abbrev pub rest_at : List ℕ → Option ℕ → List ℕ
rest_at text None = []
rest_at text (Some at) = drop at text

-- what stands before the first occurrence of the part, and nothing if there is none
abbrev pub before : List ℕ → List ℕ → List ℕ
before text part = front_at text (place_of text part)

-- what stands behind it, and nothing if there is none
abbrev pub after : List ℕ → List ℕ → List ℕ
after text part = drop (length part) (rest_at text (place_of text part))
