-- Priorities of templates (XSLT 1.0, section 5.5), in hundredths.
use Rattle.std.specs.Prelude.{ℕ, ℤ, pos, ◌+◌, ◌*◌, ◌-◌, List, [], ◌∷◌, ◌++◌, Bool, ◌&&◌, ◌==◌, not, nat_le, if◌then◌else◌, length, take, drop, position, Option, Some, None, option_map}
use Rattle.std.specs.Prelude.{neg_ℤ}
use Rattle.std.specs.List.{list_all}

abbrev pub is_digit : ℕ → Bool
is_digit b = nat_le 48 b && nat_le b 57

-- the number of digits that stand behind those of another number
abbrev pub number_behind : ℕ → List ℕ → ℕ
number_behind n [] = n
number_behind n (d ∷ ds) = number_behind (10 * n + (d - 48)) ds

-- at most two digits behind a point, as two
abbrev pub padded : List ℕ → List ℕ
padded [] = 48 ∷ 48 ∷ []
padded (a ∷ []) = a ∷ 48 ∷ []
padded (a ∷ b ∷ ds) = a ∷ b ∷ []

-- digits, at most two of them behind the point, and not none
abbrev pub is_magnitude : List ℕ → List ℕ → Bool
is_magnitude whole fraction =
    list_all is_digit whole && list_all is_digit fraction && nat_le (length fraction) 2 && not (length whole == 0 && length fraction == 0)

-- a magnitude of at most 1,000,000
abbrev pub within : ℕ → Option ℕ
within n = if nat_le n 100000000 then Some n else None

abbrev pub hundredths : List ℕ → List ℕ → Option ℕ
hundredths whole fraction = if is_magnitude whole fraction then within (number_behind 0 (whole ++ padded fraction)) else None

-- the first point, what stands before it or else the whole text, and what stands behind it or else nothing
abbrev pub point_in : List ℕ → Option ℕ
point_in text = position (λ b. b == 46) text

abbrev pub whole_part : List ℕ → List ℕ
whole_part text = before (point_in text)
  where
    before : Option ℕ → List ℕ
    before None = text
    before (Some k) = take k text

abbrev pub fraction_part : List ℕ → List ℕ
fraction_part text = behind (point_in text)
  where
    behind : Option ℕ → List ℕ
    behind None = []
    behind (Some k) = drop (k + 1) text

abbrev pub magnitude : List ℕ → Option ℕ
magnitude text = hundredths (whole_part text) (fraction_part text)

abbrev pub positive : List ℕ → Option ℤ
positive text = option_map (λ n. pos n) (magnitude text)

abbrev pub negative : List ℕ → Option ℤ
negative text = option_map (λ n. neg_ℤ (pos n)) (magnitude text)

-- the hundredths of a priority, which a `-` may begin
abbrev pub hundredths_of : List ℕ → Option ℤ
hundredths_of [] = positive []
hundredths_of (b ∷ text) = if b == 45 then negative text else positive (b ∷ text)
