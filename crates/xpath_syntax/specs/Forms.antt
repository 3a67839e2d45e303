-- Which bytes are a token (XPath 1.0, 3.7), apart from where they stand.
use Rattle.std.specs.Prelude.{◌≡◌, ℕ, ◌<◌, ◌==◌, ◌||◌, not, Bool, true, List, [], ◌∷◌, ◌++◌, length, codes}
use Rattle.std.specs.Char.{is_ascii_digit}
use Rattle.std.specs.List.{list_all, list_any}
use Rattle.name_grammar.specs.Names.{is_ncname, IsName}
use Rattle.xpath_syntax.specs.declared.form.Form.{Form}
use Rattle.xpath_syntax.specs.declared.form.Form.TheVariants as form

-- one of the bytes
abbrev pub is_one_of : List ℕ → ℕ → Bool
is_one_of bytes b = list_any (λ c. b == c) bytes

-- space, tab, CR, LF
abbrev pub is_space : ℕ → Bool
is_space b = b == 32 || b == 9 || b == 13 || b == 10

-- these bytes are a token of this form
pub data Spells : Form → List ℕ → Type 0 where
  -- a text without `"` in `"`, or without `'` in `'`
  double_quoted : (text : List ℕ) → list_all (λ b. not (b == 34)) text ≡ true → Spells form.Literal (34 ∷ (text ++ 34 ∷ []))
  single_quoted : (text : List ℕ) → list_all (λ b. not (b == 39)) text ≡ true → Spells form.Literal (39 ∷ (text ++ 39 ∷ []))
  -- digits; digits, `.` and perhaps digits; `.` and digits
  digits : (whole : List ℕ) → 0 < length whole → list_all is_ascii_digit whole ≡ true → Spells form.Number whole
  digits_point : (whole fraction : List ℕ) → 0 < length whole → list_all is_ascii_digit whole ≡ true → list_all is_ascii_digit fraction ≡ true → Spells form.Number (whole ++ 46 ∷ fraction)
  point_digits : (fraction : List ℕ) → 0 < length fraction → list_all is_ascii_digit fraction ≡ true → Spells form.Number (46 ∷ fraction)
  -- a name; `prefix:*`; `*`; `$` and a name
  name : (bytes : List ℕ) → IsName bytes → Spells form.Name bytes
  in_prefix : (prefix : List ℕ) → is_ncname prefix ≡ true → Spells form.InPrefix (prefix ++ 58 ∷ 42 ∷ [])
  star : Spells form.Star (codes "*")
  variable : (bytes : List ℕ) → IsName bytes → Spells form.Variable (36 ∷ bytes)
  -- `/`, `|`, `+`, `-`, `=`, `<`, `>`; `//`; `!=`, `<=`, `>=`
  sign : (b : ℕ) → is_one_of (codes "/|+-=<>") b ≡ true → Spells form.Operator (b ∷ [])
  slashes : Spells form.Operator (codes "//")
  with_equal : (b : ℕ) → is_one_of (codes "!<>") b ≡ true → Spells form.Operator (b ∷ 61 ∷ [])
  -- `(`, `[`, `@`, `,`; `::`
  opening : (b : ℕ) → is_one_of (codes "([@,") b ≡ true → Spells form.Opening (b ∷ [])
  colons : Spells form.Opening (codes "::")
  -- `)`, `]`, `.`; `..`
  closing : (b : ℕ) → is_one_of (codes ")].") b ≡ true → Spells form.Closing (b ∷ [])
  points : Spells form.Closing (codes "..")
