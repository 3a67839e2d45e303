-- Expanded names, and lists of them without repeats (XML Namespaces, section 2.1).
use Rattle.std.specs.Prelude.{ℕ, List, [], ◌∷◌, ◌++◌, Bool, ◌&&◌, if◌then◌else◌, Option, Some, None, position, unwrap_or}
use Rattle.std.specs.List.{list_any}
use Rattle.std.specs.Str.{bytes_eq}
use Rattle.xpath_syntax.specs.declared.expression.NameRef.{NameRef}

pub record Name : Type 0 where
  pub local : List ℕ
  pub uri : List ℕ

-- the expanded name of a bound name
abbrev pub expanded : NameRef → Name
expanded name = record { local = name.local; uri = unwrap_or name.uri [] }

abbrev pub same_name : Name → Name → Bool
same_name x y = bytes_eq x.local y.local && bytes_eq x.uri y.uri

-- the place of a name, counted from 0
abbrev pub place_of : List Name → Name → Option ℕ
place_of names x = position (same_name x) names

-- with a name at the end, unless it is there
abbrev pub with_name : List Name → Name → List Name
with_name names x = if list_any (same_name x) names then names else names ++ x ∷ []

-- with the name that there may be
abbrev pub with_some : List Name → Option NameRef → List Name
with_some names None = names
with_some names (Some name) = with_name names (expanded name)
