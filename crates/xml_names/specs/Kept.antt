-- What is kept of the scopes: all bindings in one list, where each scope begins, and an index of the prefixes.
use Rattle.std.specs.Prelude.{◌≡◌, ℕ, ◌<◌, ◌≤◌, false, List, [], ◌∷◌, Option, Some, None, if◌then◌else◌, length, reverse, map, take, drop, slice_get}
use Rattle.std.specs.Str.{bytes_eq}
use Rattle.std.specs.Ordering.{nat_cmp}
use Rattle.std.specs.Cmp.Lexicographic.{slice_cmp}
use Rattle.std.specs.BTreeMap.{BTreeMap, get_by}
use Rattle.std.specs.declared.vec.Vec.{Vec}
use Rattle.std.specs.declared.alloc.Global.{Global}
use Rattle.xml_names.specs.Bindings.{xml_binding, is_fixed}
use Rattle.xml_names.specs.declared.scopes.Binding.{Binding}
use Rattle.xml_names.specs.declared.index.Declaration.{Declaration}

abbrev pub Latest : Type 0
Latest = BTreeMap (Vec ℕ Global) ℕ

-- the scopes, by where each but the outermost begins in the bindings, the innermost first
abbrev pub scopes_of : List ℕ → List Binding → List (List Binding)
scopes_of [] bindings = reverse bindings ∷ []
scopes_of (start ∷ starts) bindings = reverse (drop start bindings) ∷ scopes_of starts (take start bindings)

-- the outermost scope has a binding, each scope begins no later than the next, and the innermost within so many bindings
abbrev pub AreStarts : List ℕ → ℕ → Type 0
AreStarts [] count = 0 < count
AreStarts (start ∷ starts) count = (start ≤ count) × AreStarts starts start

abbrev pub bindings_of : List Declaration → List Binding
bindings_of declarations = map (λ declaration. declaration.binding) declarations

-- where the latest binding of the prefix stands, with the latest declaration first
abbrev pub place_of : List ℕ → List Declaration → Option ℕ
place_of prefix [] = None
place_of prefix (declaration ∷ before) = if bytes_eq declaration.binding.prefix prefix then Some (length before) else place_of prefix before

-- each declaration knows the one of its prefix that it hides
abbrev pub AreLinked : List Declaration → Type 0
AreLinked [] = Unit {0}
AreLinked (declaration ∷ before) = (declaration.hidden ≡ place_of declaration.binding.prefix before) × AreLinked before

-- where the index finds the prefix
abbrev pub found : List ℕ → Latest → Option ℕ
found prefix latest = get_by (λ key. slice_cmp nat_cmp prefix key.items) latest

-- the index finds the latest binding of each prefix, and each declaration the one that it hides
pub record IsIndexed (declarations : List Declaration) (latest : Latest) : Type 0 where
  pub finds : (prefix : List ℕ) → found prefix latest ≡ place_of prefix (reverse declarations)
  pub linked : AreLinked (reverse declarations)

-- the first of the declarations binds `xml`, and no other binds it or `xmlns`, with the latest first
abbrev pub KeepsFixed : List Declaration → Type 0
KeepsFixed [] = ⊥
KeepsFixed (declaration ∷ []) = declaration.binding ≡ xml_binding
KeepsFixed (declaration ∷ earlier ∷ before) = (is_fixed declaration.binding.prefix ≡ false) × KeepsFixed (earlier ∷ before)

-- each declaration has the number of its URI
abbrev pub AreNumbered : List (List ℕ) → List Declaration → Type 0
AreNumbered uris [] = Unit {0}
AreNumbered uris (declaration ∷ declarations) = (slice_get uris declaration.number ≡ Some declaration.binding.uri) × AreNumbered uris declarations

-- what holds of all that is kept
pub record IsKept (starts : List ℕ) (declarations : List Declaration) (latest : Latest) (uris : List (List ℕ)) : Type 0 where
  pub nested : AreStarts starts (length declarations)
  pub indexed : IsIndexed declarations latest
  pub fixed : KeepsFixed (reverse declarations)
  pub empty : slice_get uris 0 ≡ Some []
  pub numbered : AreNumbered uris declarations
