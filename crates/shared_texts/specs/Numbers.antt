-- Lists whose items are numbered by their positions.
use Rattle.std.specs.Prelude.{◌≡◌, ◌≢◌, ◌↔◌, ℕ, suc, List, [], ◌∷◌, ◌++◌, Option, Some, if◌then◌else◌, slice_get}
use Rattle.std.specs.List.{list_any}
use Rattle.std.specs.Str.{bytes_eq}
use Rattle.std.specs.BTreeMap.{BTreeMap, get_by}
use Rattle.std.specs.Cmp.Lexicographic.{slice_cmp}
use Rattle.std.specs.Ordering.{nat_cmp}
use Rattle.std.specs.Global.{Vec}

module _ {X : Type 0} where
  -- the look-up answers each item's position, and nothing for what is no item; so no item is there twice
  abbrev pub Numbers : (X → Option ℕ) → List X → Type 0
  Numbers look xs = (x : X) (k : ℕ) → (look x ≡ Some k) ↔ (slice_get xs k ≡ Some x)

  -- no item of the list
  abbrev pub IsNew : List X → X → Type 0
  IsNew xs x = (k : ℕ) → slice_get xs k ≢ Some x

  -- no item stands at two positions
  abbrev pub NoRepeats : List X → Type 0
  NoRepeats xs = (x : X) (j k : ℕ) → slice_get xs j ≡ Some x → slice_get xs k ≡ Some x → j ≡ k

  -- each item of the first list stands at its position in the second
  abbrev pub Keeps : List X → List X → Type 0
  Keeps xs ys = (x : X) (k : ℕ) → slice_get xs k ≡ Some x → slice_get ys k ≡ Some x

-- what a map has at the bytes
abbrev pub text_number : BTreeMap (Vec ℕ) ℕ → List ℕ → Option ℕ
text_number m bytes = get_by (λ k. slice_cmp nat_cmp bytes k.items) m

-- the texts with this one, which stands at their end if it is new
abbrev pub with_text : List (List ℕ) → List ℕ → List (List ℕ)
with_text texts text = if list_any (bytes_eq text) texts then texts else texts ++ text ∷ []

-- the number of a text of these, its place
abbrev pub number_in : List (List ℕ) → List ℕ → ℕ
number_in [] text = 0
number_in (first ∷ texts) text = if bytes_eq text first then 0 else suc (number_in texts text)
