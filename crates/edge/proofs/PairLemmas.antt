-- The first pair of a name, among pairs and among what they are as lists of bytes.
use Rattle.std.proofs.Common.{◌≡◌, ℕ, List, [], ◌∷◌, Bool, true, false, cond, map, refl, Some}
use Rattle.std.specs.Prelude.{find, option_map, bytes_eq, string_bytes, Option}
use Rattle.edge.specs.Outside.{first_named}
use Rattle.edge.specs.Pairs.{pair_of}
use Rattle.edge.specs.declared.pair.Pair.{Pair}

pub first_named-map : (name : List ℕ) (pairs : List Pair) →
    first_named name (map pair_of pairs) ≡ option_map (λ (pair : Pair). pair.bytes.items) (find (λ pair. bytes_eq name (string_bytes pair.name)) pairs)
first_named-map name [] = refl
first_named-map name (pair ∷ pairs) =
    elim (bytes_eq name (string_bytes pair.name)) as (λ (b : Bool).
    cond b (Some pair.bytes.items) (first_named name (map pair_of pairs))
    ≡ option_map (λ (pair : Pair). pair.bytes.items) (cond b (Some pair) (find (λ pair. bytes_eq name (string_bytes pair.name)) pairs))) [
      | true ↦ refl
      | false ↦ first_named-map name pairs
    ]

-- what a search of the pairs finds is what the shelf tells under that name
pub named : (name : List ℕ) (pairs : List Pair) (found : Option Pair) → found ≡ find (λ pair. bytes_eq name (string_bytes pair.name)) pairs →
    option_map (λ (pair : Pair). pair.bytes.items) found ≡ first_named name (map pair_of pairs)
named name pairs found is = rw (is, first_named-map name pairs) refl
