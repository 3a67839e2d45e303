-- The values of the attributes of an element.
use Rattle.std.specs.Prelude.{List, [], ◌∷◌, if◌then◌else◌, Option, None}
use Rattle.std.specs.Option.{option_or}
use Rattle.sheet_elements.specs.declared.tag.Word.{Word}
use Rattle.sheet_elements.specs.Names.{same_word}
use Rattle.sheet_reading.specs.declared.tree.Given.{Given}
use Rattle.sheet_values.specs.declared.value.Value.{Value}

-- the value of an attribute, where it is under this word and of a kind
abbrev pub given_value : {A : Type 0} → (Value → Option A) → Word → Given → Option A
given_value f w given = if same_word given.word w then f given.value else None

-- the first value under a word that is of a kind
abbrev pub first_value : {A : Type 0} → (Value → Option A) → Word → List Given → Option A
first_value f w [] = None
first_value f w (given ∷ more) = option_or (given_value f w given) (first_value f w more)
