-- The first value under a word, where attributes are passed over.
use Rattle.std.proofs.Common.{◌≡◌, sym, ap, ◌∙◌, ℕ, ◌+◌, ◌<◌, ◌≤◌, List, ◌∷◌, length, get_or, drop, Option, Some, None}
use Rattle.std.specs.Option.{option_or}
use Rattle.std.proofs.lemmas.List.{at_drop_more, at_drop_all}
use Rattle.sheet_elements.specs.declared.tag.Word.{Word}
use Rattle.sheet_reading.specs.declared.tree.Given.{Given}
use Rattle.sheet_values.specs.declared.value.Value.{Value}
use Rattle.sheet_names.specs.Values.{first_value, given_value}

-- the first of the attributes that are left
at_next : {A : Type 0} (f : Value → Option A) (w : Word) (given : List Given) (i : ℕ) (one : Given) (o : Option A) → i < length given → one ≡ get_or given i one
    → first_value f w given ≡ first_value f w (drop i given) → given_value f w one ≡ o → first_value f w given ≡ option_or o (first_value f w (drop (i + 1) given))
at_next {A} f w given i one o within is so_far gives =
    so_far ∙ at_drop_more (first_value f w) given i one within ∙ ap (λ (g : Given). first_value f w (g ∷ drop (i + 1) given)) (sym is)
    ∙ ap (λ (p : Option A). option_or p (first_value f w (drop (i + 1) given))) gives

pub is_first : {A : Type 0} (f : Value → Option A) (w : Word) (given : List Given) (i : ℕ) (one : Given) (x : A) → i < length given → one ≡ get_or given i one
    → first_value f w given ≡ first_value f w (drop i given) → given_value f w one ≡ Some x → Some x ≡ first_value f w given
is_first f w given i one x within is so_far gives = sym (at_next f w given i one (Some x) within is so_far gives)

pub passes : {A : Type 0} (f : Value → Option A) (w : Word) (given : List Given) (i : ℕ) (one : Given) → i < length given → one ≡ get_or given i one
    → first_value f w given ≡ first_value f w (drop i given) → given_value f w one ≡ None → first_value f w given ≡ first_value f w (drop (i + 1) given)
passes f w given i one within is so_far gives = at_next f w given i one None within is so_far gives

pub none_is : {A : Type 0} (f : Value → Option A) (w : Word) (given : List Given) (i : ℕ) → length given ≤ i → first_value f w given ≡ first_value f w (drop i given)
    → None ≡ first_value f w given
none_is f w given i past so_far = sym (so_far ∙ at_drop_all (first_value f w) given i past)
