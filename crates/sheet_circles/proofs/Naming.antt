-- Nodes that are named one after the other.
use Rattle.std.proofs.Common.{◌≡◌, refl, sym, ap, ◌∙◌, ℕ, suc, ◌<◌, List, [], ◌∷◌, ◌++◌, length, take, get_or}
use Rattle.std.specs.List.{flat_map}
use Rattle.std.proofs.lemmas.Grind.{flat_map-append}
use Rattle.std.proofs.lemmas.List.{append_assoc, append-nil}
use Rattle.std.proofs.Math.Seq.{take-suc}
use Rattle.sheet_ast.specs.declared.sheet.Sheet.{Sheet}
use Rattle.sheet_graph.specs.Graph.{names_of, mentioned}
use Rattle.sheet_graph.specs.Mentions.{Mentions}

-- what was named, and then what this mentions
pub then_named : (s : Sheet) (from names later : List ℕ) (a b : Mentions) → names ≡ from ++ names_of s a → later ≡ names ++ names_of s b → later ≡ from ++ names_of s (a ++ b)
then_named s from names later a b first second =
    second ∙ ap (λ n. n ++ names_of s b) first ∙ append_assoc from (names_of s a) (names_of s b) ∙ sym (ap (λ m. from ++ m) (flat_map-append (mentioned s) a b))

-- what is left of it is named behind what it began with
pub left_named : (s : Sheet) (from names later : List ℕ) (whole now next head : Mentions) → names ++ names_of s now ≡ from ++ names_of s whole → now ≡ head ++ next
    → later ≡ names ++ names_of s head → later ++ names_of s next ≡ from ++ names_of s whole
left_named s from names later whole now next head left is named =
    ap (λ n. n ++ names_of s next) named ∙ append_assoc names (names_of s head) (names_of s next)
    ∙ sym (ap (λ m. names ++ m) (flat_map-append (mentioned s) head next)) ∙ ap (λ m. names ++ names_of s m) (sym is) ∙ left

-- with the last of it all is named
pub all_named : (s : Sheet) (from names later : List ℕ) (whole now last : Mentions) → names ++ names_of s now ≡ from ++ names_of s whole → now ≡ last
    → later ≡ names ++ names_of s last → later ≡ from ++ names_of s whole
all_named s from names later whole now last left is named = named ∙ ap (λ m. names ++ names_of s m) (sym is) ∙ left

taken : {A : Type 0} (f : A → Mentions) (xs : List A) (i : ℕ) (x : A) → i < length xs → x ≡ get_or xs i x → flat_map f (take i xs) ++ f x ≡ flat_map f (take (suc i) xs)
taken f xs i x within is =
    ap (λ y. flat_map f (take i xs) ++ f y) is ∙ ap (λ m. flat_map f (take i xs) ++ m) (sym (append-nil (f (get_or xs i x))))
    ∙ sym (flat_map-append f (take i xs) (get_or xs i x ∷ [])) ∙ ap (flat_map f) (sym (take-suc xs i x within))

-- one more of the items
pub one_more : {A : Type 0} (s : Sheet) (f : A → Mentions) (from names later : List ℕ) (xs : List A) (i : ℕ) (x : A)
    → names ≡ from ++ names_of s (flat_map f (take i xs)) → i < length xs → x ≡ get_or xs i x → later ≡ names ++ names_of s (f x)
    → later ≡ from ++ names_of s (flat_map f (take (suc i) xs))
one_more s f from names later xs i x before within is named =
    then_named s from names later (flat_map f (take i xs)) (f x) before named ∙ ap (λ m. from ++ names_of s m) (taken f xs i x within is)

-- One part after the other, of what is known by an equation.

pub one_named : (s : Sheet) (from later : List ℕ) (whole a : Mentions) → whole ≡ a → later ≡ from ++ names_of s a → later ≡ from ++ names_of s whole
one_named s from later whole a is named = named ∙ ap (λ m. from ++ names_of s m) (sym is)

pub two_named : (s : Sheet) (from first later : List ℕ) (whole a b : Mentions) → whole ≡ a ++ b → first ≡ from ++ names_of s a → later ≡ first ++ names_of s b
    → later ≡ from ++ names_of s whole
two_named s from first later whole a b is x y = one_named s from later whole (a ++ b) is (then_named s from first later a b x y)

pub three_named : (s : Sheet) (from first second later : List ℕ) (whole a b d : Mentions) → whole ≡ a ++ b ++ d → first ≡ from ++ names_of s a
    → second ≡ first ++ names_of s b → later ≡ second ++ names_of s d → later ≡ from ++ names_of s whole
three_named s from first second later whole a b d is x y z = two_named s from second later whole (a ++ b) d is (then_named s from first second a b x y) z

pub four_named : (s : Sheet) (from first second third later : List ℕ) (whole a b d e : Mentions) → whole ≡ a ++ b ++ d ++ e → first ≡ from ++ names_of s a
    → second ≡ first ++ names_of s b → third ≡ second ++ names_of s d → later ≡ third ++ names_of s e → later ≡ from ++ names_of s whole
four_named s from first second third later whole a b d e is x y z w =
    three_named s from second third later whole (a ++ b) d e is (then_named s from first second a b x y) z w
