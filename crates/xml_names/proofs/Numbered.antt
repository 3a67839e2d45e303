-- The numbers of the URIs, after each change of what is kept.
use Rattle.std.proofs.Common.{◌≡◌, ℕ, zero, suc, ◌<◌, List, [], ◌∷◌, ◌++◌, Some, None, length, take, get_or, arith}
use Rattle.std.specs.Prelude.{slice_get, Option, IfSome}
use Rattle.shared_texts.specs.Numbers.{Keeps}
use Rattle.xml_names.specs.Kept.{AreNumbered}
use Rattle.xml_names.specs.declared.index.Declaration.{Declaration}

pub numbered_more : (uris : List (List ℕ)) (declarations : List Declaration) (it : Declaration) → slice_get uris it.number ≡ Some it.binding.uri → AreNumbered uris declarations
    → AreNumbered uris (declarations ++ it ∷ [])
numbered_more uris [] it here are = (here, tt)
numbered_more uris (first ∷ declarations) it here are = (are.0, numbered_more uris declarations it here are.1)

-- texts that are added leave the numbers of the others
pub numbered_kept : (old new : List (List ℕ)) (declarations : List Declaration) → Keeps old new → AreNumbered old declarations → AreNumbered new declarations
numbered_kept old new [] keeps are = tt
numbered_kept old new (first ∷ declarations) keeps are = (keeps first.binding.uri first.number are.0, numbered_kept old new declarations keeps are.1)

pub numbered_before : (uris : List (List ℕ)) (count : ℕ) (declarations : List Declaration) → AreNumbered uris declarations → AreNumbered uris (take count declarations)
numbered_before uris zero declarations are = tt
numbered_before uris (suc count) [] are = tt
numbered_before uris (suc count) (first ∷ declarations) are = (are.0, numbered_before uris count declarations are.1)

pub numbered_at : (uris : List (List ℕ)) (declarations : List Declaration) (k : ℕ) (d : Declaration) → k < length declarations → AreNumbered uris declarations
    → slice_get uris (get_or declarations k d).number ≡ Some (get_or declarations k d).binding.uri
numbered_at uris [] k d within are = let no : ⊥ = omega (arith, within) in absurd no
numbered_at uris (first ∷ declarations) zero d within are = are.0
numbered_at uris (first ∷ declarations) (suc k) d within are = numbered_at uris declarations k d (omega (arith, within)) are.1

-- what holds of what an answer has, if it has one
pub if_some : {X : Type 0} {P Q : X → Type 0} (answer : Option X) → ((x : X) → P x → Q x) → IfSome answer P → IfSome answer Q
if_some None then is = tt
if_some (Some x) then is = then x is
