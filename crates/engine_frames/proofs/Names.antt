-- The last of the values that are handed on under a name.
use Rattle.std.proofs.Common.{◌≡◌, sym, ap, ◌∙◌, ℕ, zero, suc, ◌<◌, List, [], ◌∷◌, length, drop, Bool, true, false, subst, if◌then◌else◌, Option, Some, None, arith}
use Rattle.std.proofs.Math.ListN.{get_or}
use Rattle.engine_core.specs.Holding.{AllGiven, value_of}
use Rattle.engine_meaning.specs.Places.{given_as, or_later}
use Rattle.frame_meaning.specs.Uses.{given_of, givens}
use Rattle.frames.specs.declared.parts.Handed.{Handed}
use Rattle.xpath_laws.specs.Sound.{IsValue, Rows}
use Rattle.xpath_meaning.specs.Keys.{same_name}
use Rattle.xpath_syntax.specs.declared.expression.NameRef.{NameRef}
use Rattle.xpath_values.specs.declared.value.Value.{Value}

-- one has the name, and none behind it
pub found_there : (name : NameRef) (xs : List Handed) (k : ℕ) (x : Handed) → k < length xs → x ≡ get_or xs k x → given_as name (givens (drop (suc k) xs)) ≡ None
    → same_name x.name.now name ≡ true → given_as name (givens xs) ≡ Some x.value
found_there name [] k x below is none same = absurd (omega (arith, below))
found_there name (y ∷ ys) zero x below is none same =
    ap (λ o. or_later o (given_of y) name) none
    ∙ sym (ap (λ (z : Handed). or_later None (given_of z) name) is)
    ∙ ap (λ (b : Bool). if b then Some x.value else None) same
found_there name (y ∷ ys) (suc k) x below is none same = ap (λ o. or_later o (given_of y) name) (found_there name ys k x (omega (arith, below)) is none same)

none_or_some : {A : Type 0} (x : A) → None ≡ Some x → ⊥
none_or_some x e = cc

some_same : {A : Type 0} (v x : A) → Some v ≡ Some x → v ≡ x
some_same v x e = cc

-- what is handed on under a name is one of the values that are handed on
pub given_there : (is : Rows) (name : NameRef) (xs : List Handed) (x : Value) → AllGiven is xs → given_as name (givens xs) ≡ Some x → IsValue is x
given_there is name [] x all e = absurd (none_or_some x e)
given_there is name (y ∷ ys) x all e = behind (given_as name (givens ys)) (given_there is name ys x all.1) e
  where
    here : (b : Bool) → (if b then Some (value_of y) else None) ≡ Some x → IsValue is x
    here true e = subst (IsValue is) (some_same (value_of y) x e) all.0
    here false e = absurd (none_or_some x e)

    behind : (o : Option Value) → (o ≡ Some x → IsValue is x) → or_later o (given_of y) name ≡ Some x → IsValue is x
    behind None later e = here (same_name y.name.now name) e
    behind (Some v) later e = later e
