-- The scopes inside of an element are one more than those around it.
use Rattle.std.proofs.Common.{◌≡◌, refl, sym, ap, ◌∙◌, arith, ℕ, suc, ◌+◌, ◌<◌, ◌≤◌, List, [], ◌∷◌, length, Bool, true, false, cond}
use Rattle.xml_names.specs.declared.scopes.Binding.{Binding}
use Rattle.xml_names.specs.Bindings.{bound_in, is_fixed}
use Rattle.sheet_reading.specs.Declaring.{all_declared, around, declared, inside}

declared_by : (inner : List Binding) (outer : List (List Binding)) (binding : Binding) (b : Bool) → is_fixed binding.prefix ≡ b
    → (more : List Binding) × (declared (inner ∷ outer) binding ≡ more ∷ outer)
declared_by inner outer binding true is = (inner, rw is refl)
declared_by inner outer binding false is = (binding ∷ inner, rw is refl)

-- declarations change the innermost scope alone
all_in_one : (inner : List Binding) (outer : List (List Binding)) (bindings : List Binding) → (more : List Binding) × (all_declared (inner ∷ outer) bindings ≡ more ∷ outer)
all_in_one inner outer [] = (inner, refl)
all_in_one inner outer (binding ∷ bindings) =
    let one = declared_by inner outer binding (is_fixed binding.prefix) refl in
    let rest = all_in_one one.0 outer bindings in
    (rest.0, ap (λ scopes. all_declared scopes bindings) one.1 ∙ rest.1)

pub around_inside : (outer : List (List Binding)) (bindings : List Binding) → around (inside outer bindings) ≡ outer
around_inside outer bindings = ap around (all_in_one [] outer bindings).1

pub one_more : (outer : List (List Binding)) (bindings : List Binding) → length (inside outer bindings) ≡ suc (length outer)
one_more outer bindings = ap (λ scopes. length scopes) (all_in_one [] outer bindings).1
