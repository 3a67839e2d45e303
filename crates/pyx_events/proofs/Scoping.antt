-- The scopes, with one more binding in the innermost.
use Rattle.std.proofs.Common.{◌≡◌, ◌<◌, ℕ, zero, suc, List, [], ◌∷◌, ◌++◌, Option, Some, None, refl, arith, sym, ◌∙◌, drop, length, ap}
use Rattle.std.specs.Option.{option_to_list}
use Rattle.pyx_lines.specs.declared.line.Line.{Line}
use Rattle.pyx_lines.specs.declared.line.Line.TheVariants.{Attr}
use Rattle.xml_names.specs.declared.scopes.Binding.{Binding}
use Rattle.xml_names.specs.Bindings.{all_bindings}
use Rattle.pyx_events.specs.Before.{bindings, binding_of}
use Rattle.pyx_events.specs.Standing.{with_binding}

innermost_bound : (made : Option Binding) (inner : List Binding) (outer : List (List Binding)) → option_to_list made ++ all_bindings (inner ∷ outer) ≡ all_bindings (with_binding made (inner ∷ outer))
innermost_bound None inner outer = refl
innermost_bound (Some binding) inner outer = refl

outer_bound : (made : Option Binding) (inner : List Binding) (outer : List (List Binding)) (k : ℕ) → drop (suc k) (with_binding made (inner ∷ outer)) ≡ drop (suc k) (inner ∷ outer)
outer_bound None inner outer k = refl
outer_bound (Some binding) inner outer k = refl

-- an attribute line's binding is the latest of the innermost scope
pub bound_more : (before : List Line) (name value : List ℕ) (scopes : List (List Binding)) → ((k : ℕ) → bindings k before ≡ all_bindings (drop k scopes)) → 0 < length scopes
    → (k : ℕ) → bindings k (Attr name value ∷ before) ≡ all_bindings (drop k (with_binding (binding_of name value) scopes))
bound_more before name value [] bound some k = absurd (omega arith)
bound_more before name value (inner ∷ outer) bound some zero = ap (λ more. option_to_list (binding_of name value) ++ more) (bound zero) ∙ innermost_bound (binding_of name value) inner outer
bound_more before name value (inner ∷ outer) bound some (suc k) = bound (suc k) ∙ ap (λ scopes. all_bindings scopes) (sym (outer_bound (binding_of name value) inner outer k))

pub scoped_more : (made : Option Binding) (scopes : List (List Binding)) → 0 < length scopes → length (with_binding made scopes) ≡ length scopes
scoped_more made [] some = absurd (omega arith)
scoped_more None (inner ∷ outer) some = refl
scoped_more (Some binding) (inner ∷ outer) some = refl
