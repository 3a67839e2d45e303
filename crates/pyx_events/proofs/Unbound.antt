-- Attribute lines of which none has an unbound prefix.
use Rattle.std.proofs.Common.{◌≡◌, List, [], ◌∷◌, ◌++◌, Bool, false, refl}
use Rattle.std.specs.List.{list_any}
use Rattle.std.proofs.lemmas.List.Folds.{list_any-append}
use Rattle.xml_names.specs.declared.scopes.Binding.{Binding}
use Rattle.name_grammar.specs.Names.{prefix_of}
use Rattle.pyx_events.specs.Before.{is_declaration}
use Rattle.pyx_events.specs.Flaw.{is_unbound, attribute_unbound}
use Rattle.pyx_events.specs.declared.pending_start.Attribute.{Attribute}

-- an attribute is judged by its prefix
pub judged : (bound : List Binding) (it : Attribute) (is : Bool) → is_declaration it.name ≡ false → is_unbound bound (prefix_of it.name) ≡ is → attribute_unbound bound it ≡ is
judged bound it is undeclared unbound = rw (undeclared, unbound) refl

-- no prefix is unbound with one line more
pub none_more : (bound : List Binding) (lines : List Attribute) (it : Attribute) → list_any (attribute_unbound bound) lines ≡ false → attribute_unbound bound it ≡ false
    → list_any (attribute_unbound bound) (lines ++ it ∷ []) ≡ false
none_more bound lines it none bound_too = rw (list_any-append (attribute_unbound bound) lines (it ∷ []), none, bound_too) refl
