use Rattle.std.proofs.Common.{◌≡◌, ◌∷◌, false}
use Rattle.xml_names.specs.Bindings.{all_bindings}
use Rattle.pyx_events.specs.Nodes.{attribute_rows}
use Rattle.std.specs.List.{list_any}
use Rattle.pyx_events.specs.Flaw.{attribute_unbound}
use Rattle.pyx_events.specs.Numbered.{AreNumbered}
use Rattle.pyx_events.proofs.elements.attribute_rows.Given as goal

abbrev pub invariant-loop-it : goal.invariant-loop-it
invariant-loop-it l = (l.rows ≡ attribute_rows (all_bindings l.scopes.scopes) l.depth l.yielded) × AreNumbered l.scopes.uris (l.element.row ∷ l.rows) l.numbers
    × (list_any (attribute_unbound (all_bindings l.scopes.scopes)) l.yielded ≡ false)
