-- Where a `List` keeps its items, so that a type may hold a list of itself. The check asks for the names
-- that begin with `the_`: how a value splits into items, their weight, and that two lists whose items lie
-- alike lie alike themselves.
use mathlib.Core.Former.{Former, this, list, via, children}
use mathlib.Core.List.{List, []}
use mathlib.Core.Path.{◌≡◌, refl, sym}
use base.Stored.{code_map}
use denote.Hole.Carrier.{listed, list-listed}
use denote.Hole.Fix.{over}
use denote.HoleLaws.{Alike}
use denote.HolePlaces.{Recodes, struct_places, laid}
use denote.Model.Placed.{view_places}
use denote.Param.Weighed.{Weighed, w_list}
use denote.RattleType.{RattleType}
use Rattle.std.specs.contracts.alloc.Global as global
use Rattle.std.specs.contracts.impls.GlobalAllocator.TheImpl as allocator
use Rattle.std.specs.declared.alloc.Global.{Global}
use Rattle.std.specs.formers.vec.Vec as vec
use Rattle.lists.specs.contracts.list.List as whole
use Rattle.lists.specs.contracts.list.List.TheInside as inside
use Rattle.lists.specs.declared.list.List.TheInside.{Inside}
use Rattle.lists.specs.declared.list.List.TheView as seen

-- contracts see the list itself, which splits into its items and their number
abbrev pub the_former : Former {0} → Former {0}
the_former item = list item

abbrev pub the_weighed : {item : Former {0}} → Weighed item → Weighed (the_former item)
the_weighed weight = w_list weight

-- with no item there is still the empty list, so a type that leads back through lists has a first value
abbrev pub the_empty : List ⊥
the_empty = []

abbrev pub the_items : (X : Type 0) → List X → List X
the_items X items = items

pub the_items_listed : (X : Type 0) (items : List X) → listed _ (children (the_former this) X items) ≡ the_items X items
the_items_listed X items = list-listed X items

-- the struct's one field is a `Vec` of the items
abbrev kept : Former {0}
kept = via (vec.the_former this Global) Inside (λ X struct. struct.items) (λ X items. record { items = items }) (λ X struct. refl) (λ X items. refl)

module _ (R S : RattleType) (change : R.Denot → S.Denot) where
  -- a list lies where its `Vec` lies, since the view shows the items of the field in their order
  pub the_places : Alike R S change → Alike (whole.the_row R) (whole.the_row S) ((the_former this).map R.Denot S.Denot change)
  the_places items =
      let field = vec.the_places global.the_row allocator.ghosts R S change items in
      let struct = struct_places (inside.the_type R) (inside.the_type S) (vec.mapped change, tt) _ (λ d. refl) refl (laid _ _ _ field, tt) in
      view_places kept (list this) seen.view (λ X Y step struct. refl) (λ X struct. refl) R.Denot S.Denot change
      (whole.the_row R).coded (whole.the_row S).coded (seen.invariant R.Denot) (seen.invariant S.Denot)
      (λ u p q. refl) (λ u p q. refl) (λ u holds. tt) (λ u holds. tt) (over (inside.the_row R)) (over (inside.the_row S)) struct

  -- what is changed item by item has the codes of the changed items
  pub the_codes_placed : Recodes R S change → Recodes (whole.the_row R) (whole.the_row S) ((the_former this).map R.Denot S.Denot change)
  the_codes_placed recodes items = sym (code_map R.coded.code S.coded.code change (λ item. sym (recodes item)) items)
