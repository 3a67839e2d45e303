-- Where a `Boxed` keeps its value, so that a type may hold itself in one. The check asks for the names
-- that begin with `the_`.
use mathlib.Core.Former.{Former, this, const, pair, via}
use mathlib.Core.Path.{refl}
use base.Fml.{ftrue}
use base.Stored.{gnil}
use denote.Hole.Fix.{over}
use denote.HoleLaws.{Alike}
use denote.HolePlaces.{Recodes, struct_places, laid, one_value}
use denote.Memory.{part_of}
use denote.Model.Placed.{view_places}
use denote.Param.Weighed.{Weighed}
use denote.RattleType.{RattleType}
use denote.RawPtr.{Ptr}
use denote.Sharing.{nothing}
use Rattle.std.specs.contracts.alloc.Global as global
use Rattle.std.specs.contracts.boxed.Box as box
use Rattle.std.specs.contracts.impls.GlobalAllocator.TheImpl as allocator
use Rattle.std.specs.declared.alloc.Global.{Global}
use Rattle.std.specs.declared.boxed.Box.{Box}
use Rattle.lists.specs.contracts.boxed.Boxed as whole
use Rattle.lists.specs.contracts.boxed.Boxed.TheInside as inside
use Rattle.lists.specs.declared.boxed.Boxed.TheInside.{Inside}
use Rattle.lists.specs.declared.boxed.Boxed.TheView as seen

-- contracts see the value itself
abbrev pub the_former : Former {0} → Former {0}
the_former value = value

abbrev pub the_weighed : {value : Former {0}} → Weighed value → Weighed (the_former value)
the_weighed weight = weight

-- the struct's one field is a `Box`: where it points, its allocator, and the value
abbrev kept : Former {0}
kept = via (pair (const (Ptr × Global)) this) Inside
    (λ X struct. ((struct.inner.ptr, struct.inner.alloc), struct.inner.value))
    (λ X parts. record { inner = record { ptr = parts.0.0; alloc = parts.0.1; value = parts.1 } })
    (λ X struct. refl) (λ X parts. refl)

-- the same box around another value
abbrev around : {X Y : Type 0} → Y → Box X Global → Box Y Global
around value b = record { ptr = b.ptr; alloc = b.alloc; value = value }

abbrev boxes : RattleType → RattleType
boxes R = box.the_row R global.the_row allocator.ghosts

module _ (R S : RattleType) (change : R.Denot → S.Denot) where
  abbrev changed : Box R.Denot Global → Box S.Denot Global
  changed b = around (change b.value) b

  -- a box has one layout at both types of value, and owns and lends the same
  boxes_alike : Alike R S change → Alike (boxes R) (boxes S) changed
  unfolding part_of
  boxes_alike value = record {
    mir_same = λ i. (boxes (one_value R (value.mir_same i) (λ _. ftrue) (λ _ _. nothing) gnil)).mir;
    own_same = λ b i. (boxes (one_value R (value.mir_same i) (value.own_same b.value i) (value.shr_same b.value i) gnil)).own_val (around tt b);
    shr_same = λ b i. (boxes (one_value R (value.mir_same i) (value.own_same b.value i) (value.shr_same b.value i) gnil)).shr_at (around tt b);
  }

  pub the_places : Alike R S change → Alike (whole.the_row R) (whole.the_row S) ((the_former this).map R.Denot S.Denot change)
  the_places value =
      let struct = struct_places (inside.the_type R) (inside.the_type S) (changed, tt) _ (λ d. refl) refl (laid _ _ _ (boxes_alike value), tt) in
      view_places kept this seen.view (λ X Y step struct. refl) (λ X struct. refl) R.Denot S.Denot change
      (whole.the_row R).coded (whole.the_row S).coded (seen.invariant R.Denot) (seen.invariant S.Denot)
      (λ u p q. refl) (λ u p q. refl) (λ u holds. tt) (λ u holds. tt) (over (inside.the_row R)) (over (inside.the_row S)) struct

  pub the_codes_placed : Recodes R S change → Recodes (whole.the_row R) (whole.the_row S) ((the_former this).map R.Denot S.Denot change)
  the_codes_placed recodes value = recodes value
