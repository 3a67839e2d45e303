-- The items behind a handle.
use Rattle.std.specs.Prelude.{List, [], Option, Some, None}
use Rattle.std.specs.declared.alloc.Global.{Global}
use Rattle.std.specs.declared.rc.RcSlice.{RcSlice}
use Rattle.std.specs.Rc.{rc_slice_items}

module _ {X : Type 0} where
  -- none where there is no handle
  abbrev pub shared_items : Option (RcSlice X Global) → List X
  shared_items None = []
  shared_items (Some items) = rc_slice_items items
