use Rattle.std.proofs.Common.{◌≡◌, ◌≤◌, length, take}
use Rattle.xpath_binding.specs.Names.{is_named}
use Rattle.xpath_binding.specs.Places.{last_place}
use Rattle.xpath_binding.proofs.names.last_place.Given as goal

abbrev pub decreases-loop-left : goal.decreases-loop-left
decreases-loop-left l = l.left

-- none of those behind holds
abbrev pub invariant-loop-left : goal.invariant-loop-left
invariant-loop-left l = (l.left ≤ length l.names) × (last_place (is_named l.uri l.local) l.names ≡ last_place (is_named l.uri l.local) (take l.left l.names))
