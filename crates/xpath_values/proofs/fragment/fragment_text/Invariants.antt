use Rattle.std.proofs.Common.{◌≡◌, ◌++◌, drop}
use Rattle.std.specs.List.{flat_map}
use Rattle.xpath_values.specs.Fragments.{text_in}
use Rattle.xpath_values.proofs.fragment.fragment_text.Given as goal

abbrev pub invariant-loop-event : goal.invariant-loop-event
invariant-loop-event l = l.joined ++ flat_map text_in (drop l.event-index l.fn.events) ≡ flat_map text_in l.fn.events
