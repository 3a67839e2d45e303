use Rattle.std.proofs.Common.{[], ◌∙◌}
use Rattle.sheet_source.proofs.Taking.{shut_at_end}
use Rattle.sheet_source.proofs.building.Building.finish.Goals as goal

pub loop-building-preserved : goal.loop-building-preserved
loop-building-preserved c = c.in_ok-shut.ensures.taken [] ∙ shut_at_end c.loop-building.building ∙ c.loop-building.invariant
