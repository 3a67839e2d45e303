-- The turns of a plan, and its limits.
use Rattle.std.specs.Prelude.{◌≤◌, ℕ, List, length, unwrap_or, All}
use Rattle.cmd_words.specs.declared.item.Item.{Item}
use Rattle.cmd_words.specs.declared.planned.Plan.{Plan}
use Rattle.cmd_words.specs.Items.{line_and_readers, IsItem}

-- the plan's own list, or else one line and then each reader in order
abbrev pub turns_of : Plan → List Item
turns_of plan = unwrap_or plan.turns (line_and_readers (length plan.pairs))

-- a plan has 1 to 16 pairs, and its turns are 1 to 1,000 items of so many readers
pub record IsWithinLimits (plan : Plan) : Type 0 where
  pub some_pair : 1 ≤ length plan.pairs
  pub few_pairs : length plan.pairs ≤ 16
  pub some_turn : 1 ≤ length (turns_of plan)
  pub few_turns : length (turns_of plan) ≤ 1000
  pub each_turn : All (IsItem (length plan.pairs)) (turns_of plan)
