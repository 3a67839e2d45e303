use Rattle.std.proofs.Common.{subst}
use Rattle.plain_columns.specs.Seen.{seen_of}
use Rattle.plain_columns.specs.Value.{Table}
use Rattle.text_walk.specs.Turning.{TurnIs}
use Rattle.sessions.proofs.Readers.{stood_still, still_turn, turn_told}
use Rattle.sessions.proofs.follower.Follower.run.Goals as goal

-- the turn over the table as it stands
told : (c : goal.In-Ok) → TurnIs c.turn.new.self c.turn.new.into.items c.args.table.now.cells.steps c.args.table.now.cells.steps c.in-Ok.turn
told c =
    let seen = c.view.result.cells in
    let same = stood_still seen (seen_of c.turn.new.view.cells) c.in-Ok.ensures.moves in
    let is = still_turn c.turn.new.self c.turn.new.into.items seen.steps c.turn.new.view.cells.steps c.in-Ok.turn same c.in-Ok.ensures.turn in
    subst (λ (table : Table). TurnIs c.turn.new.self c.turn.new.into.items table.cells.steps table.cells.steps c.in-Ok.turn) c.view.ensures is

pub returns-in-Ok-clause-turn : goal.returns-in-Ok-clause-turn
returns-in-Ok-clause-turn c = turn_told _ _ _ _ (told c)

pub returns-in-Ok-clause-made : goal.returns-in-Ok-clause-made
returns-in-Ok-clause-made c = (c.still_turn_stands.ensures _ _ _ _ (told c)).made

pub returns-in-Ok-clause-text : goal.returns-in-Ok-clause-text
returns-in-Ok-clause-text c = (c.still_turn_stands.ensures _ _ _ _ (told c)).text
