use Rattle.std.proofs.Common.{[]}
use Rattle.view_cases.proofs.tests.looks_across.Goals as goal

pub look-third-requires : goal.look-third-requires
look-third-requires c =
    let stays = c.streams_stay.ensures
    [] c.args.table.now.cells.steps c.feed.new.table.cells.steps c.look-second.new.stream c.in_ok-feed.ensures.grows c.look-second.ensures.0 c.look-second.ensures.1 in
    (stays.joined, stays.stands)
