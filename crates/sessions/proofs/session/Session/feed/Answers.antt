use Rattle.sessions.proofs.Readers.{behind_growth}
use Rattle.sessions.proofs.session.Session.feed.Goals as goal

pub returns-clause-holds : goal.returns-clause-holds
returns-clause-holds g c = record {
  fills = c.feed.ensures.fills;
  runs = behind_growth c.args.self.now.table.cells.steps c.feed.new.table.cells.steps c.args.self.now.followers.items c.feed.ensures.grows c.requires.runs;
}
