use Rattle.pyx_source.proofs.FeedLemmas.{feed_at, no_feed}
use Rattle.pyx_source.proofs.pending.first_feed.Goals as goal

pub returns-in-Some-clause-found : goal.returns-in-Some-clause-found
returns-in-Some-clause-found c = feed_at c.args.held.now c.args.scanned c.in-Some.at c.requires.within c.requires.seen c.in-Some.ensures

pub returns-in-None-clause-none : goal.returns-in-None-clause-none
returns-in-None-clause-none c = no_feed c.args.held.now c.args.scanned c.requires.seen c.in-None.ensures
