use Rattle.std.proofs.Common.{◌≡◌}
use Rattle.line_feeder.specs.Feeding.{for_good}
use Rattle.sessions.specs.Standing.{Holds, answer_of, counts_of}
use Rattle.top_cases.proofs.feeds.feed.Given as goal

abbrev pub invariant-loop : goal.invariant-loop
invariant-loop l = Holds l.session × (counts_of l.session ≡ counts_of l.fn.session) × (answer_of l.session ≡ for_good l.fed)
