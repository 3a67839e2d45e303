use Rattle.line_feeder.proofs.Answers.{kept_for_good}
use Rattle.line_feeder.proofs.feeder.Feeder.feed.Goals as goal

pub returns-in-Some-clause-kept : goal.returns-in-Some-clause-kept
returns-in-Some-clause-kept g c = kept_for_good c.args.self.now.answer c.in-Some.fed c.in-Some.is c.args.self.now.lasting
