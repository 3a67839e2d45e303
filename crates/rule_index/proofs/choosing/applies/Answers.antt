use Rattle.std.proofs.Common.{ap, sym}
use Rattle.key_sources.proofs.Saying.{went_none, says_known, says_same}
use Rattle.rule_index.specs.Applying.{some_applies}
use Rattle.rule_index.proofs.choosing.applies.Goals as goal

pub returns-in-Some-clause-answers : goal.returns-in-Some-clause-answers
returns-in-Some-clause-answers g c = says_same (λ R. ap (some_applies R c.args.mode c.args.n) (sym c.in-Some.ensures)) c.rule_applies.ensures.answers

pub returns-in-None-clause-went : goal.returns-in-None-clause-went
returns-in-None-clause-went g c = went_none c.requires.stands

pub returns-in-None-clause-answers : goal.returns-in-None-clause-answers
returns-in-None-clause-answers g c = says_known (λ R. ap (some_applies R c.args.mode c.args.n) (sym c.in-None.ensures))
