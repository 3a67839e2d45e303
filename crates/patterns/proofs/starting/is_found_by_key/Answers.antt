use Rattle.std.proofs.Common.{ap}
use Rattle.key_sources.proofs.Saying.{went_none, says_known, says_same}
use Rattle.xpath_meaning.specs.Match.{is_found_by_key}
use Rattle.patterns.proofs.starting.is_found_by_key.Goals as goal

pub returns-in-Some-clause-answers : goal.returns-in-Some-clause-answers
returns-in-Some-clause-answers g c = says_same (λ R. ap (λ key. is_found_by_key R key c.args.value.now c.args.n) c.in-Some.is) c.has_by_key.ensures.answers

pub returns-in-None-clause-went : goal.returns-in-None-clause-went
returns-in-None-clause-went g c = went_none c.requires

pub returns-in-None-clause-answers : goal.returns-in-None-clause-answers
returns-in-None-clause-answers g c = says_known (λ R. ap (λ key. is_found_by_key R key c.args.value.now c.args.n) c.in-None.is)
