use Rattle.std.proofs.Common.{ap}
use Rattle.key_sources.proofs.Saying.{went_none, says_known, says_same}
use Rattle.xpath_meaning.specs.Match.{starts}
use Rattle.patterns.proofs.starting.starts.Goals as goal

pub returns-in-Relative-clause-went : goal.returns-in-Relative-clause-went
returns-in-Relative-clause-went g c = went_none c.requires

pub returns-in-Relative-clause-answers : goal.returns-in-Relative-clause-answers
returns-in-Relative-clause-answers g c = says_known (λ R. ap (λ start. starts R start c.args.n) c.in-Relative.is)

pub returns-in-Root-clause-went : goal.returns-in-Root-clause-went
returns-in-Root-clause-went g c = went_none c.requires

pub returns-in-Root-clause-answers : goal.returns-in-Root-clause-answers
returns-in-Root-clause-answers g c = says_known (λ R. ap (λ start. starts R start c.args.n) c.in-Root.is)

pub returns-in-Deep-clause-went : goal.returns-in-Deep-clause-went
returns-in-Deep-clause-went g c = went_none c.requires

pub returns-in-Deep-clause-answers : goal.returns-in-Deep-clause-answers
returns-in-Deep-clause-answers g c = says_known (λ R. ap (λ start. starts R start c.args.n) c.in-Deep.is)

pub returns-in-Id-clause-answers : goal.returns-in-Id-clause-answers
returns-in-Id-clause-answers g c = says_same (λ R. ap (λ start. starts R start c.args.n) c.in-Id.is) c.is_found_by_ids.ensures.answers

pub returns-in-Key-clause-answers : goal.returns-in-Key-clause-answers
returns-in-Key-clause-answers g c = says_same (λ R. ap (λ start. starts R start c.args.n) c.in-Key.is) c.is_found_by_key.ensures.answers
