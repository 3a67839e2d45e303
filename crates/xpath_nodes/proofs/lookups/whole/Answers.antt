use Rattle.key_sources.proofs.Whole.{whole_shut, whole_open}
use Rattle.xpath_nodes.proofs.lookups.whole.Goals as goal

pub returns-in-Some-clause-answers : goal.returns-in-Some-clause-answers
returns-in-Some-clause-answers g c = λ lookups. record { answers = whole_shut lookups _ _ c.in-Some.ensures.value.0 }

pub returns-in-None-clause-answers : goal.returns-in-None-clause-answers
returns-in-None-clause-answers g c = λ lookups. record { answers = let a = c.in-None.ensures.value in (a.0, a.1, a.2, whole_open lookups _ (a.0) a.3) }
