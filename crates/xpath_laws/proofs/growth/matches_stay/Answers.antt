use Rattle.xpath_laws.proofs.Matching.{match_stays, path_match_stays}
use Rattle.xpath_laws.proofs.growth.matches_stay.Goals as goal

pub returns-clause-pattern : goal.returns-clause-pattern
returns-clause-pattern c = λ before later pattern n x. match_stays before later x pattern n

pub returns-clause-path : goal.returns-clause-path
returns-clause-path c = λ before later path n x. path_match_stays before later x path n
