use Rattle.pattern_laws.proofs.Alternatives.{pattern_matches}
use Rattle.pattern_laws.proofs.Starting.{path_matches}
use Rattle.pattern_laws.proofs.selecting.patterns_match_what_they_select.Goals as goal

pub returns-clause-alternatives : goal.returns-clause-alternatives
returns-clause-alternatives c = λ rules keys id steps first others n l w a t. pattern_matches rules keys id steps l w first others a n t

pub returns-clause-path : goal.returns-clause-path
returns-clause-path c = λ rules keys id steps path n l w p s t. path_matches rules keys id steps l w path p s n t
