use Rattle.pattern_laws.proofs.slashes.two_slashes_lead_to_the_descendants.Goals as goal
use Rattle.pattern_laws.proofs.Depths.{depths_are, descendants_are, slashes_are}

pub returns-clause-depths : goal.returns-clause-depths
returns-clause-depths c = λ rules keys id steps nodes values x l w a. depths_are rules keys id steps nodes values x l w a

pub returns-clause-steps : goal.returns-clause-steps
returns-clause-steps c = λ rules keys id steps test nodes values x l w a. slashes_are rules keys id steps test nodes values x l w a

pub returns-clause-descendants : goal.returns-clause-descendants
returns-clause-descendants c = λ rules keys id steps absolute test values x l w y. descendants_are rules keys id steps absolute test values x l w y
