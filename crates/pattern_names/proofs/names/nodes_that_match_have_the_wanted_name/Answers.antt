use Rattle.pattern_names.proofs.Missing.{not_matching}
use Rattle.pattern_names.proofs.names.nodes_that_match_have_the_wanted_name.Goals as goal

pub returns : goal.returns
returns c = λ lookups rules steps path n there e. not_matching lookups rules steps n there path e
