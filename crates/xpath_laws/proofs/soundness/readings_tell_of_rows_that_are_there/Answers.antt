use Rattle.xpath_laws.proofs.There.{reading_told, without_keys_told}
use Rattle.xpath_laws.proofs.soundness.readings_tell_of_rows_that_are_there.Goals as goal

pub returns-clause-reading : goal.returns-clause-reading
returns-clause-reading c = λ rules keys id steps. reading_told rules keys id steps

pub returns-clause-without_keys : goal.returns-clause-without_keys
returns-clause-without_keys c = λ rules id steps. without_keys_told rules id steps
