use Rattle.xpath_laws.proofs.Reading.{reading_extends, without_keys_extends}
use Rattle.xpath_laws.proofs.growth.readings_extend.Goals as goal

pub returns-clause-reading : goal.returns-clause-reading
returns-clause-reading c = λ rules keys id before later g l. reading_extends c.known_values_stay.ensures rules keys id before later g l

pub returns-clause-without_keys : goal.returns-clause-without_keys
returns-clause-without_keys c = λ rules id before later g l. without_keys_extends c.known_values_stay.ensures rules id before later g l
