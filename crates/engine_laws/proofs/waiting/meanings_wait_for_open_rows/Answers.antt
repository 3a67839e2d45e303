use Rattle.engine_laws.proofs.Awaited.{waits_for_open, whole_waits_for_none}
use Rattle.engine_laws.proofs.waiting.meanings_wait_for_open_rows.Goals as goal

pub returns-clause-waits : goal.returns-clause-waits
returns-clause-waits c = λ sheet order id steps budget m s e. waits_for_open sheet order id steps budget m s (c.readings_tell_of_rows_that_are_there.ensures.reading _ _ id steps) e

pub returns-clause-whole : goal.returns-clause-whole
returns-clause-whole c = λ sheet order id steps budget m s w e. whole_waits_for_none sheet order id steps budget m s (c.readings_tell_of_rows_that_are_there.ensures.reading _ _ id steps) w e
