use Rattle.engine_laws.proofs.Grows.{meaning_later, worlds_continue}
use Rattle.engine_laws.proofs.growth.meanings_go_on.Goals as goal

pub returns : goal.returns
returns c = λ sheet order id before later budget g l.
    meaning_later sheet order id before later budget
    (worlds_continue sheet id before later (c.readings_extend.ensures.reading _ _ id before later g l) (λ n. (c.known_copies_stay.ensures _ n).stays before later g l))
