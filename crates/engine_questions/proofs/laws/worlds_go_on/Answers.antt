use Rattle.engine_questions.proofs.Staying.{worlds_continue}
use Rattle.engine_questions.proofs.laws.worlds_go_on.Goals as goal

pub returns : goal.returns
returns c = λ lookups rules before later g l.
    worlds_continue lookups rules before later (c.readings_extend.ensures.reading _ _ _ before later g l) (λ n. (c.known_copies_stay.ensures _ n).stays before later g l)
