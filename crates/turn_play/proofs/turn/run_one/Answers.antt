use Rattle.std.proofs.Common.{◌∙◌}
use Rattle.std.specs.Prelude.{Result, Ok, Err, OnOk}
use Rattle.turn_play.proofs.turn.run_one.Goals as goal

always : {T E : Type 0} (r : Result T E) (P : Type 0) → P → OnOk r P
always (Ok x) P p = p
always (Err e) P p = tt

pub returns-clause-at : goal.returns-clause-at
returns-clause-at c = always c.map_err-2.result _
    (λ limits told left count at. record { limited = c.run.ensures.limits ∙ at.limited; lines = at.lines; fed = c.in_ok-run.ensures.fed told left at.lines at.fed; counted = at.counted })
