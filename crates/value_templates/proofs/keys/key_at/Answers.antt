use Rattle.engine_meaning.specs.Sorts as means
use Rattle.value_templates.proofs.Asking.{shows_exit, shows_stops}
use Rattle.value_templates.proofs.keys.key_at.Goals as goal

pub returns-in_err-text-clause-answers : goal.returns-in_err-text-clause-answers
returns-in_err-text-clause-answers g c =
    λ sheet x. shows_exit c.from_residual.result c.from_residual.ensures.1 (shows_stops (λ w. means.key_part c.args.sort.now.number) c.in_err-text.ensures.answers)
