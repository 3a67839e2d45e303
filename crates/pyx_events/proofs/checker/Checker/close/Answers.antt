use Rattle.std.proofs.Common.{◌≡◌, ap}
use Rattle.pyx_events.specs.Checking.{Checking}
use Rattle.pyx_events.proofs.checker.Checker.close.Goals as goal

pub returns-in-Err-clause-answer : goal.returns-in-Err-clause-answer
returns-in-Err-clause-answer c = λ limits before stands.
    let opened : c.self.inside.progress ≡ c.args.self.now.progress = ap (λ (it : Checking). it.progress) c.self.view_is in
    c.in-Err.ensures limits before (rw opened stands.taken)
