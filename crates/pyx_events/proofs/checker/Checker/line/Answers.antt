use Rattle.std.proofs.Common.{◌≡◌, ap, ◌∙◌}
use Rattle.pyx_events.specs.Checking.{Checking}
use Rattle.pyx_events.proofs.checker.Checker.line.Goals as goal

pub returns-in-Ok-clause-answer : goal.returns-in-Ok-clause-answer
returns-in-Ok-clause-answer c = λ limits before stands.
    let opened : c.self.inside.progress ≡ c.args.self.now.progress = ap (λ (it : Checking). it.progress) c.self.view_is in
    c.in-Ok.ensures.answer limits before (rw opened stands.taken)

pub returns-in-Ok-clause-taken : goal.returns-in-Ok-clause-taken
returns-in-Ok-clause-taken c = λ limits before stands.
    let opened : c.self.inside.progress ≡ c.args.self.now.progress = ap (λ (it : Checking). it.progress) c.self.view_is in
    record {
      going = ap (λ (it : Checking). it.halt) c.self.view_is ∙ stands.going;
      taken = c.in-Ok.ensures.taken limits before (rw opened stands.taken);
    }

pub returns-in-Err-clause-answer : goal.returns-in-Err-clause-answer
returns-in-Err-clause-answer c = λ limits before stands.
    let opened : c.self.inside.progress ≡ c.args.self.now.progress = ap (λ (it : Checking). it.progress) c.self.view_is in
    c.in-Err.ensures.answer limits before (rw opened stands.taken)
