use Rattle.std.proofs.Common.{◌≡◌, ◌++◌, ◌∙◌, ap, true, Some, IfSome}
use Rattle.pyx_events.specs.Flaw.{line_flaw}
use Rattle.sheet_source.specs.Building.{completed}
use Rattle.sheet_source.specs.Nodes.{sheet_limits}
use Rattle.sheet_source.specs.Reading.{flaw_in}
use Rattle.sheet_source.specs.Stops.{stop_for}
use Rattle.sheet_source.proofs.Lines.{same_flaw, told}
use Rattle.sheet_source.proofs.reading.take_line.Goals as goal

pub returns-in_err-events-clause-refused : goal.returns-in_err-events-clause-refused
returns-in_err-events-clause-refused c = λ before stands.
    let e = c.in_err-events.field-0.0 in
    told c.from_residual.result (stop_for e) (λ stop. IfSome (flaw_in stop) (λ flaw. line_flaw sheet_limits true before c.args.line ≡ Some flaw)) c.from_residual.ensures.1
    (same_flaw e (λ flaw. line_flaw sheet_limits true before c.args.line ≡ Some flaw) (c.in_err-events.ensures.answer sheet_limits before stands).refused)

pub returns-clause-taken : goal.returns-clause-taken
returns-clause-taken c = λ before stands.
    let given = c.in_ok-events.ensures.answer sheet_limits before stands in
    record {
      flawless = given.good;
      stands = c.in_ok-events.ensures.taken sheet_limits before stands;
      taken = λ later. c.in_ok-take_all.ensures later ∙ ap (λ events. completed c.args.building.now (events ++ later)) given.events;
    }
