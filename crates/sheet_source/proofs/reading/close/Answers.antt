use Rattle.std.proofs.Common.{◌∙◌, ap, sym, Ok}
use Rattle.sheet_source.specs.Nodes.{sheet_limits}
use Rattle.sheet_source.specs.Stops.{stop_for}
use Rattle.sheet_source.proofs.Lines.{end_stopped, end_flawless, handed_on}
use Rattle.sheet_source.proofs.reading.close.Goals as goal

pub returns-in_err-close : goal.returns-in_err-close
returns-in_err-close c = λ before stands.
    let e = c.in_err-close.field-0.0 in
    handed_on _ c.from_residual.result (stop_for e) c.from_residual.ensures.1 (end_stopped c.args.building before e (c.in_err-close.ensures.answer sheet_limits before stands).refused)

pub returns : goal.returns
returns c = λ before stands.
    end_flawless c.args.building before (c.in_ok-close.ensures.answer sheet_limits before stands).good ∙ ap Ok (sym c.in_ok-finish.ensures)
