use Rattle.std.proofs.Common.{rules, ◌≡◌, Err}
use Rattle.sheet_compile.specs.declared.stop.CompileStop.{CompileStop}
use Rattle.sheet_compile.specs.Joining.{sheet_from}
use Rattle.sheet_compile.proofs.Exits.{circle_stops, joins_told, name_stops}
use Rattle.sheet_compile.proofs.joining.joined.Goals as goal

pub returns-in_err-sheet : goal.returns-in_err-sheet
returns-in_err-sheet c =
    let meant = sheet_from c.args.items.now c.args.scopes in
    let stop : CompileStop = c.in_err-sheet.field-0.0 in
    let given : c.from_residual.result ≡ Err stop = search rules in
    joins_told meant c.args.items.now c.from_residual.result stop given (name_stops meant c.args.items.now stop c.in_err-sheet.ensures)

pub returns-in_err-ordered : goal.returns-in_err-ordered
returns-in_err-ordered c =
    let meant = sheet_from c.args.items.now c.args.scopes in
    let stop : CompileStop = c.in_err-ordered.field-0.0 in
    let given : c.from_residual-in_err-ordered.result ≡ Err stop = search rules in
    joins_told meant c.args.items.now c.from_residual-in_err-ordered.result stop given (circle_stops meant c.args.items.now c.in_ok-sheet.sheet stop c.in_ok-sheet.ensures c.in_err-ordered.ensures)

pub returns : goal.returns
returns c = (c.in_ok-sheet.ensures, c.in_ok-ordered.ensures)
