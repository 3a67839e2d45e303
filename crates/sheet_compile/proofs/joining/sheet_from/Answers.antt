use Rattle.std.proofs.Common.{rules, ◌≡◌, Err}
use Rattle.sheet_compile.specs.Joining.{sheet_from}
use Rattle.sheet_compile.specs.Stops.{stop_of_reading}
use Rattle.sheet_compile.proofs.Exits.{names_give, names_stop, told}
use Rattle.sheet_compile.proofs.joining.sheet_from.Goals as goal

pub returns-in_err-names : goal.returns-in_err-names
returns-in_err-names c =
    let given : c.from_residual.result ≡ Err (stop_of_reading c.in_err-names.field-0.0) = search rules in
    told (sheet_from c.args.items.now c.args.scopes) c.from_residual.result (stop_of_reading c.in_err-names.field-0.0) given
    (names_stop c.args.items.now c.args.scopes c.in_err-names.field-0.0 c.in_err-names.ensures)

pub returns : goal.returns
returns c = names_give c.args.items.now c.args.scopes c.in_ok-names.names c.in_ok-sheet_of.field-0 c.in_ok-names.ensures c.in_ok-sheet_of.ensures
